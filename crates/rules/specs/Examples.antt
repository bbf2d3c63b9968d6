-- Worked examples of the sums: what the definitions give for tasks that can be followed by hand.
use Rattle.std.specs.Prelude.{◌≡◌, ℕ, List, [], ◌∷◌, Some, None}
use Rattle.analysis.specs.declared.task.Task.{Task}
use Rattle.analysis.specs.declared.task.BoundedTask.{BoundedTask}
use Rattle.analysis.specs.Work.{amount}
use Rattle.rules.specs.Bounds.{rebound}
use Rattle.rules.specs.Rules.{response, deadline, all_carry}
use Rattle.rules.specs.Search.{bound_of}

abbrev pub task : ℕ → ℕ → ℕ → ℕ → Task
task l c d t = record { level = l; run = c; deadline = d; gap = t }

abbrev pub shows : Task → ℕ → BoundedTask
shows k x = record { task = k; bound = x }

-- the tasks of a small house; level 30 with the deadline d
abbrev pub ten : Task
ten = task 10 2 4 5

abbrev pub twenty : Task
twenty = task 20 3 6 8

abbrev pub thirty : ℕ → Task
thirty d = task 30 2 d 10

abbrev pub fifteen : Task
fifteen = task 15 3 7 7

abbrev pub house : List BoundedTask
house = shows ten 2 ∷ shows twenty 3 ∷ shows (thirty 6) 4 ∷ []

-- levels 10 and 20 with the bounds of the response rule, and of the deadline rule
abbrev pub by_response : List BoundedTask
by_response = shows ten 2 ∷ shows twenty 3 ∷ []

abbrev pub by_deadline : List BoundedTask
by_deadline = shows ten 4 ∷ shows twenty 6 ∷ []

-- all on two cores
pub record Examples : Type 0 where
  -- C 2, T 5, in windows of 0, 1, 4, 5, 6 and 8 slots
  pub amount_0 : amount 2 5 0 ≡ 0
  pub amount_1 : amount 2 5 1 ≡ 1
  pub amount_4 : amount 2 5 4 ≡ 2
  pub amount_5 : amount 2 5 5 ≡ 2
  pub amount_6 : amount 2 5 6 ≡ 3
  pub amount_8 : amount 2 5 8 ≡ 4
  -- the house shows 2, 3 and 4 by the response rule, whatever bounds it showed before
  pub house_shows :
      (a b c : ℕ) →
      rebound response 2 [] (shows ten a ∷ shows twenty b ∷ shows (thirty 6) c ∷ []) ≡ record { done = house; left = [] }
  -- level 30 with D 4 has a bound, and with D 3 none
  pub response_4 : bound_of response (thirty 4) by_response 2 ≡ Some 4
  pub response_3 : bound_of response (thirty 3) by_response 2 ≡ None
  -- by the deadline rule level 30 with D 5 is accepted, and with D 4 not
  pub deadline_5 : bound_of deadline (thirty 5) by_deadline 2 ≡ Some 5
  pub deadline_4 : bound_of deadline (thirty 4) by_deadline 2 ≡ None
  -- with D 6 its deadline total is 7 and its all-carry total 8
  pub deadline_total : deadline.total (thirty 6) by_deadline 2 6 ≡ 7
  pub all_carry_total : all_carry.total (thirty 6) by_deadline 2 6 ≡ 8
  -- with level 15 added the response rule shows 3 for it, and 5 and 6 for levels 20 and 30
  pub fifteen_enters :
      rebound response 2 (shows ten 2 ∷ []) (shows fifteen 7 ∷ shows twenty 3 ∷ shows (thirty 6) 4 ∷ [])
      ≡ record { done = shows ten 2 ∷ shows fifteen 3 ∷ shows twenty 5 ∷ shows (thirty 6) 6 ∷ []; left = [] }

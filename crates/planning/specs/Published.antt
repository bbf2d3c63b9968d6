-- The published schedulability test for global fixed priority on m cores, in its own words: a task set passes if every task
-- k satisfies, for every choice S of at most m - 1 tasks above k,
--   Σ I_NC(i) + Σ over S of (I_CI(i) - I_NC(i))  <  m × (D_k - C_k + 1).
use Rattle.std.specs.Prelude.{◌≡◌, ℕ, ◌+◌, ◌-◌, ◌*◌, ◌/◌, ◌<◌, ◌≤◌, min, Bool, List, [], ◌∷◌, ◌++◌, length, None, Ok, Err, Result, sum_by, filter}
use Rattle.planning.specs.declared.refusal.Refusal.{Refusal}
use Rattle.planning.specs.declared.refusal.Refusal.TheVariants.{NoBound}
use Rattle.analysis.specs.declared.task.Task.{Task}
use Rattle.planning.specs.Admission.{first_fault, by_level}

-- I_NC: the interference of task i without a carried-in job, in a window of D_k slots
abbrev pub i_nc : Task → Task → ℕ
i_nc k i =
    min (k.deadline / i.gap * i.run + min i.run (k.deadline - k.deadline / i.gap * i.gap)) (k.deadline - k.run + 1)

-- N: how many jobs of i can run to their end in the window, with a carried-in job
abbrev pub jobs : Task → Task → ℕ
jobs k i = (k.deadline + i.deadline - i.run) / i.gap

-- I_CI: the interference of task i with a carried-in job
abbrev pub i_ci : Task → Task → ℕ
i_ci k i =
    min (jobs k i * i.run + min i.run (k.deadline + i.deadline - i.run - jobs k i * i.gap)) (k.deadline - k.run + 1)

-- the tasks of the list whose levels are chosen
abbrev pub chosen : (ℕ → Bool) → List Task → List Task
chosen S tasks = filter (λ i. S i.level) tasks

-- the left side of the test, for the choice S
abbrev pub load : Task → List Task → (ℕ → Bool) → ℕ
load k above S = sum_by (i_nc k) above + sum_by (λ i. i_ci k i - i_nc k i) (chosen S above)

abbrev pub limit : ℕ → Task → ℕ
limit m k = m * (k.deadline - k.run + 1)

-- task k satisfies the test
abbrev pub Satisfies : ℕ → List Task → Task → Type 0
Satisfies m above k = (S : ℕ → Bool) → length (chosen S above) ≤ m - 1 → load k above S < limit m k

-- every task of the list does, `above` being the tasks before the list
abbrev pub EachSatisfies : ℕ → List Task → List Task → Type 0
EachSatisfies m above [] = Unit {0}
EachSatisfies m above (k ∷ ks) = Satisfies m above k × EachSatisfies m (above ++ k ∷ []) ks

-- no task is at fault, and each satisfies the test against the more urgent ones
abbrev pub Schedulable : ℕ → List Task → Type 0
Schedulable m tasks = (first_fault [] tasks ≡ None) × EachSatisfies m [] (by_level tasks)

-- the most urgent task that does not satisfy the test has this level: those above it do, and some choice breaks it
pub record Broken (m : ℕ) (tasks : List Task) (level : ℕ) : Type 0 where
  pub above : List Task
  pub task : Task
  pub below : List Task
  pub split : by_level tasks ≡ above ++ task ∷ below
  pub at_level : task.level ≡ level
  pub above_satisfy : EachSatisfies m [] above
  pub choice : ℕ → Bool
  pub few : length (chosen choice above) ≤ m - 1
  pub breaks : limit m task ≤ load task above choice

-- a verdict by the published test
pub record Judged (m : ℕ) (tasks : List Task) (v : Result (Unit {0}) Refusal) : Type 0 where
  -- it accepts exactly the schedulable sets
  pub accepts : v ≡ Ok tt → Schedulable m tasks
  pub accepted : Schedulable m tasks → v ≡ Ok tt
  -- and a refusal for want of a bound names the most urgent task that breaks the test
  pub refuses : (level : ℕ) → v ≡ Err (NoBound level) → Broken m tasks level

-- The bounds of a task set: each is worked out with the bounds just found, most urgent first.
use Rattle.std.specs.Prelude.{◌≡◌, ℕ, Bool, true, ◌&&◌, List, [], ◌∷◌, ◌++◌, map, length, Some, None, Ok, Err, Result, nat_le, nat_lt}
use Rattle.rules.specs.declared.unbounded.NoBound.{NoBound}
use Rattle.analysis.specs.declared.task.Task.{Task}
use Rattle.analysis.specs.declared.task.BoundedTask.{BoundedTask}
use Rattle.analysis.specs.Interference.{level_of}
use Rattle.analysis.specs.Tasks.{within_limits}
use Rattle.rules.specs.Rules.{Rule}
use Rattle.rules.specs.Search.{bound_of, IsBound}

abbrev pub with_bound : BoundedTask → ℕ → BoundedTask
with_bound i x = record { task = i.task; bound = x }

-- how far the bounds of a set were worked out
pub record Rebound : Type 0 where
  -- the tasks with their bounds
  pub done : List BoundedTask
  -- from the first task without a bound on, as they were; empty where every task has one
  pub left : List BoundedTask

-- `done` are the tasks above the list, with their bounds
unfoldable pub rebound : Rule → ℕ → List BoundedTask → List BoundedTask → Rebound
rebound r m done [] = record { done = done; left = [] }
rebound r m done (i ∷ is) =
    elim (bound_of r i.task done m) [
      | Some x ↦ rebound r m (done ++ with_bound i x ∷ []) is
      | None ↦ record { done = done; left = i ∷ is }
    ]

-- the whole set then
abbrev pub rebound_set : Rebound → List BoundedTask
rebound_set o = o.done ++ o.left

-- the place and the level of the first task without a bound
abbrev pub rebound_answer : Rebound → Result (Unit {0}) NoBound
rebound_answer o = lacking_at (length o.done) o.left
  where
    lacking_at : ℕ → List BoundedTask → Result (Unit {0}) NoBound
    lacking_at place [] = Ok tt
    lacking_at place (i ∷ is) = Err (record { place = place; level = level_of i })

-- each task of a list has as its bound the least window that passes, against those before it
abbrev pub Bounded : Rule → ℕ → List BoundedTask → List BoundedTask → Type 0
Bounded r m above [] = Unit {0}
Bounded r m above (i ∷ is) = IsBound r i.task above m (Some i.bound) × Bounded r m (above ++ i ∷ []) is

-- the first task of a list has no bound
abbrev pub Lacking : Rule → ℕ → List BoundedTask → List BoundedTask → Type 0
Lacking r m above [] = Unit {0}
Lacking r m above (i ∷ is) = IsBound r i.task above m None

abbrev pub tasks_of : List BoundedTask → List Task
tasks_of is = map (λ i. i.task) is

-- what the bounds of a list are, in words: the same tasks, each with the least window that passes against those before it,
-- up to the first for which no window passes
pub record Rebounded (r : Rule) (m : ℕ) (above is : List BoundedTask) (o : Rebound) : Type 0 where
  pub fresh : List BoundedTask
  pub done_is : o.done ≡ above ++ fresh
  pub same_tasks : tasks_of (fresh ++ o.left) ≡ tasks_of is
  pub bounded : Bounded r m above fresh
  pub lacking : Lacking r m o.done o.left

-- levels rise strictly, and every task is within its limits
abbrev pub below : ℕ → List BoundedTask → Bool
below l [] = true
below l (i ∷ is) = nat_lt l (level_of i) && below (level_of i) is

abbrev pub rises : List BoundedTask → Bool
rises [] = true
rises (i ∷ is) = below (level_of i) is

abbrev pub all_within : List BoundedTask → Bool
all_within [] = true
all_within (i ∷ is) = within_limits i.task && all_within is

-- a set whose bounds can be worked out: 1 to 8 cores, at most 32 tasks, most urgent first, each within its limits
abbrev pub set_fits : ℕ → List BoundedTask → Bool
set_fits m set = (nat_le 1 m && nat_le m 8) && (nat_le (length set) 32 && (all_within set && rises set))

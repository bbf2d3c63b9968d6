-- What a task set keeps: every bound passes the window test against the tasks above it.
use Rattle.std.specs.Prelude.{◌≡◌, ℕ, true, List, [], ◌∷◌, ◌++◌}
use Rattle.analysis.specs.declared.task.BoundedTask.{BoundedTask}
use Rattle.analysis.specs.Interference.{interference, lawful, passes}

-- task i, with its bound as the window, against the more urgent tasks
pub record Holds (m : ℕ) (above : List BoundedTask) (i : BoundedTask) : Type 0 where
  -- 1 to 8 cores, at most 31 tasks above, no two at one level, every task within its limits, C ≤ bound ≤ D
  pub fits : lawful i.task above m i.bound ≡ true
  -- the bound passes with the interference
  pub tested : passes i.task m i.bound (interference i.task above m i.bound) ≡ true

-- each task of a list, most urgent first, `above` being the tasks before the list
abbrev pub Kept : ℕ → List BoundedTask → List BoundedTask → Type 0
Kept m above [] = Unit {0}
Kept m above (i ∷ is) = Holds m above i × Kept m (above ++ i ∷ []) is

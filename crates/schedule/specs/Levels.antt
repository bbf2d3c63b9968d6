-- Tasks by level. No two tasks of a set that keeps its bounds share a level.
use Rattle.std.specs.Prelude.{ℕ, cond, List, [], ◌∷◌, ◌==◌}
use Rattle.analysis.specs.declared.task.BoundedTask.{BoundedTask}
use Rattle.analysis.specs.Interference.{level_of}

-- a blank one, for a level without a task: with a run time of 0 it can have no job
abbrev pub no_task : BoundedTask
no_task = record { task = record { level = 0; run = 0; deadline = 0; gap = 1 }; bound = 0 }

-- the task at level l, or the blank one
abbrev pub at_level : ℕ → List BoundedTask → BoundedTask
at_level l [] = no_task
at_level l (i ∷ is) = cond (level_of i == l) i (at_level l is)

abbrev pub run_at : List BoundedTask → ℕ → ℕ
run_at set l = (at_level l set).task.run

abbrev pub gap_at : List BoundedTask → ℕ → ℕ
gap_at set l = (at_level l set).task.gap

abbrev pub bound_at : List BoundedTask → ℕ → ℕ
bound_at set l = (at_level l set).bound

abbrev pub deadline_at : List BoundedTask → ℕ → ℕ
deadline_at set l = (at_level l set).task.deadline

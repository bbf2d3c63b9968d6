-- Which task set can be looked at at all: the checks of each task in the order of the list.
use Rattle.std.specs.Prelude.{ℕ, Bool, cond, List, [], ◌∷◌, ◌++◌, length, Some, None, Option, nat_lt}
use Rattle.queues.specs.Sets.{sort}
use Rattle.planning.specs.declared.refusal.Refusal.{Refusal}
use Rattle.planning.specs.declared.refusal.Refusal.TheVariants.{BadLevel, BadTiming, LevelTaken, TooManyTasks}
use Rattle.analysis.specs.declared.task.Task.{Task}
use Rattle.analysis.specs.Interference.{taken}
use Rattle.analysis.specs.Tasks.{level_fits, timing_fits}

abbrev pub task_level : Task → ℕ
task_level k = k.level

-- why task k cannot stand beside the tasks `before` it in the list
abbrev pub task_fault : List Task → Task → Option Refusal
task_fault before k =
    cond (level_fits k)
    (cond (timing_fits k)
    (cond (taken task_level k.level before) (Some (LevelTaken k.level))
    (cond (nat_lt (length before) 32) None (Some (TooManyTasks k.level))))
    (Some (BadTiming k.level)))
    (Some (BadLevel k.level))

abbrev pub or_else : {A : Type 0} → Option A → Option A → Option A
or_else (Some x) o = Some x
or_else None o = o

-- the fault of the first task that has one
abbrev pub first_fault : List Task → List Task → Option Refusal
first_fault before [] = None
first_fault before (k ∷ ks) = or_else (task_fault before k) (first_fault (before ++ k ∷ []) ks)

-- the tasks, most urgent first
abbrev pub more_urgent : Task → Task → Bool
more_urgent a b = nat_lt a.level b.level

abbrev pub by_level : List Task → List Task
by_level tasks = sort more_urgent tasks

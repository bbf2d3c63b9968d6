-- The rows of a task set under the deadline rule, and the verdict on it.
use Rattle.std.specs.Prelude.{ℕ, min, max, Bool, cond, List, [], ◌∷◌, ◌++◌, map, Some, None, Ok, Err, Option, Result}
use Rattle.planning.specs.declared.refusal.Refusal.{Refusal}
use Rattle.planning.specs.declared.refusal.Refusal.TheVariants.{NoBound}
use Rattle.analysis.specs.declared.task.Task.{Task}
use Rattle.analysis.specs.declared.task.BoundedTask.{BoundedTask}
use Rattle.planning.specs.declared.verdict.Row.{Row}
use Rattle.planning.specs.Admission.{first_fault, by_level}
use Rattle.analysis.specs.Interference.{total, passes}

-- under the deadline rule a task's bound is its deadline
abbrev pub at_deadline : Task → BoundedTask
at_deadline k = record { task = k; bound = k.deadline }

abbrev pub all_at_deadline : List Task → List BoundedTask
all_at_deadline ks = map at_deadline ks

-- the total of task i at its bound, with the tasks above it
abbrev pub row_total : ℕ → List BoundedTask → BoundedTask → ℕ
row_total m above i = total i.task above m i.bound

abbrev pub row_of : ℕ → List BoundedTask → BoundedTask → Row
row_of m above i = record { task = i.task; total = row_total m above i; bound = i.bound }

abbrev pub row_passes : ℕ → List BoundedTask → BoundedTask → Bool
row_passes m above i = passes i.task m i.bound (row_total m above i)

-- the verdict on one task: its row, or none
abbrev pub row_verdict : ℕ → List BoundedTask → BoundedTask → Option Row
row_verdict m above i = cond (row_passes m above i) (Some (row_of m above i)) None

-- the rows of the tasks that pass, up to the first that does not; `above` are the tasks before the list
abbrev pub rows_from : ℕ → List BoundedTask → List BoundedTask → List Row
rows_from m above [] = []
rows_from m above (i ∷ is) = cond (row_passes m above i) (row_of m above i ∷ rows_from m (above ++ i ∷ []) is) []

abbrev pub verdict_from : ℕ → List BoundedTask → List BoundedTask → Result (Unit {0}) Refusal
verdict_from m above [] = Ok tt
verdict_from m above (i ∷ is) =
    cond (row_passes m above i) (verdict_from m (above ++ i ∷ []) is) (Err (NoBound i.task.level))

-- fewer than 1 core counts as 1, more than 8 as 8
abbrev pub core_count : ℕ → ℕ
core_count n = min (max n 1) 8

abbrev pub rows_after : Option Refusal → List Row → List Row
rows_after (Some r) rows = []
rows_after None rows = rows

abbrev pub verdict_after : Option Refusal → Result (Unit {0}) Refusal → Result (Unit {0}) Refusal
verdict_after (Some r) v = Err r
verdict_after None v = v

-- a set with a faulty task is refused before any row is worked out
abbrev pub plan_rows : ℕ → List Task → List Row
plan_rows n tasks = rows_after (first_fault [] tasks) (rows_from (core_count n) [] (all_at_deadline (by_level tasks)))

abbrev pub plan_verdict : ℕ → List Task → Result (Unit {0}) Refusal
plan_verdict n tasks = verdict_after (first_fault [] tasks) (verdict_from (core_count n) [] (all_at_deadline (by_level tasks)))

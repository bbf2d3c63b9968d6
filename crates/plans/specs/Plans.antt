-- The rows of a task set under a counting rule, and the verdict on it.
use Rattle.std.specs.Prelude.{ℕ, List, [], ◌∷◌, ◌++◌, Ok, Err, Result}
use Rattle.planning.specs.declared.refusal.Refusal.{Refusal}
use Rattle.planning.specs.declared.refusal.Refusal.TheVariants.{NoBound}
use Rattle.analysis.specs.declared.task.Task.{Task}
use Rattle.analysis.specs.declared.task.BoundedTask.{BoundedTask}
use Rattle.analysis.specs.Interference.{level_of}
use Rattle.rules.specs.Bounds.{Rebound, rebound}
use Rattle.rules.specs.Rules.{Rule}
use Rattle.planning.specs.declared.verdict.Row.{Row}
use Rattle.planning.specs.Admission.{first_fault, by_level}
use Rattle.planning.specs.Plans.{all_at_deadline, core_count, rows_after, verdict_after}

-- task i with the rule's total at its bound, against the tasks above it
abbrev pub row_of : Rule → ℕ → List BoundedTask → BoundedTask → Row
row_of r m above i = record { task = i.task; total = r.total i.task above m i.bound; bound = i.bound }

-- a row for each task of the list; `above` are the tasks before the list
abbrev pub rows_from : Rule → ℕ → List BoundedTask → List BoundedTask → List Row
rows_from r m above [] = []
rows_from r m above (i ∷ is) = row_of r m above i ∷ rows_from r m (above ++ i ∷ []) is

-- accepted where no task is left without a bound
abbrev pub verdict_on : List BoundedTask → Result (Unit {0}) Refusal
verdict_on [] = Ok tt
verdict_on (i ∷ is) = Err (NoBound (level_of i))

-- the bounds of the tasks, most urgent first
abbrev pub outcome : Rule → ℕ → List Task → Rebound
outcome r n tasks = rebound r (core_count n) [] (all_at_deadline (by_level tasks))

-- a set with a faulty task is refused before any bound is worked out
abbrev pub plan_rows : Rule → ℕ → List Task → List Row
plan_rows r n tasks = rows_after (first_fault [] tasks) (rows_from r (core_count n) [] (outcome r n tasks).done)

abbrev pub plan_verdict : Rule → ℕ → List Task → Result (Unit {0}) Refusal
plan_verdict r n tasks = verdict_after (first_fault [] tasks) (verdict_on (outcome r n tasks).left)

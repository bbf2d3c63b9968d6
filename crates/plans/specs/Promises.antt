-- What a plan promises, whatever the rule.
use Rattle.std.specs.Prelude.{◌≡◌, ℕ, List, [], ◌∷◌, ◌++◌, map, None, Ok, Err, Result}
use Rattle.analysis.specs.declared.task.Task.{Task}
use Rattle.analysis.specs.declared.task.BoundedTask.{BoundedTask}
use Rattle.analysis.specs.Kept.{Kept}
use Rattle.rules.specs.Bounds.{Bounded, tasks_of}
use Rattle.rules.specs.Rules.{Rule}
use Rattle.rules.specs.Search.{IsBound}
use Rattle.schedule.specs.Soundness.{Punctual}
use Rattle.planning.specs.declared.refusal.Refusal.{Refusal}
use Rattle.planning.specs.declared.refusal.Refusal.TheVariants.{NoBound}
use Rattle.planning.specs.declared.verdict.Row.{Row}
use Rattle.planning.specs.Admission.{by_level}

-- the tasks of some rows with the bounds shown
abbrev pub shown : List Row → List BoundedTask
shown rows = map (λ row. record { task = row.task; bound = row.bound }) rows

-- no window of the task at this level passes, and the rows are those of the tasks above it
pub record Unbounded (r : Rule) (m : ℕ) (tasks : List Task) (rows : List Row) (level : ℕ) : Type 0 where
  pub task : Task
  pub below : List Task
  pub split : by_level tasks ≡ tasks_of (shown rows) ++ task ∷ below
  pub at_level : task.level ≡ level
  pub none : IsBound r task (shown rows) m None

-- an accepted set
pub record Accepting (m : ℕ) (tasks : List Task) (rows : List Row) : Type 0 where
  -- every task has a row, most urgent first
  pub all : tasks_of (shown rows) ≡ by_level tasks
  -- every bound passes with the interference of the tasks above
  pub kept : Kept m [] (shown rows)
  -- so in every legal schedule on m cores every job is done within its task's bound, and within its deadline
  pub punctual : Punctual m (shown rows)

-- rows and verdict of a plan on m cores by the rule r
pub record Promised (r : Rule) (m : ℕ) (tasks : List Task) (rows : List Row) (v : Result (Unit {0}) Refusal) : Type 0 where
  -- each bound shown is the least window that passes against the tasks above
  pub least : Bounded r m [] (shown rows)
  pub accepts : v ≡ Ok tt → Accepting m tasks rows
  pub refuses : (level : ℕ) → v ≡ Err (NoBound level) → Unbounded r m tasks rows level

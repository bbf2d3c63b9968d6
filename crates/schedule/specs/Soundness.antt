-- The window test is sound: if every bound of a set passes it, then in every legal schedule each job is gone within its
-- task's bound, and so by its deadline.
use Rattle.std.specs.Prelude.{ℕ, List, []}
use Rattle.analysis.specs.declared.task.BoundedTask.{BoundedTask}
use Rattle.analysis.specs.Kept.{Kept}
use Rattle.schedule.specs.Legal.{Legal}
use Rattle.schedule.specs.Punctual.{MeetsBounds, MeetsDeadlines}
use Rattle.schedule.specs.Schedules.{Schedule}

abbrev pub Soundness : Type 0
Soundness = (m : ℕ) (set : List BoundedTask) (start now : ℕ) (s : Schedule) → Kept m [] set → Legal m set start now s → MeetsBounds set now s

abbrev pub DeadlineSoundness : Type 0
DeadlineSoundness = (m : ℕ) (set : List BoundedTask) (start now : ℕ) (s : Schedule) → Kept m [] set → Legal m set start now s → MeetsDeadlines set now s

-- what it says of one set
pub record Punctual (m : ℕ) (set : List BoundedTask) : Type 0 where
  pub bounds : (start now : ℕ) (s : Schedule) → Legal m set start now s → MeetsBounds set now s
  pub deadlines : (start now : ℕ) (s : Schedule) → Legal m set start now s → MeetsDeadlines set now s

-- Every job is gone when its task's bound, or deadline, has passed since its release.
use Rattle.std.specs.Prelude.{◌≡◌, ℕ, ◌+◌, ◌<◌, ◌≤◌, true, List}
use Rattle.analysis.specs.declared.task.BoundedTask.{BoundedTask}
use Rattle.schedule.specs.Levels.{bound_at, deadline_at}
use Rattle.schedule.specs.Schedules.{Schedule}

abbrev pub MeetsBounds : List BoundedTask → ℕ → Schedule → Type 0
MeetsBounds set now s = (t k : ℕ) → t ≤ now → s.there t k ≡ true → t < s.since t k + bound_at set k

abbrev pub MeetsDeadlines : List BoundedTask → ℕ → Schedule → Type 0
MeetsDeadlines set now s = (t k : ℕ) → t ≤ now → s.there t k ≡ true → t < s.since t k + deadline_at set k

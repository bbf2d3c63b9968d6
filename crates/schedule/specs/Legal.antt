-- The schedules that a task set can have on m cores, up to tick `now`. A job may go at any time: it is reported done.
use Rattle.std.specs.Prelude.{◌≡◌, ℕ, suc, ◌+◌, ◌<◌, ◌≤◌, true, ◌⊎◌, List}
use Rattle.analysis.specs.declared.task.BoundedTask.{BoundedTask}
use Rattle.schedule.specs.Levels.{run_at, gap_at}
use Rattle.schedule.specs.Running.{slots_between}
use Rattle.schedule.specs.Schedules.{Schedule}

pub record Legal (m : ℕ) (set : List BoundedTask) (start now : ℕ) (s : Schedule) : Type 0 where
  -- no job was released before `start`, and none is there before its release
  pub released : (t i : ℕ) → t ≤ now → s.there t i ≡ true → (start ≤ s.since t i) × (s.since t i ≤ t)
  -- a job that is there was released just now, or was there one tick before: none comes back
  pub stays : (t i : ℕ) → suc t ≤ now → s.there (suc t) i ≡ true → (s.since (suc t) i ≡ suc t) ⊎ ((s.there t i ≡ true) × (s.since (suc t) i ≡ s.since t i))
  -- two releases of a task are at least its gap apart
  pub apart : (t u i : ℕ) → t ≤ now → u ≤ now → s.there t i ≡ true → s.there u i ≡ true → s.since t i < s.since u i → s.since t i + gap_at set i ≤ s.since u i
  -- a job that is there has had fewer slots than its run time
  pub unfinished : (t i : ℕ) → t ≤ now → s.there t i ≡ true → slots_between m s i (s.since t i) t < run_at set i

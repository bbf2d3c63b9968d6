-- Two worked schedules: one of a set that keeps its bounds, and one in which a job is late at a bound that the test refuses.
use Rattle.std.specs.Prelude.{◌≡◌, ℕ, ◌+◌, ◌*◌, ◌/◌, ◌≤◌, true, false, cond, ◌||◌, List, [], ◌∷◌, ◌==◌, nat_lt}
use Rattle.analysis.specs.declared.task.BoundedTask.{BoundedTask}
use Rattle.analysis.specs.Interference.{interference, passes}
use Rattle.analysis.specs.Kept.{Kept}
use Rattle.schedule.specs.Legal.{Legal}
use Rattle.schedule.specs.Levels.{at_level, bound_at}
use Rattle.schedule.specs.Running.{runs}
use Rattle.schedule.specs.Schedules.{Schedule}

abbrev pub bounded : ℕ → ℕ → ℕ → ℕ → ℕ → BoundedTask
bounded l c d t r = record { task = record { level = l; run = c; deadline = d; gap = t }; bound = r }

-- three tasks of a house, on 2 cores
abbrev pub house : List BoundedTask
house = bounded 10 2 4 5 2 ∷ bounded 20 3 6 8 3 ∷ bounded 30 2 6 10 4 ∷ []

-- all three are released at tick 0; the tick at which each job is gone
abbrev pub gone_by : ℕ → ℕ
gone_by i = cond (i == 10) 2 (cond (i == 20) 3 (cond (i == 30) 4 0))

abbrev pub together : Schedule
together = record { there = λ t i. nat_lt t (gone_by i); since = λ t i. 0 }

pub record TogetherFacts (set : List BoundedTask) : Type 0 where
  pub kept : Kept 2 [] set
  pub legal : (now : ℕ) → Legal 2 set 0 now together
  -- 10 and 20 run in slots 0 and 1, 20 and 30 in slot 2, 30 alone in slot 3, and none later
  pub slot_0 : (i : ℕ) → runs 2 together 0 i ≡ (i == 10 || i == 20)
  pub slot_1 : (i : ℕ) → runs 2 together 1 i ≡ (i == 10 || i == 20)
  pub slot_2 : (i : ℕ) → runs 2 together 2 i ≡ (i == 20 || i == 30)
  pub slot_3 : (i : ℕ) → runs 2 together 3 i ≡ (i == 30)
  pub later : (t i : ℕ) → 4 ≤ t → runs 2 together t i ≡ false
  -- the jobs are gone by ticks 2, 3 and 4
  pub gone_10 : (t : ℕ) → 2 ≤ t → together.there t 10 ≡ false
  pub gone_20 : (t : ℕ) → 3 ≤ t → together.there t 20 ≡ false
  pub gone_30 : (t : ℕ) → 4 ≤ t → together.there t 30 ≡ false

-- two tasks on 1 core, where level 10 alone fills the core
abbrev pub crowd : List BoundedTask
crowd = bounded 10 2 2 2 2 ∷ bounded 20 1 2 2 2 ∷ []

-- level 10 is released at each even tick, and level 20's job of tick 0 waits
abbrev pub crowded : Schedule
crowded = record { there = λ t i. (i == 10) || (i == 20); since = λ t i. cond (i == 10) (t / 2 * 2) 0 }

pub record CrowdedFacts (set : List BoundedTask) : Type 0 where
  pub legal : Legal 1 set 0 2 crowded
  -- the test refuses the bound of level 20
  pub refused : passes (at_level 20 set).task 1 (bound_at set 20) (interference (at_level 20 set).task (at_level 10 set ∷ []) 1 (bound_at set 20)) ≡ false
  -- its job is late at tick 2
  pub waits : crowded.there 2 20 ≡ true
  pub late : crowded.since 2 20 + bound_at set 20 ≤ 2

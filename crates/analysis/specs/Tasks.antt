-- The limits of tasks.
use Rattle.std.specs.Prelude.{Bool, ◌&&◌, nat_le}
use Rattle.analysis.specs.declared.task.Task.{Task}
use Rattle.analysis.specs.declared.task.BoundedTask.{BoundedTask}

abbrev pub level_fits : Task → Bool
level_fits k = nat_le k.level 63

-- 1 ≤ C ≤ D ≤ T ≤ 60,000
abbrev pub timing_fits : Task → Bool
timing_fits k = nat_le 1 k.run && (nat_le k.run k.deadline && (nat_le k.deadline k.gap && nat_le k.gap 60000))

abbrev pub within_limits : Task → Bool
within_limits k = level_fits k && timing_fits k

-- and C ≤ bound ≤ D
abbrev pub bound_fits : BoundedTask → Bool
bound_fits i = within_limits i.task && (nat_le i.task.run i.bound && nat_le i.bound i.task.deadline)

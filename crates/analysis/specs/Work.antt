-- Work in a window. Slot t is the time from tick t to tick t + 1; a window of length x is x slots in a row.
use Rattle.std.specs.Prelude.{ℕ, ◌+◌, ◌-◌, ◌*◌, ◌/◌, ◌%◌, min}
use Rattle.analysis.specs.declared.task.Task.{Task}
use Rattle.analysis.specs.declared.task.BoundedTask.{BoundedTask}

-- the most work that jobs of run time c, released at least t apart and none before the window, do in y slots:
-- as many whole gaps as fit, with c each, and what one more job does in the slots that are left
unfoldable pub amount : ℕ → ℕ → ℕ → ℕ
amount c t y = y / t * c + min c (y % t)

-- a job of k with window x is late only if more urgent tasks hold all cores in so many slots
abbrev pub cap : Task → ℕ → ℕ
cap k x = x - k.run + 1

-- what task i adds to a window x of task k if no job of i was released before the window
abbrev pub plain : Task → ℕ → BoundedTask → ℕ
plain k x i = min (amount i.task.run i.task.gap x) (cap k x)

-- what it adds if one was: that job is done within the bound of i
abbrev pub carried : Task → ℕ → BoundedTask → ℕ
carried k x i = min (amount i.task.run i.task.gap (x + i.bound - i.task.run)) (cap k x)

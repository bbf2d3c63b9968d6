-- What a read past the end of a list of tasks would give. Assumes nothing.
use Rattle.analysis.specs.declared.task.Task.{Task}
use Rattle.analysis.specs.declared.task.BoundedTask.{BoundedTask}

abbrev pub no_task : Task
no_task = record { level = 0; run = 0; deadline = 0; gap = 0 }

abbrev pub no_bounded : BoundedTask
no_bounded = record { task = no_task; bound = 0 }

use Rattle.std.proofs.Common.{◌≡◌, ◌&&◌, length, drop}
use Rattle.analysis.specs.Interference.{distinct, level_of}
use Rattle.analysis.proofs.Marks.{fresh}
use Rattle.analysis.proofs.lawful.levels_differ.Given as goal

abbrev pub invariant-loop-task : goal.invariant-loop-task
invariant-loop-task l =
    (length l.seen ≡ 64) × (distinct level_of l.tasks ≡ (fresh level_of l.seen (drop l.task-index l.tasks) && distinct level_of (drop l.task-index l.tasks)))

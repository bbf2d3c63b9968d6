use Rattle.std.proofs.Common.{◌&&◌, sym, refl, ap, arith, length-set}
use Rattle.analysis.specs.Interference.{distinct, level_of}
use Rattle.analysis.proofs.Blank.{no_bounded}
use Rattle.analysis.proofs.Facts.{level_at}
use Rattle.analysis.proofs.Marks.{fresh_none, marked_more}
use Rattle.analysis.proofs.lawful.levels_differ.Goals as goal

pub loop-task-init : goal.loop-task-init
loop-task-init c = (refl, ap (λ b. b && distinct level_of c.args.tasks.now) (sym (fresh_none level_of 64 c.args.tasks.now)))

pub loop-task-preserved : goal.loop-task-preserved
loop-task-preserved c =
    let tasks = c.args.tasks.now in
    let seen = c.loop-task.seen in
    let i = c.loop-task.task-index in
    let l = level_at tasks i (omega arith) c.requires in
    let m = rw c.from-level.ensures at c.if-seen-level.false in
    rw c.from-level.ensures (simp length-set c.loop-task.invariant.0, marked_more level_of _ seen tasks i no_bounded (omega arith) c.loop-task.invariant.1 (omega arith) m)

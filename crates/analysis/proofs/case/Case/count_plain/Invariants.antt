use Rattle.std.proofs.Common.{◌≡◌, take, sum_by}
use Rattle.queues.specs.Items.{extra_before}
use Rattle.queues.specs.Sets.{sort}
use Rattle.analysis.specs.Counting.{extras}
use Rattle.analysis.specs.Work.{plain}
use Rattle.analysis.proofs.case.Case.count_plain.Given as goal

abbrev pub invariant-loop-other : goal.invariant-loop-other
invariant-loop-other g l =
    let q = g.Q.Queue in
    q.good l.queue
    × (q.room l.queue ≡ q.room l.initial.queue)
    × (l.sum ≡ sum_by (plain l.self.task.now l.window) (take l.other-index l.self.above.now))
    × (q.items l.queue ≡ sort extra_before (extras l.self.task.now l.window (take l.other-index l.self.above.now)))

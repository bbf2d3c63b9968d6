use Rattle.std.proofs.Common.{◌≡◌, ◌+◌, ◌-◌, take}
use Rattle.analysis.specs.Counting.{amounts}
use Rattle.analysis.proofs.count.take_largest.Given as goal

-- what was taken, and the largest of what is left, are the largest of all
abbrev pub invariant-loop : goal.invariant-loop
invariant-loop g l =
    let q = g.Q.Queue in
    q.good l.queue
    × (l.sum + amounts (take (l.most - l.counter) (q.items l.queue)) ≡ amounts (take l.most (q.items l.initial.queue)))

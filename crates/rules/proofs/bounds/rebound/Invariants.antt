use Rattle.std.proofs.Common.{◌≡◌, length, take, drop}
use Rattle.rules.specs.Bounds.{rebound}
use Rattle.rules.proofs.bounds.rebound.Given as goal

abbrev pub invariant-loop-place : goal.invariant-loop-place
invariant-loop-place g l =
    let r = g.R.CountingRule.rule l.rule in
    (length l.set ≡ length l.initial.set)
    × (rebound r l.cores (take l.from l.initial.set) (drop l.from l.initial.set)
    ≡ rebound r l.cores (take l.place l.set) (drop l.place l.set))

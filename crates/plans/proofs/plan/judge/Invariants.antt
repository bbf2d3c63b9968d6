use Rattle.std.proofs.Common.{◌≡◌, [], length, take, drop, vec_items}
use Rattle.rules.specs.Bounds.{rebound}
use Rattle.plans.specs.Plans.{rows_from}
use Rattle.plans.proofs.plan.judge.Given as goal

abbrev pub invariant-loop-place : goal.invariant-loop-place
invariant-loop-place g l =
    let r = g.R.CountingRule.rule l.rule in
    record {
      long : length l.set ≡ length l.initial.set;
      same : rebound r l.cores [] l.initial.set ≡ rebound r l.cores (take l.place l.set) (drop l.place l.set);
      shown : vec_items l.rows ≡ rows_from r l.cores [] (take l.place l.set);
    }

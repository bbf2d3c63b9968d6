use Rattle.std.proofs.Common.{◌≡◌, [], ◌++◌, take, drop, vec_items}
use Rattle.plans.specs.Plans.{rows_from}
use Rattle.plans.proofs.plan.rows.Given as goal

abbrev pub invariant-loop-i : goal.invariant-loop-i
invariant-loop-i g l =
    let r = g.R.CountingRule.rule l.rule in
    vec_items l.rows ++ rows_from r l.cores (take l.i l.set) (drop l.i l.set) ≡ rows_from r l.cores [] l.set

use Rattle.std.proofs.Common.{vec_items}
use Rattle.planning.proofs.Judging.{Sofar}
use Rattle.planning.proofs.plan.judge.Given as goal

abbrev pub invariant-loop-i : goal.invariant-loop-i
invariant-loop-i l = Sofar l.cores l.set l.i (vec_items l.rows)

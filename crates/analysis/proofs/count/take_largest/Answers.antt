use Rattle.std.proofs.Common.{◌≡◌, ◌+◌, ◌-◌, take, suc, ap, ◌∙◌, arith}
use Rattle.std.proofs.lemmas.List.Sums.{sum_by-cons}
use Rattle.queues.proofs.Laws.{first_some}
use Rattle.queues.specs.Sets.{rest_of}
use Rattle.analysis.specs.Counting.{amounts}
use Rattle.analysis.proofs.count.take_largest.Goals as goal

pub loop-preserved : goal.loop-preserved
loop-preserved g c =
    let n = c.args.most - (c.loop.counter + 1) in
    let good = c.loop.invariant.0 in
    let some = first_some _ _ (c.in-Some.ensures.answer good) in
    let z : c.args.most - c.loop.counter ≡ suc n = omega arith in
    let e = (λ j. amounts (take (z j) (some j))) ∙ sum_by-cons (λ e. e.amount) c.in-Some.extra (take n (rest_of (g.Q.Queue.items c.loop.queue))) in
    let r = ap (λ es. amounts (take n es)) (c.in-Some.ensures.items good) in
    (c.in-Some.ensures.good good, omega (arith, e, r, c.loop.invariant.1))

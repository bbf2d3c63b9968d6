use Rattle.std.proofs.Common.{◌≡◌, ◌+◌, ◌-◌, get_or, sym, ◌∙◌, arith}
use Rattle.std.proofs.lemmas.List.Sums.{sum_by_more, sum_by_more_le}
use Rattle.queues.specs.Items.{extra_at, extra_before}
use Rattle.queues.specs.Sets.{put_set}
use Rattle.analysis.specs.Interference.{extra, level_of}
use Rattle.analysis.specs.Work.{plain}
use Rattle.analysis.proofs.Blank.{no_bounded}
use Rattle.analysis.proofs.Counted.{plain_fits, extras_more}
use Rattle.analysis.proofs.Facts.{level_at}
use Rattle.analysis.proofs.case.Case.count_plain.Goals as goal

pub overflow_add-sum : goal.overflow_add-sum
overflow_add-sum g c =
    let k = c.args.self.now.task.now in
    let x = c.args.window in
    let all = c.args.self.now.above.now in
    omega (arith, plain_fits k x all c.requires.fits, sum_by_more_le (plain k x) all c.loop-other.other-index no_bounded (omega arith), c.loop-other.invariant.2, c.plain-plain.ensures)

pub loop-other-preserved : goal.loop-other-preserved
loop-other-preserved g c =
    let k = c.args.self.now.task.now in
    let x = c.args.window in
    let all = c.args.self.now.above.now in
    let i = c.loop-other.other-index in
    let t = get_or all i no_bounded in
    let good = c.loop-other.invariant.0 in
    let room = g.Q.Queue.room c.loop-other.queue in
    let l = level_at all i (omega arith) c.requires.fits.levels in
    let amount : c.saturating_sub.result ≡ extra k x t = c.saturating_sub.ensures ∙ (λ j. c.carried-carried.ensures.equation j - c.plain-plain.ensures j) in
    let put = c.put_extra.ensures.items good l in (
      c.put_extra.ensures.good good,
      c.put_extra.ensures.room ∙ c.loop-other.invariant.1,
      (λ j. c.loop-other.invariant.2 j + c.plain-plain.ensures j) ∙ sym (sum_by_more (plain k x) all i no_bounded (omega arith)),
      put ∙ (λ j. put_set extra_before room (extra_at (amount j) (level_of t)) (c.loop-other.invariant.3 j)) ∙ extras_more k x all i room no_bounded c.requires.fits (omega arith) (omega (arith, c.loop-other.invariant.1, c.requires.room)),
    )

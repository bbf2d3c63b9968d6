use Rattle.std.proofs.Common.{[], take, drop, is_ok, sym, ap, ◌∙◌, subst, arith, rules}
use Rattle.std.proofs.lemmas.List.{length-set}
use Rattle.analysis.specs.Kept.{Kept}
use Rattle.analysis.proofs.Blank.{no_bounded}
use Rattle.rules.specs.Bounds.{rebound}
use Rattle.rules.specs.Search.{bound_of}
use Rattle.rules.proofs.Rebounds.{rebounded, set_kept, rebound_turn, rebound_stop, rebound_end}
use Rattle.rules.proofs.bounds.rebound.Goals as goal

pub returns-in_default : goal.returns-in_default
returns-in_default g c =
    let r = g.R.CountingRule.rule c.args.rule.now in
    let m = c.args.cores in
    let o = rebound r m (take c.args.from c.args.set.now) (drop c.args.from c.args.set.now) in
    let none = sym (λ j. bound_of r (c.case-case.ensures.task j) (c.case-case.ensures.above j) (c.case-case.ensures.cores j)) ∙ sym c.in_default.ensures.equation in
    let e = rebound_stop r m c.loop-place.set c.loop-place.place no_bounded (omega arith) o c.loop-place.invariant.1 none in
    record {
      answer = e.0;
      set = e.1;
      bounds = rebounded r m _ _;
      kept = search rules;
    }

pub loop-place-preserved : goal.loop-place-preserved
loop-place-preserved g c =
    let r = g.R.CountingRule.rule c.args.rule.now in
    let set = c.loop-place.set in
    let place = c.loop-place.place in
    let some = sym (λ j. bound_of r (c.case-case.ensures.task j) (c.case-case.ensures.above j) (c.case-case.ensures.cores j)) ∙ sym c.in-Some.ensures.equation in
    (length-set set place _ ∙ c.loop-place.invariant.0, c.loop-place.invariant.1 ∙ rebound_turn r c.args.cores set place no_bounded (omega arith) c.in-Some.bound some)

pub returns : goal.returns
returns g c =
    let rule = c.args.rule.now in
    let r = g.R.CountingRule.rule rule in
    let m = c.args.cores in
    let o = rebound r m (take c.args.from c.args.set.now) (drop c.args.from c.args.set.now) in
    let e = rebound_end r m o c.loop-place.set c.loop-place.place (omega arith) c.loop-place.invariant.1 in
    record {
      answer = e.0;
      set = e.1;
      bounds = rebounded r m _ _;
      kept = λ f k ok. subst (Kept m []) (sym e.1) (set_kept r m (g.met.R.CountingRule.laws rule) c.args.set.now c.args.from f k (sym (ap is_ok e.0)));
    }

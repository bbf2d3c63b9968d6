use Rattle.std.proofs.Common.{◌≡◌, [], ◌∷◌, ◌++◌, get_or, take, Some, vec_items, sym, ap, ◌∙◌, arith, rules}
use Rattle.std.proofs.lemmas.List.{length-set}
use Rattle.analysis.proofs.Blank.{no_bounded}
use Rattle.rules.specs.Bounds.{rebound, rebound_set}
use Rattle.rules.specs.Search.{bound_of, counted_bound}
use Rattle.rules.proofs.Least.{counted_some, counted_none}
use Rattle.rules.proofs.Rebounds.{rebound_turn, rebound_stop, rebound_end}
use Rattle.plans.specs.Plans.{rows_from}
use Rattle.plans.proofs.Deadline.{rows_tested, verdict_tested}
use Rattle.plans.proofs.Turns.{rows_turn, turn_refused, turns_done}
use Rattle.plans.proofs.plan.judge.Given as given
use Rattle.plans.proofs.plan.judge.Goals as goal
use Rattle.plans.proofs.plan.judge.Goals.{In-Some}

pub returns-in_default : goal.returns-in_default
returns-in_default g c =
    let r = g.R.CountingRule.rule c.args.rule.now in
    let m = c.args.cores in
    let o = rebound r m [] c.args.set.now in
    let set₀ = c.loop-place.set in
    let place = c.loop-place.place in
    let none = counted_none r _ _ m (sym (λ j. counted_bound r (c.case-case.ensures.task j) (c.case-case.ensures.above j) (c.case-case.ensures.cores j)) ∙ sym c.search_counted.ensures.equation ∙ c.in_default.is) in
    let told = turn_refused r m set₀ place no_bounded (omega arith) o c.loop-place.invariant.same none in
    let rows = c.loop-place.invariant.shown ∙ ap (rows_from r m []) told.0 in
    record {
      rows = rows;
      verdict = told.1;
      set = (rebound_stop r m set₀ place no_bounded (omega arith) o c.loop-place.invariant.same none).1;
      deadline_rows = λ d. rows_tested r m c.args.set.now d _ rows;
      deadline_verdict = λ d. verdict_tested r m c.args.set.now d _ told.1;
    }

-- what the search tells of the task at the place
found : (g : given.Over) (c : In-Some g) → (bound_of (g.R.CountingRule.rule c.args.rule.now) (get_or c.loop-place.set c.loop-place.place no_bounded).task (take c.loop-place.place c.loop-place.set) c.args.cores ≡ Some c.in-Some.field-0.window) × (c.in-Some.field-0.total ≡ (g.R.CountingRule.rule c.args.rule.now).total (get_or c.loop-place.set c.loop-place.place no_bounded).task (take c.loop-place.place c.loop-place.set) c.args.cores c.in-Some.field-0.window)
found g c =
    counted_some (g.R.CountingRule.rule c.args.rule.now) _ _ c.args.cores c.in-Some.field-0
    (sym (λ j. counted_bound (g.R.CountingRule.rule c.args.rule.now) (c.case-case.ensures.task j) (c.case-case.ensures.above j) (c.case-case.ensures.cores j)) ∙ sym c.search_counted.ensures.equation ∙ c.in-Some.is)

pub loop-place-preserved : goal.loop-place-preserved
loop-place-preserved g c =
    let r = g.R.CountingRule.rule c.args.rule.now in
    let m = c.args.cores in
    let set₀ = c.loop-place.set in
    let place = c.loop-place.place in
    let task = (get_or set₀ place no_bounded).task in
    let window = c.in-Some.field-0.window in
    let rows = vec_items c.loop-place.rows in
    let some = found g (goal.at.loop-place-preserved g c).In-Some in
    let pushed : vec_items c.push.new.self ≡ rows ++ record { task = task; total = c.in-Some.field-0.total; bound = window } ∷ [] = search rules in
    record {
      long = length-set set₀ place _ ∙ c.loop-place.invariant.long;
      same = c.loop-place.invariant.same ∙ rebound_turn r m set₀ place no_bounded (omega arith) window some.0;
      shown = pushed ∙ (λ j. c.loop-place.invariant.shown j ++ record { task = task; total = some.1 j; bound = window } ∷ []) ∙ sym (rows_turn r m set₀ place no_bounded (omega arith) window);
    }

pub returns-then-is_err-clause-set : goal.returns-then-is_err-clause-set
returns-then-is_err-clause-set g c =
    let r = g.R.CountingRule.rule c.args.rule.now in
    let some = found g (goal.at.returns-then-is_err-clause-set g c).In-Some in
    c.rebound.ensures.set ∙ ap rebound_set (sym (c.loop-place.invariant.same ∙ rebound_turn r c.args.cores c.loop-place.set c.loop-place.place no_bounded (omega arith) c.in-Some.field-0.window some.0))

pub returns : goal.returns
returns g c =
    let r = g.R.CountingRule.rule c.args.rule.now in
    let m = c.args.cores in
    let o = rebound r m [] c.args.set.now in
    let set₀ = c.loop-place.set in
    let place = c.loop-place.place in
    let told = turns_done r m o set₀ place (omega arith) c.loop-place.invariant.same in
    let rows = c.loop-place.invariant.shown ∙ ap (rows_from r m []) told.0 in
    record {
      rows = rows;
      verdict = told.1;
      set = (rebound_end r m o set₀ place (omega arith) c.loop-place.invariant.same).1;
      deadline_rows = λ d. rows_tested r m c.args.set.now d _ rows;
      deadline_verdict = λ d. verdict_tested r m c.args.set.now d _ told.1;
    }

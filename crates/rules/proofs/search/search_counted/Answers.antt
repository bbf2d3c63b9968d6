use Rattle.std.proofs.Common.{◌+◌, ◌-◌, sym, ◌∙◌, subst, rules}
use borrow.Author.Tests.{tests}
use Rattle.std.proofs.lemmas.Iterator.{YieldsList, YieldsList-from_map}
use Rattle.std.specs.List.{range_with_len}
use Rattle.std.proofs.iter.runs.Sources.{nat_range_inclusive_steps}
use Rattle.std.proofs.lemmas.Iterator.Adapters.{option_map_id}
use Rattle.std.proofs.lemmas.Iterator.Search.{find_from_yields_List}
use Rattle.analysis.specs.Interference.{passes}
use Rattle.rules.specs.declared.passing.Passing.{Passing}
use Rattle.rules.specs.Search.{counted}
use Rattle.rules.proofs.Least.{range_gives, find_counted, counted_least}
use Rattle.rules.proofs.search.search_counted.Goals as goal

pub returns : goal.returns
returns g c =
    let r = g.R.CountingRule.rule c.args.rule.now in
    let k = c.args.case.now.task.now in
    let above = c.args.case.now.above.now in
    let m = c.args.case.now.cores in
    let first = r.first k above m in
    let windows = range_gives c.new-windows.result first k.deadline (search rules) (search rules) (search rules) in
    let found =
    sym (option_map_id c.find.result)
    ∙ find_from_yields_List (λ (q : Passing). passes k m q.window q.total) _ _ c.find.result c.find.ensures.ran
    (YieldsList-from_map _ (counted r k above m) (subst (λ s. YieldsList nat_range_inclusive_steps (λ x. x) s (range_with_len first (k.deadline + 1 - first))) (sym c.map-counted.ensures.source) windows) c.map-counted.ensures.closure (λ x y q h. search (rules, tests)))
    (λ x b q h. search (rules, tests))
    ∙ find_counted r k above m (k.deadline + 1 - first) first in
    record { equation = found; least = counted_least r k above m c.find.result found }

use Rattle.std.proofs.Common.{rules}
use borrow.Author.Tests.{tests}
use Rattle.std.proofs.lemmas.Iterator.{YieldsList-from_slice, cases_from_all}
use Rattle.std.proofs.lemmas.Iterator.Consumers.{YieldsList-from_enumerate}
use Rattle.schedule.proofs.Keeping.{HoldsIn, kept_judged}
use Rattle.schedule.proofs.Sound.{punctual_from}
use Rattle.schedule.proofs.check.keeps_bounds.Goals as goal

pub returns : goal.returns
returns c =
    let m = c.args.cores in
    let set = c.args.set.now in
    let tasks = YieldsList-from_enumerate (YieldsList-from_slice set (search rules)) (search rules) in
    let cases = cases_from_all _ _ c.all.result (HoldsIn m set) (λ p. HoldsIn m set p → ⊥) c.all.ensures.ran tasks (λ x q k. search (rules, tests)) (λ x q k. search (rules, tests)) in
    let j = kept_judged m set c.all.result cases in
    record { kept = j.0; whenever = j.1; punctual = λ r. punctual_from m set (j.0 r) }

use Rattle.std.proofs.Common.{◌+◌, ◌-◌, take, sym, ap, ◌∙◌, arith}
use Rattle.std.proofs.lemmas.List.Sums.{sum_by-take-le}
use Rattle.std.proofs.lemmas.Bool.{cond-true}
use Rattle.queues.specs.Items.{extra_before}
use Rattle.queues.specs.Sets.{sort}
use Rattle.analysis.specs.Counting.{Countable, amounts, extras}
use Rattle.analysis.specs.Interference.{lawful, interference}
use Rattle.analysis.proofs.Counted.{countable_from, plain_fits, extras_fit, largest_read}
use Rattle.analysis.proofs.Interfering.{interference_laws}
use Rattle.analysis.proofs.Facts.{lawful_case}
use Rattle.analysis.proofs.case.Case.total.Goals as goal
use Rattle.analysis.proofs.case.Case.total.Goals.{Else-not-is_lawful}

-- past the test the case is lawful
countable : (c : Else-not-is_lawful) → Countable c.args.self.now.task.now c.args.window c.args.self.now.above.now
countable c = countable_from _ _ _ _ (sym c.if-not-is_lawful.ensures)

pub returns-then-not-is_lawful-clause-laws : goal.returns-then-not-is_lawful-clause-laws
returns-then-not-is_lawful-clause-laws c = interference_laws _ _ _ _

pub count_plain-plain-requires-clause-fits : goal.count_plain-plain-requires-clause-fits
count_plain-plain-requires-clause-fits c = countable (goal.at.count_plain-plain-requires-clause-fits c).Else-not-is_lawful

pub count_plain-plain-requires-clause-room : goal.count_plain-plain-requires-clause-room
count_plain-plain-requires-clause-room c = omega (arith, (countable (goal.at.count_plain-plain-requires-clause-room c).Else-not-is_lawful).few, c.new-queue.ensures.room)

pub overflow_sub-self : goal.overflow_sub-self
overflow_sub-self c = (lawful_case _ _ _ _ (sym c.if-not-is_lawful.ensures)).some_core

pub take_largest-requires-clause-fits : goal.take_largest-requires-clause-fits
take_largest-requires-clause-fits c =
    omega (arith, extras_fit _ _ _ (countable (goal.at.take_largest-requires-clause-fits c).Else-not-is_lawful), ap amounts c.count_plain-plain.ensures.items)

pub overflow_add-result : goal.overflow_add-result
overflow_add-result c =
    let d = countable (goal.at.overflow_add-result c).Else-not-is_lawful in
    let all = sort extra_before (extras c.args.self.now.task.now c.args.window c.args.self.now.above.now) in
    let n = c.args.self.now.cores - 1 in
    let t = c.take_largest.ensures ∙ ap (λ s. amounts (take n s)) c.count_plain-plain.ensures.items in
    omega (arith, t, c.count_plain-plain.ensures.sum, plain_fits _ _ _ d, extras_fit _ _ _ d, sum_by-take-le (λ e. e.amount) all n)

pub returns-clause-equation : goal.returns-clause-equation
unfolding interference
returns-clause-equation c =
    let k = c.args.self.now.task.now in
    let above = c.args.self.now.above.now in
    let m = c.args.self.now.cores in
    let x = c.args.window in
    let t = c.take_largest.ensures ∙ ap (λ s. amounts (take (m - 1) s)) c.count_plain-plain.ensures.items ∙ largest_read k x (m - 1) above in
    (λ j. c.count_plain-plain.ensures.sum j + t j) ∙ sym (cond-true (lawful k above m x) _ 4294967295 (sym c.if-not-is_lawful.ensures))

pub returns-clause-laws : goal.returns-clause-laws
returns-clause-laws c = interference_laws _ _ _ _

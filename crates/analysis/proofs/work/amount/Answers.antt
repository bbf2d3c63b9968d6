use Rattle.std.proofs.Common.{rules}
use native.Mathlib.Nat.{div-zero, mod-zero}
use Rattle.analysis.specs.Work.{amount}
use Rattle.analysis.proofs.Amounts.{amount_laws}
use Rattle.analysis.proofs.work.amount.Goals as goal

pub returns-then-gap-eq0-clause-equation : goal.returns-then-gap-eq0-clause-equation
unfolding amount
returns-then-gap-eq0-clause-equation c = search (rules, div-zero, mod-zero)

pub returns-clause-equation : goal.returns-clause-equation
unfolding amount
returns-clause-equation c = search rules

pub returns-clause-laws : goal.returns-clause-laws
returns-clause-laws c = λ some. amount_laws _ _ some _

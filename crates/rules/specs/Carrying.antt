-- All carried amounts, and the laws of the all-carry rule. Assumes nothing.
use Rattle.std.specs.Prelude.{◌≡◌, ℕ, ◌+◌, ◌^◌, ◌<◌, ◌≤◌, List, [], ◌∷◌, length, take, sum_by, slice_index_or}
use Rattle.std.proofs.Common.{arith}
use Rattle.std.proofs.ByRecursion.{All-weaker, sum_by_le}
use Rattle.std.proofs.lemmas.List.Sums.{sum_by_more, sum_by-take-le}
use Rattle.std.proofs.lemmas.Bool.{cond-true}
use Rattle.std.specs.List.{AllByRecursion}
use Rattle.analysis.specs.declared.task.Task.{Task}
use Rattle.analysis.specs.declared.task.BoundedTask.{BoundedTask}
use Rattle.analysis.specs.Counting.{Countable}
use Rattle.analysis.specs.Interference.{lawful}
use Rattle.analysis.specs.Work.{plain, carried, cap}
use Rattle.analysis.proofs.Amounts.{plain_carried}
use Rattle.analysis.proofs.Facts.{Above, lawful_case}
use Rattle.analysis.proofs.Interfering.{interference_laws}
use Rattle.rules.specs.Rules.{Covers, all_carry, all_carried}

carried_small : (k : Task) (x : ℕ) (above : List BoundedTask) → cap k x ≤ 60000 → AllByRecursion (λ i. carried k x i ≤ 60000) above
carried_small k x [] h = tt
carried_small k x (i ∷ is) h = (omega arith, carried_small k x is h)

-- the sum so far and one more
pub carried_more :
    (k : Task) (x : ℕ) (above : List BoundedTask) (i : ℕ) (d : BoundedTask) →
    Countable k x above →
    i < length above →
    (sum_by (carried k x) (take (i + 1) above) ≡ sum_by (carried k x) (take i above) + carried k x (slice_index_or above i d))
    × (sum_by (carried k x) (take (i + 1) above) < 2 ^ 32)
carried_more k x above i d c l =
    let a = sum_by_more (carried k x) above i d l in
    let b = sum_by-take-le (carried k x) above (i + 1) in
    let s = sum_by_le (carried k x) 60000 above (carried_small k x above c.small) in
    let f = c.few in
    (a, omega arith)

-- all tasks carried count for no less than the interference
pub all_carry_covers : Covers all_carry
all_carry_covers k above m x e =
    let c = lawful_case k above m x e in
    let a = All-weaker (Above k) (λ i. plain k x i ≤ carried k x i) (λ i b. let l = b.limits in plain_carried k x i (omega arith) b.low) above c.each in
    let l = (interference_laws k m x above).covered a in
    omega (arith, l, cond-true (lawful k above m x) (all_carried k above x) 4294967295 e)

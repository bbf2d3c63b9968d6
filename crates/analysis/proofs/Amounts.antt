-- Laws of the amount. Assumes nothing.
use Rattle.std.proofs.Common.{◌≡◌, ℕ, suc, ◌+◌, ◌-◌, ◌*◌, ◌/◌, ◌%◌, ◌<◌, ◌≤◌, min, sym, ap, ◌∙◌, ⊎_elim, mod-lt, div-add-mod', arith}
use native.Mathlib.Decide.{le_ind}
use lib.Arith.{digits_div, digits_mod}
use Rattle.std.proofs.lemmas.Bool.{cases_lt}
use Rattle.analysis.specs.declared.task.Task.{Task}
use Rattle.analysis.specs.declared.task.BoundedTask.{BoundedTask}
use Rattle.analysis.specs.Laws.{AmountLaws}
use Rattle.analysis.specs.Work.{amount, plain, carried}

-- the amount by quotient and remainder
pub amount_digits : (c t q r : ℕ) → r < t → amount c t (q * t + r) ≡ q * c + min c r
unfolding amount
amount_digits c t q r l = (λ j. digits_div q l j * c + min c (digits_mod q l j))

module _ (c t : ℕ) (some : 1 ≤ t) where
  -- one gap more
  next_gap : (y : ℕ) → amount c t (y + t) ≡ amount c t y + c
  next_gap y =
      let q = y / t in
      let r = y % t in
      let l : y % t < t = mod-lt y some in
      let e : y ≡ q * t + r = sym (div-add-mod' y t) in
      let f : y + t ≡ suc q * t + r = omega arith in
      let a = ap (amount c t) e ∙ amount_digits c t q r l in
      let b = ap (amount c t) f ∙ amount_digits c t (suc q) r l in
      omega (arith, a, b)

  -- one slot more
  next_slot : (y : ℕ) → (amount c t y ≤ amount c t (y + 1)) × (c ≤ t → amount c t (y + 1) ≤ amount c t y + 1)
  next_slot y =
      let q = y / t in
      let r = y % t in
      let l : y % t < t = mod-lt y some in
      let e : y ≡ q * t + r = sym (div-add-mod' y t) in
      let a = ap (amount c t) e ∙ amount_digits c t q r l in
      ⊎_elim
      (λ (h : y % t + 1 < t).
      let f : y + 1 ≡ q * t + (r + 1) = omega arith in
      let b = ap (amount c t) f ∙ amount_digits c t q (r + 1) h in
      (omega (arith, a, b), λ k. omega (arith, a, b)))
      (λ (h : t ≤ y % t + 1).
      let f : y + 1 ≡ suc q * t + 0 = omega arith in
      let b = ap (amount c t) f ∙ amount_digits c t (suc q) 0 some in
      (omega (arith, a, b), λ k. omega (arith, a, b)))
      (cases_lt (y % t + 1) t)

  pub amount_monotone : (y z : ℕ) → y ≤ z → amount c t y ≤ amount c t z
  amount_monotone y z l =
      le_ind (λ n. amount c t y ≤ amount c t n) (omega arith) (λ n h ih. let s = (next_slot n).0 in let e : amount c t (n + 1) ≡ amount c t (suc n) = ap (amount c t) (omega arith) in omega arith) z l

  pub amount_laws : (y : ℕ) → AmountLaws c t y
  amount_laws y = record { monotone = amount_monotone y; slow = (next_slot y).1; periodic = next_gap y }

-- the carried amount is never below the plain one
pub plain_carried : (k : Task) (x : ℕ) (i : BoundedTask) → 1 ≤ i.task.gap → i.task.run ≤ i.bound → plain k x i ≤ carried k x i
plain_carried k x i some low =
    let m = amount_monotone i.task.run i.task.gap some x (x + i.bound - i.task.run) (omega arith) in omega arith

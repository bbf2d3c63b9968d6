-- Laws of the work in a window. Assumes nothing.
use Rattle.std.proofs.Common.{◌≡◌, ℕ, zero, suc, ◌+◌, ◌-◌, ◌*◌, ◌/◌, ◌%◌, ◌<◌, ◌≤◌, min, ap, ◌∙◌, subst, ⊎_elim, mul-le-mul_right, mod-eq_of_lt, add-mul, one-mul, le-div_iff_mul-le, div-mul-le_self, arith}
use native.Mathlib.Decide.{le_ind}
use native.Mathlib.Nat.{add-div_right, div-eq_of_lt}
use Rattle.std.proofs.lemmas.Bool.{cases_lt}
use Rattle.analysis.specs.Work.{amount}
use Rattle.analysis.proofs.Amounts.{amount_laws}

module _ (c t : ℕ) (pos : 1 ≤ t) where
  -- the work of the whole gaps alone
  abbrev pub full : ℕ → ℕ
  full y = y / t * c

  -- a gap more holds one job more
  pub amount_gap : (y : ℕ) → amount c t (y + t) ≡ c + amount c t y
  amount_gap y = omega (arith, (amount_laws c t pos y).periodic)

  full_gap : (y : ℕ) → full (y + t) ≡ c + full y
  full_gap y =
      let q : (y + t) / t ≡ y / t + 1 = add-div_right y pos in
      ap (λ n. n * c) q ∙ add-mul (y / t) 1 c ∙ ap (λ n. y / t * c + n) (one-mul c) ∙ omega arith

  -- before the first gap is over one job runs
  pub amount_short : (y : ℕ) → y < t → amount c t y ≡ min c y
  unfolding amount
  amount_short y h =
      let q : y / t ≡ 0 = div-eq_of_lt h in
      let r : y % t ≡ y = mod-eq_of_lt h in
      (λ j. q j * c + min c (r j)) ∙ omega arith

  full_short : (y : ℕ) → y < t → full y ≡ 0
  full_short y h = let q : y / t ≡ 0 = div-eq_of_lt h in ap (λ n. n * c) q ∙ omega arith

  full_rises : (a b : ℕ) → a ≤ b → full a ≤ full b
  full_rises a b h = let q : a / t * t ≤ b = omega (arith, div-mul-le_self a t) in mul-le-mul_right c ((le-div_iff_mul-le pos).1 q)

  -- a job a gap later finds room for one job more before it
  pub full_later : (y z : ℕ) → y + t ≤ z → full y + c ≤ full z
  full_later y z h = omega (arith, full_gap y, full_rises (y + t) z h)

  -- for what holds within the first gap, and a gap later if it holds now
  by_gaps : (P : ℕ → Type 0) → ((y : ℕ) → y < t → P y) → ((y : ℕ) → P y → P (y + t)) → (y : ℕ) → P y
  by_gaps P first more y = go (suc y) y (omega arith)
    where
      go : (n y : ℕ) → y < n → P y
      go zero y l = absurd (omega arith)
      go (suc n) y l =
          ⊎_elim
          (λ (h : y < t). first y h)
          (λ (h : t ≤ y). let e : y - t + t ≡ y = omega arith in subst P e (more (y - t) (go n (y - t) (omega arith))))
          (cases_lt y t)

  pub amount_rises : (a b : ℕ) → a ≤ b → amount c t a ≤ amount c t b
  amount_rises a b l = (amount_laws c t pos a).monotone b l

  -- one job runs as long as it can
  pub amount_one : (y : ℕ) → min c y ≤ amount c t y
  amount_one y = by_gaps (λ y. min c y ≤ amount c t y) (λ y h. omega (arith, amount_short y h)) (λ y h. omega (arith, amount_gap y)) y

  -- whole gaps, and the job that comes after them
  pub full_and_one : (y d : ℕ) → full y + min c d ≤ amount c t (y + d)
  full_and_one y d =
      by_gaps (λ y. full y + min c d ≤ amount c t (y + d))
      (λ y h. omega (arith, full_short y h, amount_one d, amount_rises d (y + d) (omega arith)))
      (λ y h. let e : amount c t (y + t + d) ≡ amount c t (y + d + t) = ap (amount c t) (omega arith) in omega (arith, full_gap y, amount_gap (y + d)))
      y

  module _ (fits : c ≤ t) where
    -- a slot more holds at most one slot of work more
    pub amount_slow : (a b : ℕ) → a ≤ b → amount c t b ≤ amount c t a + (b - a)
    amount_slow a b l =
        le_ind (λ b. amount c t b ≤ amount c t a + (b - a)) (omega arith)
        (λ b l ih. let e : amount c t (b + 1) ≡ amount c t (suc b) = ap (amount c t) (omega arith) in omega (arith, (amount_laws c t pos b).slow fits)) b l

-- Counting ticks and levels. Assumes nothing.
use Rattle.std.proofs.Common.{◌≡◌, ℕ, zero, suc, ◌+◌, ◌-◌, ◌<◌, ◌≤◌, Bool, true, false, ◌&&◌, leb, refl, ap, ⊎_elim, arith}
use native.Mathlib.Decide.{le_ind}
use Rattle.std.proofs.lemmas.Bool.{cases_lt, le-leb, lt-leb}
use Rattle.schedule.specs.Running.{bit, num}

pub bit_le : (b : Bool) → bit b ≤ 1
bit_le true = omega arith
bit_le false = omega arith

pub bit_yes : (b : Bool) → b ≡ true → bit b ≡ 1
bit_yes b e = ap bit e

pub bit_no : (b : Bool) → b ≡ false → bit b ≡ 0
bit_no b e = ap bit e

bit_implies : (b c : Bool) → (b ≡ true → c ≡ true) → bit b ≤ bit c
bit_implies true c h = omega (arith, bit_yes c (h refl))
bit_implies false c h = omega arith

pub num_le : (p : ℕ → Bool) (n : ℕ) → num p n ≤ n
num_le p zero = omega arith
num_le p (suc n) = omega (arith, num_le p n, bit_le (p n))

pub num_rises : (p : ℕ → Bool) (a b : ℕ) → a ≤ b → num p a ≤ num p b
num_rises p a b l = le_ind (λ b. num p a ≤ num p b) (omega arith) (λ b l ih. omega (arith, ih)) b l

pub num_in : (p : ℕ → Bool) (a b : ℕ) → a ≤ b → num p b ≤ num p a + (b - a)
num_in p a b l = le_ind (λ b. num p b ≤ num p a + (b - a)) (omega arith) (λ b l ih. omega (arith, ih, bit_le (p b))) b l

-- all of [a, b)
pub num_all : (p : ℕ → Bool) (a b : ℕ) → a ≤ b → ((u : ℕ) → a ≤ u → u < b → p u ≡ true) → num p b ≡ num p a + (b - a)
num_all p a b l =
    le_ind (λ b. ((u : ℕ) → a ≤ u → u < b → p u ≡ true) → num p b ≡ num p a + (b - a)) (λ h. omega arith)
    (λ b l ih h. omega (arith, ih (λ u x y. h u x (omega arith)), bit_yes (p b) (h b l (omega arith)))) b l

-- none of [0, n)
pub num_none : (p : ℕ → Bool) (n : ℕ) → ((u : ℕ) → u < n → p u ≡ false) → num p n ≡ 0
num_none p zero h = refl
num_none p (suc n) h = omega (arith, num_none p n (λ u l. h u (omega arith)), bit_no (p n) (h n (omega arith)))

-- a weaker test counts no fewer
pub num_weaker : (p q : ℕ → Bool) (n : ℕ) → ((u : ℕ) → u < n → p u ≡ true → q u ≡ true) → num p n ≤ num q n
num_weaker p q zero h = omega arith
num_weaker p q (suc n) h = omega (arith, num_weaker p q n (λ u l. h u (omega arith)), bit_implies (p n) (q n) (h n (omega arith)))

-- where each of [a, b) has one of two tests, the two counts cover it
pub num_cover : (p q : ℕ → Bool) (a b : ℕ) → a ≤ b → ((u : ℕ) → a ≤ u → u < b → p u ≡ false → q u ≡ true) → b - a + num p a + num q a ≤ num p b + num q b
num_cover p q a b l =
    le_ind (λ b. ((u : ℕ) → a ≤ u → u < b → p u ≡ false → q u ≡ true) → b - a + num p a + num q a ≤ num p b + num q b) (λ h. omega arith)
    (λ b l ih h. omega (arith, ih (λ u x y. h u x (omega arith)), one (p b) (q b) (h b l (omega arith)))) b l
  where
    one : (s t : Bool) → (s ≡ false → t ≡ true) → 1 ≤ bit s + bit t
    one true t h = omega arith
    one false t h = omega (arith, bit_yes t (h refl))

-- a count takes every value on its way
pub num_reaches : (p : ℕ → Bool) (n e : ℕ) → e ≤ num p n → (y : ℕ) × (y ≤ n) × (num p y ≡ e)
num_reaches p zero e l = (0, omega arith, omega arith)
num_reaches p (suc n) e l =
    ⊎_elim
    (λ (h : num p n < e). (suc n, omega arith, omega (arith, bit_le (p n))))
    (λ (h : e ≤ num p n). let r = num_reaches p n e h in let k = r.1 in (r.0, omega arith, r.2))
    (cases_lt (num p n) e)

-- counting from a on is a difference
pub num_from : (p : ℕ → Bool) (a b : ℕ) → a ≤ b → num (λ t. leb a t && p t) b + num p a ≡ num p b
num_from p a b l =
    le_ind (λ b. num (λ t. leb a t && p t) b + num p a ≡ num p b) (omega (arith, before a))
    (λ b l ih. let e : bit (leb a b && p b) ≡ bit (p b) = ap (λ t. bit (t && p b)) (le-leb a b l) in omega (arith, ih)) b l
  where
    before : (a : ℕ) → num (λ t. leb a t && p t) a ≡ 0
    before a = num_none (λ t. leb a t && p t) a (λ u h. ap (λ t. t && p u) (lt-leb a u h))

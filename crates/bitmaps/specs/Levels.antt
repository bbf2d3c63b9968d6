-- The levels of the set digits ascend, and are no more than there are digits. Assumes nothing.
use Rattle.std.proofs.Common.{◌≡◌, ℕ, zero, suc, ◌+◌, ◌/◌, ◌%◌, ◌^◌, ◌<◌, ◌≤◌, Bool, true, false, cond, ◌∷◌, length, sym, refl, ap, ◌∙◌, mod-lt, arith}
use lib.Count.{ones, ones_in, ones_step, ones-le}
use Rattle.bitmaps.specs.Bitmaps.{odd, levels_from, levels_in}
use Rattle.queues.specs.Items.{level_at, level_before}
use Rattle.queues.specs.Sets.{Ahead, Sorted}
use Rattle.std.proofs.lemmas.Bool.{lt-ltb, eqb-true, eqb-false}

pub lower : (m n : ℕ) → m < n → n ≤ 63 → level_before (level_at m) (level_at n) ≡ true
lower m n h l = lt-ltb _ _ (omega arith)

pub odd_digit : (n : ℕ) (t : Bool) → odd n ≡ t → n % 2 ≡ cond t 1 0
odd_digit n true e = eqb-true (n % 2) 1 e
odd_digit n false e = let p = eqb-false (n % 2) 1 e in let q = mod-lt n {m = 2} (omega arith) in omega arith

pub ahead_levels : (k from n l : ℕ) → l < from → from + k ≤ 64 → Ahead level_before (level_at l) (levels_from k from n)
unfolding levels_from
ahead_levels zero from n l h w = tt
ahead_levels (suc k) from n l h w = split (odd n) (ahead_levels k (suc from) (n / 2) l (omega arith) (omega arith))
  where
    split : (t : Bool) → Ahead level_before (level_at l) (levels_from k (suc from) (n / 2)) → Ahead level_before (level_at l) (cond t (level_at from ∷ levels_from k (suc from) (n / 2)) (levels_from k (suc from) (n / 2)))
    split true a = (lower l from h (omega arith), a)
    split false a = a

pub sorted_levels : (k from n : ℕ) → from + k ≤ 64 → Sorted level_before (levels_from k from n)
unfolding levels_from
sorted_levels zero from n w = tt
sorted_levels (suc k) from n w = split (odd n) (sorted_levels k (suc from) (n / 2) (omega arith))
  where
    split : (t : Bool) → Sorted level_before (levels_from k (suc from) (n / 2)) → Sorted level_before (cond t (level_at from ∷ levels_from k (suc from) (n / 2)) (levels_from k (suc from) (n / 2)))
    split true a = (ahead_levels k (suc from) (n / 2) from (omega arith) (omega arith), a)
    split false a = a

pub ones_zero : ones 0 ≡ 0
unfolding ones ones_in
ones_zero = refl

pub length_levels : (k from n : ℕ) → n < 2 ^ k → length (levels_from k from n) ≡ ones n
unfolding levels_from
length_levels zero from n h = let e : n ≡ 0 = omega arith in sym (ap ones e ∙ ones_zero)
length_levels (suc k) from n h = split (odd n) refl (length_levels k (suc from) (n / 2) (omega arith))
  where
    split : (t : Bool) → odd n ≡ t → length (levels_from k (suc from) (n / 2)) ≡ ones (n / 2) → length (cond t (level_at from ∷ levels_from k (suc from) (n / 2)) (levels_from k (suc from) (n / 2))) ≡ ones n
    split true e i = omega (arith, ones_step n, odd_digit n true e)
    split false e i = omega (arith, ones_step n, odd_digit n false e)

pub levels_rise : (n : ℕ) → Sorted level_before (levels_in n)
levels_rise n = sorted_levels 64 0 n (omega arith)

pub levels_within : (n : ℕ) → n < 2 ^ 64 → length (levels_in n) ≤ 64
levels_within n h = omega (arith, length_levels 64 0 n h, ones-le 64 n h)

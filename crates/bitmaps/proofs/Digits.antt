-- Sets of levels as binary digits. Assumes nothing.
use Rattle.std.proofs.Common.{◌≡◌, ℕ, zero, suc, ◌+◌, ◌-◌, ◌/◌, ◌%◌, ◌^◌, ◌<◌, ◌≤◌, Bool, true, false, cond, eqb, List, [], ◌∷◌, length, Some, sym, refl, ap, ◌∙◌, mod-lt, arith}
use lib.Bits.{bit_and, bit_or, bit_xor, and_step, and_zero_r, or_disjoint, or_lt, xor_add_and}
use lib.Count.{ones-le, count_trailing_zeros, under}
use Rattle.bitmaps.specs.Bitmaps.{odd, digit, levels_from, levels_in}
use Rattle.bitmaps.specs.Levels.{lower, odd_digit, ahead_levels, length_levels}
use Rattle.queues.proofs.Laws.{insert_ahead, ahead_lacks, length_insert, first_some}
use Rattle.queues.specs.Orders.{level_lawful, same_level}
use Rattle.queues.specs.Items.{level_at, level_before}
use Rattle.queues.specs.Sets.{has, insert, remove, first_of, rest_of}
use Rattle.queues.specs.declared.level.Level.{Level}
use Rattle.std.proofs.lemmas.Nat.{shr-shr, pow_below}
use Rattle.std.proofs.lemmas.Bool.{le-ltb}

not_lower : (m n : ℕ) → n ≤ m → level_before (level_at m) (level_at n) ≡ false
not_lower m n h = le-ltb _ _ (omega arith)

-- the first level is the number of zeros below the lowest set digit
pub first_level : (k from n : ℕ) → n < 2 ^ k → 0 < n → first_of (levels_from k from n) ≡ Some (level_at (from + count_trailing_zeros k n))
unfolding levels_from count_trailing_zeros
first_level zero from n h p = absurd (omega arith)
first_level (suc k) from n h p = split (n % 2) refl (λ q. first_level k (suc from) (n / 2) (omega arith) q)
  where
    split : (d : ℕ) → n % 2 ≡ d → (0 < n / 2 → first_of (levels_from k (suc from) (n / 2)) ≡ Some (level_at (suc from + count_trailing_zeros k (n / 2)))) → first_of (cond (eqb d 1) (level_at from ∷ levels_from k (suc from) (n / 2)) (levels_from k (suc from) (n / 2))) ≡ Some (level_at (from + under d (count_trailing_zeros k (n / 2))))
    split zero e i = let s : suc from + count_trailing_zeros k (n / 2) ≡ from + suc (count_trailing_zeros k (n / 2)) = omega arith in i (omega arith) ∙ ap (λ m. Some (level_at m)) s
    split (suc zero) e i = let s : from ≡ from + 0 = omega arith in ap (λ m. Some (level_at m)) s
    split (suc (suc d)) e i = absurd (omega (arith, mod-lt n {m = 2} (omega arith)))

-- one digit alone
abbrev at_digit : ℕ → ℕ → Level
at_digit from p = level_at (from + p)

later : (from p : ℕ) → at_digit (suc from) p ≡ at_digit from (suc p)
later from p = let e : suc from + p ≡ from + suc p = omega arith in ap level_at e

here : (from : ℕ) → level_at from ≡ at_digit from 0
here from = let e : from ≡ from + 0 = omega arith in ap level_at e

pub has_level : (k from n p : ℕ) → p < k → from + k ≤ 64 → has level_before (at_digit from p) (levels_from k from n) ≡ digit p n
unfolding levels_from digit
has_level zero from n p h w = absurd (omega arith)
has_level (suc k) from n zero h w =
    ap (λ x. has level_before x (cond (odd n) (level_at from ∷ levels_from k (suc from) (n / 2)) (levels_from k (suc from) (n / 2)))) (sym (here from)) ∙ split (odd n)
  where
    split : (t : Bool) → has level_before (level_at from) (cond t (level_at from ∷ levels_from k (suc from) (n / 2)) (levels_from k (suc from) (n / 2))) ≡ t
    split true = let i = level_lawful.irreflexive (level_at from) in grind arith
    split false = ahead_lacks level_before level_lawful (level_at from) (levels_from k (suc from) (n / 2)) (ahead_levels k (suc from) (n / 2) from (omega arith) (omega arith))
has_level (suc k) from n (suc p) h w =
    ap (λ x. has level_before x (cond (odd n) (level_at from ∷ levels_from k (suc from) (n / 2)) (levels_from k (suc from) (n / 2)))) (sym (later from p)) ∙ split (odd n) (has_level k (suc from) (n / 2) p (omega arith) (omega arith))
  where
    split : (t : Bool) → has level_before (at_digit (suc from) p) (levels_from k (suc from) (n / 2)) ≡ digit p (n / 2) → has level_before (at_digit (suc from) p) (cond t (level_at from ∷ levels_from k (suc from) (n / 2)) (levels_from k (suc from) (n / 2))) ≡ digit p (n / 2)
    split true i = let a = lower from (suc from + p) (omega arith) (omega arith) in let z = not_lower (suc from + p) from (omega arith) in grind arith
    split false i = i

-- a digit that was not set is set
pub insert_level : (k from n p : ℕ) → p < k → from + k ≤ 64 → digit p n ≡ false → insert level_before (at_digit from p) (levels_from k from n) ≡ levels_from k from (n + 2 ^ p)
unfolding levels_from digit
insert_level zero from n p h w e = absurd (omega arith)
insert_level (suc k) from n zero h w e =
    let d = odd_digit n false e in
    let q : (n + 1) / 2 ≡ n / 2 = omega arith in
    let o : odd (n + 1) ≡ true = let z : (n + 1) % 2 ≡ 1 = omega arith in ap (λ m. eqb m 1) z in
    let s = levels_from k (suc from) (n / 2) in
    (λ j. insert level_before (sym (here from) j) (cond (e j) (level_at from ∷ s) s))
    ∙ insert_ahead level_before level_lawful (level_at from) s (ahead_levels k (suc from) (n / 2) from (omega arith) (omega arith))
    ∙ sym (λ j. cond (o j) (level_at from ∷ levels_from k (suc from) (q j)) (levels_from k (suc from) (q j)))
insert_level (suc k) from n (suc p) h w e =
    let q : (n + 2 ^ suc p) / 2 ≡ n / 2 + 2 ^ p = omega arith in
    let o : odd (n + 2 ^ suc p) ≡ odd n = let z : (n + 2 ^ suc p) % 2 ≡ n % 2 = omega arith in ap (λ m. eqb m 1) z in
    let i = insert_level k (suc from) (n / 2) p (omega arith) (omega arith) e in
    ap (λ x. insert level_before x (cond (odd n) (level_at from ∷ levels_from k (suc from) (n / 2)) (levels_from k (suc from) (n / 2)))) (sym (later from p))
    ∙ split (odd n) i
    ∙ sym (λ j. cond (o j) (level_at from ∷ levels_from k (suc from) (q j)) (levels_from k (suc from) (q j)))
  where
    split : (t : Bool) → insert level_before (at_digit (suc from) p) (levels_from k (suc from) (n / 2)) ≡ levels_from k (suc from) (n / 2 + 2 ^ p) → insert level_before (at_digit (suc from) p) (cond t (level_at from ∷ levels_from k (suc from) (n / 2)) (levels_from k (suc from) (n / 2))) ≡ cond t (level_at from ∷ levels_from k (suc from) (n / 2 + 2 ^ p)) (levels_from k (suc from) (n / 2 + 2 ^ p))
    split true i = let a = lower from (suc from + p) (omega arith) (omega arith) in grind arith
    split false i = i

-- a set digit is at least its weight
digit_weight : (p n : ℕ) → digit p n ≡ true → 2 ^ p ≤ n
unfolding digit
digit_weight zero n e = let d = odd_digit n true e in omega arith
digit_weight (suc p) n e = let h = digit_weight p (n / 2) e in omega arith

-- a digit that was set is not set any more
pub remove_level : (k from n p : ℕ) → p < k → from + k ≤ 64 → digit p n ≡ true → remove level_before (at_digit from p) (levels_from k from n) ≡ levels_from k from (n - 2 ^ p)
unfolding levels_from digit
remove_level zero from n p h w e = absurd (omega arith)
remove_level (suc k) from n zero h w e =
    let d = odd_digit n true e in
    let q : (n - 1) / 2 ≡ n / 2 = omega arith in
    let o : odd (n - 1) ≡ false = let z : (n - 1) % 2 ≡ 0 = omega arith in ap (λ m. eqb m 1) z in
    let s = levels_from k (suc from) (n / 2) in
    let g : remove level_before (level_at from) (level_at from ∷ s) ≡ s = let i = level_lawful.irreflexive (level_at from) in grind arith in
    (λ j. remove level_before (sym (here from) j) (cond (e j) (level_at from ∷ s) s))
    ∙ g
    ∙ sym (λ j. cond (o j) (level_at from ∷ levels_from k (suc from) (q j)) (levels_from k (suc from) (q j)))
remove_level (suc k) from n (suc p) h w e =
    let l = digit_weight p (n / 2) e in
    let q : (n - 2 ^ suc p) / 2 ≡ n / 2 - 2 ^ p = omega arith in
    let o : odd (n - 2 ^ suc p) ≡ odd n = let z : (n - 2 ^ suc p) % 2 ≡ n % 2 = omega arith in ap (λ m. eqb m 1) z in
    let i = remove_level k (suc from) (n / 2) p (omega arith) (omega arith) e in
    ap (λ x. remove level_before x (cond (odd n) (level_at from ∷ levels_from k (suc from) (n / 2)) (levels_from k (suc from) (n / 2)))) (sym (later from p))
    ∙ split (odd n) i
    ∙ sym (λ j. cond (o j) (level_at from ∷ levels_from k (suc from) (q j)) (levels_from k (suc from) (q j)))
  where
    split : (t : Bool) → remove level_before (at_digit (suc from) p) (levels_from k (suc from) (n / 2)) ≡ levels_from k (suc from) (n / 2 - 2 ^ p) → remove level_before (at_digit (suc from) p) (cond t (level_at from ∷ levels_from k (suc from) (n / 2)) (levels_from k (suc from) (n / 2))) ≡ cond t (level_at from ∷ levels_from k (suc from) (n / 2 - 2 ^ p)) (levels_from k (suc from) (n / 2 - 2 ^ p))
    split true i = let a = lower from (suc from + p) (omega arith) (omega arith) in let z = not_lower (suc from + p) from (omega arith) in grind arith
    split false i = i

-- the digit as code reads it
pub digit_is : (p n : ℕ) → digit p n ≡ eqb (n / 2 ^ p % 2) 1
unfolding digit
digit_is zero n = let e : n ≡ n / 1 = omega arith in ap (λ m. eqb (m % 2) 1) e
digit_is (suc p) n = digit_is p (n / 2) ∙ ap (λ m. eqb (m % 2) 1) (shr-shr n 1 p ∙ (let e : 1 + p ≡ suc p = omega arith in ap (λ m. n / 2 ^ m) e))

-- the whole set of 64 digits
pub no_levels : (k from : ℕ) → levels_from k from 0 ≡ []
unfolding levels_from
no_levels zero from = refl
no_levels (suc k) from = no_levels k (suc from)

as_digit : (x : Level) → at_digit 0 x.number ≡ x
as_digit x = same_level _ x (let s = x.small in omega arith)

module _ (n : ℕ) (x : Level) where
  pub has_in : has level_before x (levels_in n) ≡ digit x.number n
  has_in = let s = x.small in ap (λ y. has level_before y (levels_in n)) (sym (as_digit x)) ∙ has_level 64 0 n x.number (omega arith) (omega arith)

  pub insert_in : has level_before x (levels_in n) ≡ false → levels_in (n + 2 ^ x.number) ≡ insert level_before x (levels_in n)
  insert_in e = let s = x.small in sym (insert_level 64 0 n x.number (omega arith) (omega arith) (sym has_in ∙ e)) ∙ ap (λ y. insert level_before y (levels_in n)) (as_digit x)

  pub remove_in : has level_before x (levels_in n) ≡ true → levels_in (n - 2 ^ x.number) ≡ remove level_before x (levels_in n)
  remove_in e = let s = x.small in sym (remove_level 64 0 n x.number (omega arith) (omega arith) (sym has_in ∙ e)) ∙ ap (λ y. remove level_before y (levels_in n)) (as_digit x)

-- a clear digit is set by `or`, a set one is cleared by `xor`
and_clear : (p n : ℕ) → digit p n ≡ false → bit_and n (2 ^ p) ≡ 0
unfolding digit
and_clear zero n e = let d = odd_digit n false e in let z = and_zero_r (n / 2) in omega (arith, and_step n 1)
and_clear (suc p) n e =
    let i = and_clear p (n / 2) e in
    let q : 2 ^ suc p / 2 ≡ 2 ^ p = omega arith in
    let r : 2 ^ suc p % 2 ≡ 0 = omega arith in
    let z = ap (bit_and (n / 2)) q in
    omega (arith, and_step n (2 ^ suc p))

and_set : (p n : ℕ) → digit p n ≡ true → bit_and n (2 ^ p) ≡ 2 ^ p
unfolding digit
and_set zero n e = let d = odd_digit n true e in let z = and_zero_r (n / 2) in omega (arith, and_step n 1)
and_set (suc p) n e =
    let i = and_set p (n / 2) e in
    let q : 2 ^ suc p / 2 ≡ 2 ^ p = omega arith in
    let r : 2 ^ suc p % 2 ≡ 0 = omega arith in
    let z = ap (bit_and (n / 2)) q in
    omega (arith, and_step n (2 ^ suc p))

pub or_digit : (p n : ℕ) → digit p n ≡ false → bit_or n (2 ^ p) ≡ n + 2 ^ p
or_digit p n e = or_disjoint n (2 ^ p) (and_clear p n e)

pub xor_digit : (p n : ℕ) → digit p n ≡ true → bit_xor n (2 ^ p) ≡ n - 2 ^ p
xor_digit p n e = omega (arith, xor_add_and n (2 ^ p), and_set p n e)

pub trailing_below : (k n : ℕ) → n < 2 ^ k → 0 < n → count_trailing_zeros k n < k
unfolding count_trailing_zeros
trailing_below zero n h p = absurd (omega arith)
trailing_below (suc k) n h p = split (n % 2) refl (λ q. trailing_below k (n / 2) (omega arith) q)
  where
    split : (d : ℕ) → n % 2 ≡ d → (0 < n / 2 → count_trailing_zeros k (n / 2) < k) → under d (count_trailing_zeros k (n / 2)) < suc k
    split zero e i = let j = i (omega arith) in omega arith
    split (suc d) e i = omega arith

-- where a level is missing, not all 64 are there
pub not_full : (n : ℕ) (x : Level) → n < 2 ^ 64 → has level_before x (levels_in n) ≡ false → length (levels_in n) < 64
not_full n x h e =
    let d = sym (has_in n x) ∙ e in
    let s = x.small in
    let f = or_lt 64 n (2 ^ x.number) h (pow_below x.number 64 (omega arith)) in
    let g = length_levels 64 0 (n + 2 ^ x.number) (omega (arith, or_digit x.number n d)) in
    let m = ones-le 64 (n + 2 ^ x.number) (omega (arith, or_digit x.number n d)) in
    let i = ap length (insert_in n x e) ∙ length_insert level_before x (levels_in n) in
    omega arith

-- the first level taken away
pub rest_in : (x : Level) (s : List Level) → Some x ≡ first_of s → (has level_before x s ≡ true) × (remove level_before x s ≡ rest_of s)
rest_in x s e =
    let i = level_lawful.irreflexive x in
    let f = first_some x s e in
    let g : has level_before x (x ∷ rest_of s) ≡ true = grind arith in
    let r : remove level_before x (x ∷ rest_of s) ≡ rest_of s = grind arith in
    (ap (has level_before x) f ∙ g, ap (remove level_before x) f ∙ r)

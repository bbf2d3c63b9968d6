-- Sums over levels. Assumes nothing.
use Rattle.std.proofs.Common.{◌≡◌, ℕ, zero, suc, ◌+◌, ◌*◌, ◌<◌, ◌≤◌, Bool, true, false, cond, not, ◌&&◌, eqb, List, [], ◌∷◌, length, sum_by, filter, sym, refl, ap, ◌∙◌, ⊎_elim, mul-one, mul-add, arith}
use Rattle.std.proofs.lemmas.List.Sums.{sum_by-cons}
use Rattle.std.proofs.lemmas.Bool.{and_parts, not-true, or_parts, or_from, eq-eqb, ne_eqb, cases_eq}
use Rattle.std.specs.List.{AllByRecursion}
use Rattle.analysis.specs.Interference.{taken, distinct}
use Rattle.schedule.specs.Running.{bit, num}

-- the sum of f u over u < n
abbrev pub total : (ℕ → ℕ) → ℕ → ℕ
total f zero = 0
total f (suc n) = total f n + f n

total_add : (f g : ℕ → ℕ) (n : ℕ) → total (λ u. f u + g u) n ≡ total f n + total g n
total_add f g zero = refl
total_add f g (suc n) = omega (arith, total_add f g n)

total_bits : (p : ℕ → Bool) (n : ℕ) → total (λ u. bit (p u)) n ≡ num p n
total_bits p zero = refl
total_bits p (suc n) = omega (arith, total_bits p n)

total_none : (f : ℕ → ℕ) (n : ℕ) → ((u : ℕ) → u < n → f u ≡ 0) → total f n ≡ 0
total_none f zero h = refl
total_none f (suc n) h = omega (arith, total_none f n (λ u l. h u (omega arith)), h n (omega arith))

-- counted twice: where in each slot that is counted m levels below k run, the slots of all levels add up to m each
pub counted_twice : (k m : ℕ) (busy : ℕ → Bool) (on : ℕ → ℕ → Bool) → ((t : ℕ) → busy t ≡ true → num (on t) k ≡ m) → (y : ℕ) → total (λ u. num (λ t. busy t && on t u) y) k ≡ m * num busy y
counted_twice k m busy on h zero = total_none (λ u. 0) k (λ u l. refl) ∙ omega arith
counted_twice k m busy on h (suc y) =
    total_add (λ u. num (λ t. busy t && on t u) y) (λ u. bit (busy y && on y u)) k
    ∙ (λ j. counted_twice k m busy on h y j + one (busy y) (h y) j)
    ∙ sym (mul-add m (num busy y) (bit (busy y)))
  where
    one : (b : Bool) → (b ≡ true → num (on y) k ≡ m) → total (λ u. bit (b && on y u)) k ≡ m * bit b
    one true e = total_bits (on y) k ∙ e refl ∙ sym (mul-one m)
    one false e = total_none (λ u. 0) k (λ u l. refl) ∙ omega arith

-- f, but 0 at l
abbrev without : ℕ → (ℕ → ℕ) → ℕ → ℕ
without l f u = cond (eqb u l) 0 (f u)

without_le : (l : ℕ) (f : ℕ → ℕ) (u : ℕ) → without l f u ≤ f u
without_le l f u = small (eqb u l)
  where
    small : (t : Bool) → cond t 0 (f u) ≤ f u
    small true = omega arith
    small false = omega arith

without_other : (l : ℕ) (f : ℕ → ℕ) (u : ℕ) → (u ≡ l → ⊥) → without l f u ≡ f u
without_other l f u d = ap (λ t. cond t 0 (f u)) (ne_eqb u l d)

total_one : (l : ℕ) (f : ℕ → ℕ) (n : ℕ) → total f n ≤ f l + total (without l f) n
total_one l f zero = omega arith
total_one l f (suc n) =
    ⊎_elim
    (λ (e : n ≡ l). let q : f n ≡ f l = ap f e in let s = same n (λ u h. λ d. omega arith) in omega arith)
    (λ (d : n ≡ l → ⊥). omega (arith, total_one l f n, without_other l f n d))
    (cases_eq n l)
  where
    same : (n : ℕ) → ((u : ℕ) → u < n → u ≡ l → ⊥) → total f n ≡ total (without l f) n
    same zero h = refl
    same (suc n) h = omega (arith, same n (λ u k. h u (omega arith)), without_other l f n (h n (omega arith)))

module _ {X : Type 0} (level : X → ℕ) where
  sum_by_weaker : (f g : ℕ → ℕ) → ((u : ℕ) → f u ≤ g u) → (xs : List X) → sum_by (λ x. f (level x)) xs ≤ sum_by (λ x. g (level x)) xs
  sum_by_weaker f g h [] = omega arith
  sum_by_weaker f g h (x ∷ xs) =
      omega (arith, h (level x), sum_by_weaker f g h xs, sum_by-cons (λ x. f (level x)) x xs, sum_by-cons (λ x. g (level x)) x xs)

  -- a sum by level is at most the sum over a list outside which it has nothing
  pub total_by_list : (f : ℕ → ℕ) (n : ℕ) (xs : List X) → ((u : ℕ) → u < n → taken level u xs ≡ false → f u ≡ 0) → total f n ≤ sum_by (λ x. f (level x)) xs
  total_by_list f n [] h = omega (arith, total_none f n (λ u l. h u l refl))
  total_by_list f n (x ∷ xs) h =
      let l = level x in
      let rest : (u : ℕ) → u < n → taken level u xs ≡ false → without l f u ≡ 0 = λ u b e. left u b e (eqb u l) refl in
      omega (arith, total_one l f n, total_by_list (without l f) n xs rest, sum_by_weaker (without l f) f (without_le l f) xs, sum_by-cons (λ x. f (level x)) x xs)
    where
      left : (u : ℕ) → u < n → taken level u xs ≡ false → (t : Bool) → eqb u (level x) ≡ t → cond t 0 (f u) ≡ 0
      left u b e true q = refl
      left u b e false q = h u b (or_from (eqb (level x) u) (taken level u xs) (ne_eqb (level x) u (λ d. let z = eq-eqb u (level x) (sym d) in let y : ◌≡◌ {A = ℕ} 0 1 = cc in omega arith)) e)

-- p, but not at l
abbrev but : ℕ → (ℕ → Bool) → ℕ → Bool
but l p u = cond (eqb u l) false (p u)

but_other : (l : ℕ) (p : ℕ → Bool) (u : ℕ) → (u ≡ l → ⊥) → but l p u ≡ p u
but_other l p u d = ap (λ t. cond t false (p u)) (ne_eqb u l d)

num_but : (l : ℕ) (p : ℕ → Bool) (n : ℕ) → l < n → bit (p l) + num (but l p) n ≡ num p n
num_but l p zero h = absurd (omega arith)
num_but l p (suc n) h =
    ⊎_elim
    (λ (e : n ≡ l). let q : bit (p n) ≡ bit (p l) = ap (λ u. bit (p u)) e in let r : bit (but l p n) ≡ 0 = ap (λ t. bit (cond t false (p n))) (eq-eqb n l e) in let s = same n (λ u h. λ d. omega arith) in omega arith)
    (λ (d : n ≡ l → ⊥). omega (arith, num_but l p n (omega arith), ap bit (but_other l p n d)))
    (cases_eq n l)
  where
    same : (n : ℕ) → ((u : ℕ) → u < n → u ≡ l → ⊥) → num p n ≡ num (but l p) n
    same zero h = refl
    same (suc n) h = omega (arith, same n (λ u k. h u (omega arith)), ap bit (but_other l p n (h n (omega arith))))

module _ {X : Type 0} (level : X → ℕ) where
  kept_but : (l : ℕ) (p : ℕ → Bool) (xs : List X) → taken level l xs ≡ false → filter (λ x. but l p (level x)) xs ≡ filter (λ x. p (level x)) xs
  kept_but l p [] e = refl
  kept_but l p (x ∷ xs) e = let q = or_parts (eqb (level x) l) (taken level l xs) e in let h = kept_but l p xs q.1 in let r = q.0 in grind arith

  length_kept : (p : X → Bool) (x : X) (xs : List X) → length (filter p (x ∷ xs)) ≡ bit (p x) + length (filter p xs)
  length_kept p x xs = split (p x)
    where
      split : (t : Bool) → length (cond t (x ∷ filter p xs) (filter p xs)) ≡ bit t + length (filter p xs)
      split true = omega arith
      split false = omega arith

  -- a list without a level twice has at most as many tasks with p as there are levels with it
  pub kept_by_level : (p : ℕ → Bool) (n : ℕ) (xs : List X) → distinct level xs ≡ true → AllByRecursion (λ x. level x < n) xs → length (filter (λ x. p (level x)) xs) ≤ num p n
  kept_by_level p n [] d a = omega arith
  kept_by_level p n (x ∷ xs) d a =
      let q = and_parts (not (taken level (level x) xs)) (distinct level xs) d in
      let h = kept_by_level (but (level x) p) n xs q.1 a.1 in
      let e = ap length (kept_but (level x) p xs (not-true _ q.0)) in
      omega (arith, num_but (level x) p n a.0, length_kept (λ x. p (level x)) x xs)

-- a sum that is at most a plain part, and for the chosen tasks an extra part
pub sum_chosen : {X : Type 0} (f g h : X → ℕ) (p : X → Bool) (xs : List X) → AllByRecursion (λ x. f x ≤ g x + cond (p x) (h x) 0) xs → sum_by f xs ≤ sum_by g xs + sum_by h (filter p xs)
sum_chosen f g h p [] a = omega arith
sum_chosen f g h p (x ∷ xs) a = split (p x) a.0 (sum_chosen f g h p xs a.1)
  where
    split : (t : Bool) → f x ≤ g x + cond t (h x) 0 → sum_by f xs ≤ sum_by g xs + sum_by h (filter p xs) → sum_by f (x ∷ xs) ≤ sum_by g (x ∷ xs) + sum_by h (cond t (x ∷ filter p xs) (filter p xs))
    split true l k = omega (arith, sum_by-cons f x xs, sum_by-cons g x xs, sum_by-cons h x (filter p xs))
    split false l k = omega (arith, sum_by-cons f x xs, sum_by-cons g x xs)

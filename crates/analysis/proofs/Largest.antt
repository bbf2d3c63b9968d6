-- The sum of the n largest of some numbers is the largest sum over all choices of at most n of them. Assumes nothing.
use Rattle.std.proofs.Common.{◌≡◌, ℕ, zero, suc, ◌+◌, ◌<◌, ◌≤◌, max, Bool, true, false, cond, not, eqb, List, [], ◌∷◌, map, length, take, sum_by, sum, filter, sym, refl, ap, ◌∙◌, ⊎_elim, arith}
use Rattle.std.proofs.lemmas.List.{map-id}
use Rattle.std.proofs.lemmas.List.Sums.{sum_by-cons}
use Rattle.std.proofs.lemmas.Bool.{ltb-true, ltb-false, cases_lt, eq-eqb, or_parts, not-true, and_parts}
use Rattle.std.specs.List.{AllByRecursion}
use Rattle.queues.specs.Sets.{insert, sort}
use Rattle.analysis.specs.Interference.{larger, sum_largest, taken, distinct}

-- the largest sum of at most n of the numbers
abbrev pub best : ℕ → List ℕ → ℕ
best n [] = 0
best zero (x ∷ xs) = 0
best (suc n) (x ∷ xs) = max (best (suc n) xs) (x + best n xs)

best_zero : (xs : List ℕ) → best 0 xs ≡ 0
best_zero [] = refl
best_zero (x ∷ xs) = refl

best_more : (n x : ℕ) (xs : List ℕ) → best n xs ≤ best n (x ∷ xs)
best_more zero x xs = omega (arith, best_zero xs)
best_more (suc n) x xs = omega arith

pub best_le_sum : (n : ℕ) (xs : List ℕ) → best n xs ≤ sum xs
best_le_sum n [] = omega arith
best_le_sum zero (x ∷ xs) = omega arith
best_le_sum (suc n) (x ∷ xs) = let h = best_le_sum (suc n) xs in let g = best_le_sum n xs in omega (arith, sum_by-cons (λ y. y) x xs)

best_swap : (n x y : ℕ) (xs : List ℕ) → best n (x ∷ y ∷ xs) ≡ best n (y ∷ x ∷ xs)
best_swap zero x y xs = refl
best_swap (suc zero) x y xs = omega (arith, best_zero xs)
best_swap (suc (suc n)) x y xs = omega arith

best_tail : (n x : ℕ) (xs ys : List ℕ) → ((k : ℕ) → best k xs ≡ best k ys) → best n (x ∷ xs) ≡ best n (x ∷ ys)
best_tail zero x xs ys h = refl
best_tail (suc n) x xs ys h = omega (arith, h (suc n), h n)

-- none of the numbers is above x
abbrev Under : ℕ → List ℕ → Type 0
Under x ys = AllByRecursion (λ y. y ≤ x) ys

-- one more choice adds at most x where no number is above x
best_step : (n x : ℕ) (ys : List ℕ) → Under x ys → best (suc n) ys ≤ x + best n ys
best_step n x [] u = omega arith
best_step n x (y ∷ ys) u = let h = best_step n x ys u.1 in let m = best_more n y ys in let k = u.0 in omega arith

abbrev Falling : List ℕ → Type 0
Falling [] = Unit {0}
Falling (x ∷ xs) = Under x xs × Falling xs

best_falling : (n : ℕ) (xs : List ℕ) → Falling xs → best n xs ≡ sum (take n xs)
best_falling zero [] f = refl
best_falling (suc n) [] f = refl
best_falling zero (x ∷ xs) f = refl
best_falling (suc n) (x ∷ xs) f = let s = best_step n x xs f.0 in let h = best_falling n xs f.1 in omega (arith, sum_by-cons (λ y. y) x (take n xs))

under_trans : (x y : ℕ) (xs : List ℕ) → y ≤ x → Under y xs → Under x xs
under_trans x y [] l u = tt
under_trans x y (z ∷ xs) l u = let k = u.0 in (omega arith, under_trans x y xs l u.1)

-- an order by which a number of the items falls
pub record Falls {X : Type 0} (b : X → X → Bool) (f : X → ℕ) : Type 0 where
  pub before : (x y : X) → b x y ≡ true → f y ≤ f x
  pub after : (x y : X) → b x y ≡ false → f x ≤ f y

module _ {X : Type 0} (b : X → X → Bool) (f : X → ℕ) (o : Falls b f) where
  under_insert : (n : ℕ) (x : X) (s : List X) → f x ≤ n → Under n (map f s) → Under n (map f (insert b x s))
  under_insert n x [] l u = (l, tt)
  under_insert n x (y ∷ s) l u = split (b y x) (under_insert n x s l u.1)
    where
      split : (t : Bool) → Under n (map f (insert b x s)) → Under n (map f (cond t (y ∷ insert b x s) (x ∷ y ∷ s)))
      split true h = (u.0, h)
      split false h = (l, u)

  falling_insert : (x : X) (s : List X) → Falling (map f s) → Falling (map f (insert b x s))
  falling_insert x [] h = (tt, tt)
  falling_insert x (y ∷ s) h = split (b y x) refl (falling_insert x s h.1)
    where
      split : (t : Bool) → b y x ≡ t → Falling (map f (insert b x s)) → Falling (map f (cond t (y ∷ insert b x s) (x ∷ y ∷ s)))
      split true e k = (under_insert (f y) x s (o.before y x e) h.0, k)
      split false e k = ((o.after y x e, under_trans (f x) (f y) (map f s) (o.after y x e) h.0), h)

  falling_sort : (xs : List X) → Falling (map f (sort b xs))
  falling_sort [] = tt
  falling_sort (x ∷ xs) = falling_insert x (sort b xs) (falling_sort xs)

  best_insert : (x : X) (s : List X) (n : ℕ) → best n (map f (insert b x s)) ≡ best n (f x ∷ map f s)
  best_insert x [] n = refl
  best_insert x (y ∷ s) n = split (b y x) (λ k. best_insert x s k)
    where
      split : (t : Bool) → ((k : ℕ) → best k (map f (insert b x s)) ≡ best k (f x ∷ map f s)) → best n (map f (cond t (y ∷ insert b x s) (x ∷ y ∷ s))) ≡ best n (f x ∷ f y ∷ map f s)
      split true h = best_tail n (f y) (map f (insert b x s)) (f x ∷ map f s) h ∙ best_swap n (f y) (f x) (map f s)
      split false h = refl

  pub best_sort : (xs : List X) (n : ℕ) → best n (map f (sort b xs)) ≡ best n (map f xs)
  best_sort [] n = refl
  best_sort (x ∷ xs) n = best_insert x (sort b xs) n ∙ best_tail n (f x) (map f (sort b xs)) (map f xs) (λ k. best_sort xs k)

  -- the first n of the sorted items have the largest numbers
  pub sum_sorted : (n : ℕ) (xs : List X) → sum (take n (map f (sort b xs))) ≡ best n (map f xs)
  sum_sorted n xs = sym (best_falling n (map f (sort b xs)) (falling_sort xs)) ∙ best_sort xs n

larger_falls : Falls larger (λ x. x)
larger_falls = record { before = λ x y e. omega (arith, ltb-true y x e); after = λ x y e. ltb-false y x e }

pub largest_best : (n : ℕ) (xs : List ℕ) → sum_largest n xs ≡ best n xs
unfolding sum_largest
largest_best n xs =
    ap (λ ys. sum (take n ys)) (sym (map-id (sort larger xs))) ∙ sum_sorted larger (λ x. x) larger_falls n xs ∙ ap (best n) (map-id xs)

module _ {X : Type 0} (f : X → ℕ) where
  -- every choice of at most n
  pub chosen_best : (p : X → Bool) (n : ℕ) (xs : List X) → length (filter p xs) ≤ n → sum_by f (filter p xs) ≤ best n (map f xs)
  chosen_best p n [] l = omega arith
  chosen_best p n (x ∷ xs) l = split (p x) n l (λ k h. chosen_best p k xs h)
    where
      split : (t : Bool) (n : ℕ) → length (cond t (x ∷ filter p xs) (filter p xs)) ≤ n → ((k : ℕ) → length (filter p xs) ≤ k → sum_by f (filter p xs) ≤ best k (map f xs)) → sum_by f (cond t (x ∷ filter p xs) (filter p xs)) ≤ best n (f x ∷ map f xs)
      split true zero l h = absurd (omega arith)
      split true (suc k) l h = let g = h k (omega arith) in omega (arith, sum_by-cons f x (filter p xs))
      split false k l h = let g = h k l in let m = best_more k (f x) (map f xs) in omega arith

  module _ (level : X → ℕ) where
    -- the choice s, but for the level of one task
    abbrev but : (ℕ → Bool) → ℕ → Bool → ℕ → Bool
    but s l t n = cond (eqb n l) t (s n)

    kept_but : (s : ℕ → Bool) (l : ℕ) (t : Bool) (xs : List X) → taken level l xs ≡ false → filter (λ i. but s l t (level i)) xs ≡ filter (λ i. s (level i)) xs
    kept_but s l t [] e = refl
    kept_but s l t (x ∷ xs) e = let p = or_parts (eqb (level x) l) (taken level l xs) e in let h = kept_but s l t xs p.1 in let q = p.0 in grind arith

    -- what a choice of at most n reaches
    pub record Reached (n : ℕ) (xs : List X) : Type 0 where
      pub choice : ℕ → Bool
      pub few : length (filter (λ i. choice (level i)) xs) ≤ n
      pub sum_is : sum_by f (filter (λ i. choice (level i)) xs) ≡ best n (map f xs)

    none_kept : (xs : List X) → filter (λ i. false) xs ≡ []
    none_kept [] = refl
    none_kept (x ∷ xs) = none_kept xs

    kept_first : (s : ℕ → Bool) (x : X) (t : Bool) (xs : List X) → taken level (level x) xs ≡ false → filter (λ i. but s (level x) t (level i)) (x ∷ xs) ≡ cond t (x ∷ filter (λ i. s (level i)) xs) (filter (λ i. s (level i)) xs)
    kept_first s x t xs e = let h = kept_but s (level x) t xs e in let q = eq-eqb (level x) (level x) refl in grind arith

    module _ (n : ℕ) (x : X) (xs : List X) (e : taken level (level x) xs ≡ false) where
      taken_in : best (suc n) (map f xs) ≤ f x + best n (map f xs) → Reached n xs → Reached (suc n) (x ∷ xs)
      taken_in l r =
          let k = kept_first r.choice x true xs e in
          record {
            choice = but r.choice (level x) true;
            few = rw k (let g = r.few in omega arith);
            sum_is = rw k (let g = r.sum_is in omega (arith, sum_by-cons f x (filter (λ i. r.choice (level i)) xs)));
          }

      left_out : f x + best n (map f xs) ≤ best (suc n) (map f xs) → Reached (suc n) xs → Reached (suc n) (x ∷ xs)
      left_out l r =
          let k = kept_first r.choice x false xs e in
          record {
            choice = but r.choice (level x) false;
            few = rw k r.few;
            sum_is = rw k (let g = r.sum_is in omega arith);
          }

    -- some choice of at most n reaches it
    pub best_reached : (n : ℕ) (xs : List X) → distinct level xs ≡ true → Reached n xs
    best_reached n [] d = record { choice = λ l. false; few = omega arith; sum_is = refl }
    best_reached zero (x ∷ xs) d =
        record { choice = λ l. false; few = rw (none_kept xs) (omega arith); sum_is = rw (none_kept xs) refl }
    best_reached (suc n) (x ∷ xs) d =
        let p = and_parts (not (taken level (level x) xs)) (distinct level xs) d in
        let e = not-true (taken level (level x) xs) p.0 in
        ⊎_elim
        (λ (h : best (suc n) (map f xs) < f x + best n (map f xs)). taken_in n x xs e (omega arith) (best_reached n xs p.1))
        (λ (h : f x + best n (map f xs) ≤ best (suc n) (map f xs)). left_out n x xs e h (best_reached (suc n) xs p.1))
        (cases_lt (best (suc n) (map f xs)) (f x + best n (map f xs)))

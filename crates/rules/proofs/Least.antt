-- The search finds the least number that passes. Assumes nothing.
use Rattle.std.proofs.Common.{◌≡◌, ℕ, zero, suc, ◌+◌, ◌-◌, ◌<◌, ◌≤◌, Bool, true, false, cond, List, [], ◌∷◌, map, Some, None, Option, option_map, refl, sym, ap, ◌∙◌, add-one, subst, ⊎_elim, arith}
use Rattle.std.specs.List.{find, range_with_len}
use Rattle.std.specs.declared.ops.RangeInclusive.{RangeInclusive}
use Rattle.std.specs.Range.{range_inclusive_start, range_inclusive_end, range_inclusive_exhausted, range_inclusive_len, range_inclusive_left}
use Rattle.std.proofs.iter.runs.Sources.{nat_range_inclusive_steps}
use Rattle.std.proofs.lemmas.Iterator.{YieldsList}
use Rattle.std.proofs.lemmas.Iterator.Consumers.{YieldsList-from_shown}
use Rattle.std.proofs.lemmas.List.FromFn.{length-range_with_len}
use Rattle.std.proofs.lemmas.Bool.{cases_lt}
use Rattle.analysis.specs.declared.task.Task.{Task}
use Rattle.analysis.specs.declared.task.BoundedTask.{BoundedTask}
use Rattle.rules.specs.Rules.{Rule}
use Rattle.analysis.specs.Interference.{passes}
use Rattle.rules.specs.declared.passing.Passing.{Passing}
use Rattle.rules.specs.Search.{least, Least, IsBound, bound_of, passes_by, counted, counted_bound, window_of}

module _ (p : ℕ → Bool) where
  -- one number that does not pass, before the others
  later : (x last : ℕ) (o : Option ℕ) → p x ≡ false → Least p (suc x) last o → Least p x last o
  later x last (Some y) e h =
      let f = h.from in
      record {
        from = omega arith;
        to = h.to;
        holds = h.holds;
        least = λ z a b.
            ⊎_elim (λ (l : x < z). h.least z (omega arith) b) (λ (l : z ≤ x). subst (λ n. p n ≡ false) (let q : x ≡ z = omega arith in q) e) (cases_lt x z);
      }
  later x last None e h = λ y a b.
      ⊎_elim (λ (l : x < y). h y (omega arith) b) (λ (l : y ≤ x). subst (λ n. p n ≡ false) (let q : x ≡ y = omega arith in q) e) (cases_lt x y)

  from_least : (n x last : ℕ) → last + 1 ≡ x + n → Least p x last (least p n x)
  unfolding least
  from_least zero x last e = λ y a b. absurd (omega arith)
  from_least (suc n) x last e = split (p x) refl (from_least n (suc x) last (omega arith))
    where
      split : (t : Bool) → p x ≡ t → Least p (suc x) last (least p n (suc x)) → Least p x last (cond t (Some x) (least p n (suc x)))
      split true q h = record { from = omega arith; to = omega arith; holds = q; least = λ y a b. absurd (omega arith) }
      split false q h = later x last (least p n (suc x)) q h

  -- the least of the numbers from `first` to `last`
  pub least_found : (first last : ℕ) → Least p first last (least p (last + 1 - first) first)
  unfolding least
  least_found first last =
      ⊎_elim
      (λ (h : first < last + 1 + 1). from_least (last + 1 - first) first last (omega arith))
      (λ (h : last + 1 + 1 ≤ first). let z : last + 1 - first ≡ 0 = omega arith in rw z (λ y a b. absurd (omega arith)))
      (cases_lt first (last + 1 + 1))

  module _ (last x : ℕ) where
    -- x is tried
    pub least_here : x ≤ last → p x ≡ true → least p (last + 1 - x) x ≡ Some x
    unfolding least
    least_here l e = let z : last + 1 - x ≡ suc (last - x) = omega arith in rw (z, e) refl

    pub least_next : x ≤ last → p x ≡ false → least p (last + 1 - x) x ≡ least p (last + 1 - (x + 1)) (x + 1)
    unfolding least
    least_next l e =
        let z : last + 1 - x ≡ suc (last - x) = omega arith in
        let s : suc x ≡ x + 1 = omega arith in
        let n : last - x ≡ last + 1 - (x + 1) = omega arith in
        rw (z, e) (λ j. least p (n j) (s j))

    pub least_none : last + 1 ≤ x → least p (last + 1 - x) x ≡ None
    unfolding least
    least_none l = let z : last + 1 - x ≡ 0 = omega arith in rw z refl

-- the search answers the bound
pub bound_found : (r : Rule) (k : Task) (above : List BoundedTask) (m : ℕ) (o : Option ℕ) → bound_of r k above m ≡ o → IsBound r k above m o
bound_found r k above m o e = subst (IsBound r k above m) e (least_found (passes_by r k above m) (r.first k above m) k.deadline)

-- how many numbers a range has left
abbrev left : RangeInclusive ℕ → ℕ
left s = range_inclusive_left (λ x y. y - x) s

left_gives : (s : RangeInclusive ℕ) → YieldsList nat_range_inclusive_steps (λ x. x) s (range_with_len (range_inclusive_start s) (left s))
left_gives s =
    YieldsList-from_shown nat_range_inclusive_steps (λ x. x) (λ u. range_with_len (range_inclusive_start u) (left u))
    (λ u t h. length-range_with_len (range_inclusive_start u) (left u) ∙ h.1.0)
    (λ u x t h. next u x t h (range_inclusive_exhausted t) refl)
    s
  where
    next : (u : RangeInclusive ℕ) (x : ℕ) (t : RangeInclusive ℕ) → nat_range_inclusive_steps u (Some x) t → (b : Bool) → range_inclusive_exhausted t ≡ b → range_with_len (range_inclusive_start u) (left u) ≡ x ∷ range_with_len (range_inclusive_start t) (left t)
    next u x t h true e =
        let none : left t ≡ 0 = ap (range_inclusive_len (λ x y. y - x) (range_inclusive_start t) (range_inclusive_end t)) e in
        let one : left u ≡ 1 = omega (arith, none, h.1.1) in
        rw (one, none) (ap (λ y. y ∷ []) (sym h.1.0))
    next u x t h false e =
        let one : left u ≡ suc (left t) = omega (arith, h.1.1) in
        rw one (λ j. sym h.1.0 j ∷ range_with_len (sym (h.1.2 e) j) (left t))

-- a range from a to b that was not iterated yet gives these numbers
pub range_gives : (s : RangeInclusive ℕ) (a b : ℕ) → range_inclusive_start s ≡ a → range_inclusive_end s ≡ b → range_inclusive_exhausted s ≡ false → YieldsList nat_range_inclusive_steps (λ x. x) s (range_with_len a (b + 1 - a))
range_gives s a b from to fresh =
    let l = ap (range_inclusive_len (λ x y. y - x) (range_inclusive_start s) (range_inclusive_end s)) fresh in
    let n : left s ≡ b + 1 - a = omega arith in
    subst (YieldsList nat_range_inclusive_steps (λ x. x) s) (λ j. range_with_len (from j) (n j)) (left_gives s)

-- the first of the numbers that passes is the least
pub find_least : (p : ℕ → Bool) (n x : ℕ) → find p (range_with_len x n) ≡ least p n x
unfolding least
find_least p zero x = refl
find_least p (suc n) x = ap (cond (p x) (Some x)) (ap (λ y. find p (range_with_len y n)) (add-one x) ∙ find_least p n (suc x))

-- the first item of a changed list that has a property is the first that has it when changed
find_mapped : {A B : Type 0} (p : B → Bool) (h : A → B) (xs : List A) → find p (map h xs) ≡ option_map h (find (λ x. p (h x)) xs)
find_mapped p h [] = refl
find_mapped p h (x ∷ xs) = split (p (h x)) (find_mapped p h xs)
  where
    split : (t : Bool) → find p (map h xs) ≡ option_map h (find (λ y. p (h y)) xs) → cond t (Some (h x)) (find p (map h xs)) ≡ option_map h (cond t (Some x) (find (λ y. p (h y)) xs))
    split true e = refl
    split false e = e

-- the first counted window that passes is the bound with its total
pub find_counted :
    (r : Rule) (k : Task) (above : List BoundedTask) (m n x : ℕ) →
    find (λ (q : Passing). passes k m q.window q.total) (map (counted r k above m) (range_with_len x n)) ≡ option_map (counted r k above m) (least (passes_by r k above m) n x)
find_counted r k above m n x =
    find_mapped (λ (q : Passing). passes k m q.window q.total) (counted r k above m) (range_with_len x n)
    ∙ ap (option_map (counted r k above m)) (find_least (passes_by r k above m) n x)

-- a counted bound is the bound with its total
module _ (r : Rule) (k : Task) (above : List BoundedTask) (m : ℕ) where
  pub counted_some : (p : Passing) → counted_bound r k above m ≡ Some p → (bound_of r k above m ≡ Some p.window) × (p.total ≡ r.total k above m p.window)
  counted_some p = split (bound_of r k above m)
    where
      split : (o : Option ℕ) → option_map (counted r k above m) o ≡ Some p → (o ≡ Some p.window) × (p.total ≡ r.total k above m p.window)
      split (Some x) e =
          let q : counted r k above m x ≡ p = cc in
          let w : x ≡ p.window = ap (λ (s : Passing). s.window) q in
          (ap Some w, sym (ap (λ (s : Passing). s.total) q) ∙ ap (r.total k above m) w)
      split None e = let z : ◌≡◌ {A = ℕ} 0 1 = cc in absurd (omega arith)

  -- and the window is the bound
  pub counted_least : (o : Option Passing) → o ≡ counted_bound r k above m → IsBound r k above m (window_of o)
  counted_least o e = bound_found r k above m (window_of o) (sym (ap window_of e ∙ back (bound_of r k above m)))
    where
      back : (x : Option ℕ) → window_of (option_map (counted r k above m) x) ≡ x
      back (Some x) = refl
      back None = refl

  pub counted_none : counted_bound r k above m ≡ None → bound_of r k above m ≡ None
  counted_none = split (bound_of r k above m)
    where
      split : (o : Option ℕ) → option_map (counted r k above m) o ≡ None → o ≡ None
      split (Some x) e = let z : ◌≡◌ {A = ℕ} 0 1 = cc in absurd (omega arith)
      split None e = refl

-- A task set that is worked through from the most urgent task on: each task can be tested against those before it.
-- Assumes nothing.
use Rattle.std.proofs.Common.{◌≡◌, ℕ, ◌+◌, ◌<◌, ◌≤◌, true, false, not, ◌&&◌, eqb, ltb, leb, List, [], ◌∷◌, ◌++◌, length, sym, refl, ◌∙◌, subst, arith}
use Rattle.std.proofs.ByRecursion.{All-push, All-weaker}
use Rattle.std.proofs.lemmas.List.{append_assoc, append-nil, length_push}
use Rattle.std.proofs.lemmas.List.Folds.{list_any-append}
use Rattle.std.proofs.lemmas.Bool.{and_from, and_parts, or_parts, or_from, not-true, not_from_false, le-leb, lt-ltb, leb-true, ltb-true, eqb-false, ne_eqb}
use Rattle.std.specs.List.{AllByRecursion}
use Rattle.analysis.specs.declared.task.Task.{Task}
use Rattle.analysis.specs.declared.task.BoundedTask.{BoundedTask}
use Rattle.analysis.specs.Interference.{all_above, taken, distinct, level_of, lawful, numbers_fit}
use Rattle.analysis.specs.Kept.{Holds, Kept}
use Rattle.analysis.specs.Tasks.{within_limits, bound_fits}
use Rattle.analysis.proofs.Facts.{lawful_case, taken_none}
use Rattle.rules.specs.Bounds.{below, rises, all_within, set_fits}

abbrev pub Within : BoundedTask → Type 0
Within i = within_limits i.task ≡ true

-- each comes after level l
abbrev pub After : ℕ → List BoundedTask → Type 0
After l is = AllByRecursion (λ i. l < level_of i) is

abbrev pub Rising : List BoundedTask → Type 0
Rising [] = Unit {0}
Rising (i ∷ is) = After (level_of i) is × Rising is

-- `seen` have their bounds, `is` come next
pub record Walk (m : ℕ) (seen is : List BoundedTask) : Type 0 where
  pub some_core : 1 ≤ m
  pub few_cores : m ≤ 8
  pub seen_fit : AllByRecursion (λ j. bound_fits j ≡ true) seen
  pub fit : AllByRecursion Within is
  pub apart : distinct level_of seen ≡ true
  pub order : AllByRecursion (λ j. After (level_of j) is) seen
  pub rising : Rising is
  pub few : length seen + length is ≤ 32

heads : (i : BoundedTask) (is seen : List BoundedTask) → AllByRecursion (λ j. After (level_of j) (i ∷ is)) seen → AllByRecursion (λ j. level_of j < level_of i) seen
heads i is seen a = All-weaker (λ j. After (level_of j) (i ∷ is)) (λ j. level_of j < level_of i) (λ j h. h.0) seen a

-- a task more at the end, at a level that is not taken
distinct_push : (xs : List BoundedTask) (i : BoundedTask) → distinct level_of xs ≡ true → taken level_of (level_of i) xs ≡ false → distinct level_of (xs ++ i ∷ []) ≡ true
distinct_push [] i d t = refl
distinct_push (x ∷ xs) i d t =
    let p = and_parts (not (taken level_of (level_of x) xs)) (distinct level_of xs) d in
    let q = or_parts (eqb (level_of x) (level_of i)) (taken level_of (level_of i) xs) t in
    let differs = ne_eqb (level_of i) (level_of x) (λ e. eqb-false (level_of x) (level_of i) q.0 (sym e)) in
    let fresh = list_any-append (λ j. eqb (level_of j) (level_of x)) xs (i ∷ []) ∙ or_from _ _ (not-true _ p.0) (or_from _ _ differs refl) in
    and_from _ _ (not_from_false _ fresh) (distinct_push xs i p.1 q.1)

-- the next task got its bound x
pub walk_more :
    (m : ℕ) (seen : List BoundedTask) (i j : BoundedTask) (is : List BoundedTask) →
    level_of j ≡ level_of i →
    bound_fits j ≡ true →
    Walk m seen (i ∷ is) →
    Walk m (seen ++ j ∷ []) is
walk_more m seen i j is e b w =
    record {
      some_core = w.some_core;
      few_cores = w.few_cores;
      seen_fit = All-push (λ j. bound_fits j ≡ true) seen j w.seen_fit b;
      fit = w.fit.1;
      apart = distinct_push seen j w.apart (taken_none (level_of j) seen (All-weaker (λ k. level_of k < level_of i) (λ k. level_of k ≡ level_of j → ⊥) (λ k h f. omega arith) seen (heads i is seen w.order)));
      order = All-push (λ j. After (level_of j) is) seen j (All-weaker (λ j. After (level_of j) (i ∷ is)) (λ j. After (level_of j) is) (λ j h. h.1) seen w.order) (subst (λ l. After l is) (sym e) w.rising.0);
      rising = w.rising.1;
      few = let f = w.few in omega (arith, length_push seen j);
    }

above_from : (k : Task) (seen : List BoundedTask) → AllByRecursion (λ j. bound_fits j ≡ true) seen → AllByRecursion (λ j. level_of j < k.level) seen → all_above k seen ≡ true
above_from k [] f a = refl
above_from k (j ∷ js) f a = and_from _ _ (and_from _ _ f.0 (lt-ltb _ _ a.0)) (above_from k js f.1 a.1)

-- every window from C to D of the next task is a lawful case
pub walk_lawful :
    (m : ℕ) (seen : List BoundedTask) (i : BoundedTask) (is : List BoundedTask) (x : ℕ) →
    Walk m seen (i ∷ is) →
    i.task.run ≤ x →
    x ≤ i.task.deadline →
    lawful i.task seen m x ≡ true
unfolding lawful
walk_lawful m seen i is x w low high =
    let few = w.few in
    let n : numbers_fit i.task (length seen) m x ≡ true = and_from _ _ (and_from _ _ (le-leb 1 m w.some_core) (le-leb m 8 w.few_cores)) (and_from _ _ (le-leb _ 31 (omega arith)) (and_from _ _ w.fit.0 (and_from _ _ (le-leb _ _ low) (le-leb _ _ high)))) in
    and_from _ _ n (and_from _ _ (above_from i.task seen w.seen_fit (heads i is seen w.order)) w.apart)

below_from : (l : ℕ) (is : List BoundedTask) → below l is ≡ true → After l is × Rising is
below_from l [] e = (tt, tt)
below_from l (i ∷ is) e =
    let p = and_parts (ltb l (level_of i)) (below (level_of i) is) e in
    let a = ltb-true _ _ p.0 in
    let h = below_from (level_of i) is p.1 in
    ((a, All-weaker (λ j. level_of i < level_of j) (λ j. l < level_of j) (λ j b. omega arith) is h.0), h)

within_from : (is : List BoundedTask) → all_within is ≡ true → AllByRecursion Within is
within_from [] e = tt
within_from (i ∷ is) e = let p = and_parts (within_limits i.task) (all_within is) e in (p.0, within_from is p.1)

rising_from : (is : List BoundedTask) → rises is ≡ true → Rising is
rising_from [] e = tt
rising_from (i ∷ is) e = below_from (level_of i) is e

-- a set that fits can be walked through from its most urgent task on
pub walk_from : (m : ℕ) (is : List BoundedTask) → set_fits m is ≡ true → Walk m [] is
walk_from m is e =
    let p = and_parts (leb 1 m && leb m 8) _ e in
    let q = and_parts (leb 1 m) _ p.0 in
    let r = and_parts (leb (length is) 32) _ p.1 in
    let s = and_parts (all_within is) _ r.1 in
    record {
      some_core = leb-true _ _ q.0;
      few_cores = leb-true _ _ q.1;
      seen_fit = tt;
      fit = within_from is s.0;
      apart = refl;
      order = tt;
      rising = rising_from is s.1;
      few = let f = leb-true _ _ r.0 in omega arith;
    }

-- a task that holds has a bound that fits
pub holds_fits : (m : ℕ) (seen : List BoundedTask) (i : BoundedTask) → within_limits i.task ≡ true → Holds m seen i → bound_fits i ≡ true
holds_fits m seen i f h = let c = lawful_case _ _ _ _ h.fits in and_from _ _ f (and_from _ _ (le-leb _ _ c.low) (le-leb _ _ c.high))

-- and so on over the tasks that keep their bounds
pub walk_on : (m : ℕ) (seen done is : List BoundedTask) → Kept m seen done → Walk m seen (done ++ is) → Walk m (seen ++ done) is
walk_on m seen [] is k w = subst (λ s. Walk m s is) (sym (append-nil seen)) w
walk_on m seen (j ∷ done) is k w =
    subst (λ s. Walk m s is) (append_assoc seen (j ∷ []) done)
    (walk_on m (seen ++ j ∷ []) done is k.1 (walk_more m seen j j (done ++ is) refl (holds_fits m seen j w.fit.0 k.0) w))

-- one task more that holds
pub kept_push : (m : ℕ) (seen done : List BoundedTask) (i : BoundedTask) → Kept m seen done → Holds m (seen ++ done) i → Kept m seen (done ++ i ∷ [])
kept_push m seen [] i k h = (subst (λ s. Holds m s i) (append-nil seen) h, tt)
kept_push m seen (j ∷ done) i k h =
    (k.0, kept_push m (seen ++ j ∷ []) done i k.1 (subst (λ s. Holds m s i) (sym (append_assoc seen (j ∷ []) done)) h))

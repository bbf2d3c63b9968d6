-- One task more in the count. Assumes nothing.
use Rattle.std.proofs.Common.{◌≡◌, ℕ, zero, suc, ◌+◌, ◌<◌, ◌≤◌, Bool, true, false, cond, not, eqb, List, [], ◌∷◌, map, length, get_or, take, sum_by, sum, sym, refl, ap, ◌∙◌, arith}
use Rattle.std.proofs.ByRecursion.{All-get_or, All-take, All-weaker}
use Rattle.std.proofs.lemmas.List.{map_more, length-take-le, length-map, take-map}
use Rattle.std.proofs.lemmas.List.Elements.{All-map}
use Rattle.std.proofs.lemmas.List.Sums.{sum_by-le, sum_by-cons, sum-map}
use Rattle.std.proofs.lemmas.Bool.{and_parts, or_parts, or_from, not-true, cond-false, ne_eqb}
use Rattle.std.proofs.lemmas.Bool.Decides.{nat_tests}
use Rattle.std.specs.List.{AllByRecursion}
use Rattle.queues.specs.Orders.{extra_lawful}
use Rattle.queues.proofs.Laws.{sort_push, has_sort, length_sort}
use Rattle.queues.specs.Items.{extra_at, extra_before}
use Rattle.queues.specs.Sets.{same, has, insert, sort, put_set}
use Rattle.queues.specs.declared.extra.Extra.{Extra}
use Rattle.analysis.specs.declared.task.Task.{Task}
use Rattle.analysis.specs.declared.task.BoundedTask.{BoundedTask}
use Rattle.analysis.specs.Counting.{Countable, extras, amounts}
use Rattle.analysis.specs.Interference.{extra, lawful, taken, distinct, level_of, sum_largest}
use Rattle.analysis.specs.Work.{plain}
use Rattle.analysis.proofs.Facts.{Above, LawfulCase, lawful_case}
use Rattle.analysis.proofs.Largest.{Falls, best, sum_sorted, largest_best}

module _ {X : Type 0} (level : X → ℕ) where
  taken_not : (l : ℕ) (xs : List X) (j : ℕ) (d : X) → taken level l xs ≡ false → j < length xs → eqb (level (get_or xs j d)) l ≡ false
  taken_not l [] j d e h = absurd (omega arith)
  taken_not l (x ∷ xs) zero d e h = (or_parts (eqb (level x) l) (taken level l xs) e).0
  taken_not l (x ∷ xs) (suc j) d e h = taken_not l xs j d (or_parts (eqb (level x) l) (taken level l xs) e).1 (omega arith)

  -- the tasks before one do not have its level
  pub distinct_at : (xs : List X) (i : ℕ) (d : X) → distinct level xs ≡ true → i < length xs → taken level (level (get_or xs i d)) (take i xs) ≡ false
  distinct_at [] i d e h = absurd (omega arith)
  distinct_at (x ∷ xs) zero d e h = refl
  distinct_at (x ∷ xs) (suc i) d e h =
      let p = and_parts (not (taken level (level x) xs)) (distinct level xs) e in
      let q = taken_not (level x) xs i d (not-true _ p.0) (omega arith) in
      let r : eqb (level x) (level (get_or xs i d)) ≡ false = grind (arith, nat_tests) in
      or_from _ _ r (distinct_at xs i d p.1 (omega arith))

module _ (k : Task) (x : ℕ) where
  -- no sum of plain amounts is too large
  pub plain_fits : (others : List BoundedTask) → Countable k x others → sum_by (plain k x) others ≤ 1860000
  plain_fits others c =
      let f = c.few in
      let s = c.small in
      let h = sum_by-le (plain k x) 60000 others (λ i d l. omega arith) in omega arith

  -- an extra at another level is not among the extras
  lacks : (a l : ℕ) (is : List BoundedTask) → l ≤ 63 → AllByRecursion (λ i. level_of i ≤ 63) is → taken level_of l is ≡ false → has extra_before (extra_at a l) (extras k x is) ≡ false
  lacks a l [] s u e = refl
  lacks a l (i ∷ is) s u e =
      let p = or_parts (eqb (level_of i) l) (taken level_of l is) e in
      let h = lacks a l is s u.1 p.1 in
      let q = p.0 in
      let v = u.0 in
      let z : same extra_before (extra_at a l) (extra_at (extra k x i) (level_of i)) ≡ false = grind (arith, nat_tests) in
      grind arith

  -- the extras so far and one more
  pub extras_more : (others : List BoundedTask) (i room : ℕ) (d : BoundedTask) → Countable k x others → i < length others → length others ≤ room → put_set extra_before room (extra_at (extra k x (get_or others i d)) (level_of (get_or others i d))) (sort extra_before (extras k x (take i others))) ≡ sort extra_before (extras k x (take (i + 1) others))
  extras_more others i room d c h r =
      let t = get_or others i d in
      let e = extra_at (extra k x t) (level_of t) in
      let s = sort extra_before (extras k x (take i others)) in
      let l = All-get_or (λ i. level_of i ≤ 63) others i d h c.levels in
      let q = lacks (extra k x t) (level_of t) (take i others) l (All-take (λ i. level_of i ≤ 63) i others c.levels) (distinct_at level_of others i d c.apart h) in
      let p : has extra_before e s ≡ false = has_sort extra_before e (extras k x (take i others)) ∙ q in
      let n : length s ≡ i = length_sort extra_before (extras k x (take i others)) ∙ length-map (take i others) (λ i. extra_at (extra k x i) (level_of i)) ∙ length-take-le i others (omega arith) in
      let f : eqb (length s) room ≡ false = ne_eqb (length s) room (λ z. omega arith) in
      cond-false (has extra_before e s) s (cond (eqb (length s) room) s (insert extra_before e s)) p
      ∙ cond-false (eqb (length s) room) s (insert extra_before e s) f
      ∙ sym (sort_push extra_before extra_lawful (extras k x (take i others)) e)
      ∙ ap (sort extra_before) (sym (map_more (λ i. extra_at (extra k x i) (level_of i)) others i d h))

amounts_insert : (e : Extra) (s : List Extra) → amounts (insert extra_before e s) ≡ e.amount + amounts s
amounts_insert e [] = omega arith
amounts_insert e (y ∷ s) = split (extra_before y e) (amounts_insert e s)
  where
    split : (t : Bool) → amounts (insert extra_before e s) ≡ e.amount + amounts s → amounts (cond t (y ∷ insert extra_before e s) (e ∷ y ∷ s)) ≡ e.amount + amounts (y ∷ s)
    split true h = omega (arith, sum_by-cons (λ e. e.amount) y (insert extra_before e s), sum_by-cons (λ e. e.amount) y s)
    split false h = sum_by-cons (λ e. e.amount) e (y ∷ s)

amounts_sort : (es : List Extra) → amounts (sort extra_before es) ≡ amounts es
amounts_sort [] = refl
amounts_sort (e ∷ es) = amounts_insert e (sort extra_before es) ∙ ap (λ n. e.amount + n) (amounts_sort es) ∙ sym (sum_by-cons (λ e. e.amount) e es)

amount_falls : Falls extra_before (λ e. e.amount)
amount_falls = record { before = λ x y p. grind (arith, nat_tests); after = λ x y p. grind (arith, nat_tests) }

module _ (k : Task) (x : ℕ) where
  -- no sum of extras is too large
  pub extras_fit : (others : List BoundedTask) → Countable k x others → amounts (sort extra_before (extras k x others)) ≤ 1860000
  extras_fit others c =
      let f = c.few in
      let s = c.small in
      let with_level = λ (i : BoundedTask). extra_at (extra k x i) (level_of i) in
      let h = sum_by-le (λ e. e.amount) 60000 (extras k x others) (All-map (λ e. e.amount ≤ 60000) with_level others (λ i d l. omega arith)) in
      omega (arith, amounts_sort (extras k x others), length-map others with_level)

  amounts_of : (others : List BoundedTask) → map (λ e. e.amount) (extras k x others) ≡ map (extra k x) others
  amounts_of [] = refl
  amounts_of (i ∷ is) = ap (λ l. extra k x i ∷ l) (amounts_of is)

  -- the first n of the sorted extras are the n largest
  pub largest_read : (n : ℕ) (others : List BoundedTask) → amounts (take n (sort extra_before (extras k x others))) ≡ sum_largest n (map (extra k x) others)
  largest_read n others =
      let s = sort extra_before (extras k x others) in
      sym (sum-map (λ e. e.amount) (take n s))
      ∙ ap sum (sym (take-map (λ e. e.amount) n s))
      ∙ sum_sorted extra_before (λ e. e.amount) amount_falls n (extras k x others)
      ∙ ap (best n) (amounts_of others)
      ∙ sym (largest_best n (map (extra k x) others))

  -- in a lawful case all can be counted
  pub countable_case : (others : List BoundedTask) (m : ℕ) → LawfulCase k others m x → Countable k x others
  countable_case others m c =
      record {
        few = c.few;
        small = let l = c.limits in let a = c.low in let b = c.high in omega arith;
        levels = All-weaker (Above k) (λ i. level_of i ≤ 63) (λ i a. a.limits.level) others c.each;
        apart = c.apart;
      }

  pub countable_from : (others : List BoundedTask) (m : ℕ) → lawful k others m x ≡ true → Countable k x others
  countable_from others m e = countable_case others m (lawful_case k others m x e)

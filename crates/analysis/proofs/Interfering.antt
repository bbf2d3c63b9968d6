-- Laws of the interference. Assumes nothing.
use Rattle.std.proofs.Common.{◌≡◌, ℕ, ◌+◌, ◌-◌, ◌<◌, ◌≤◌, List, [], ◌∷◌, map, length, get_or, take, set, sum_by, sum, sym, refl, ap, ◌∙◌, arith}
use Rattle.std.proofs.lemmas.List.{get_or-map, length-map, map-set}
use Rattle.std.proofs.lemmas.List.Sorted.{IsPermutation-keeps, sum_by-IsPermutation}
use Rattle.std.proofs.lemmas.List.Sums.{sum-map, sum_by-cons}
use Rattle.std.proofs.lemmas.Bool.Decides.{nat_tests}
use Rattle.std.specs.List.{swap, AllByRecursion}
use Rattle.std.specs.List.Sorted.{IsPermutation}
use Rattle.queues.specs.Sets.{Lawful, sort}
use Rattle.heaps.proofs.Sorting.{sort_swap}
use Rattle.analysis.specs.declared.task.Task.{Task}
use Rattle.analysis.specs.declared.task.BoundedTask.{BoundedTask}
use Rattle.analysis.specs.Interference.{larger, sum_largest, extra, interference, level_of}
use Rattle.analysis.specs.Laws.{InterferenceLaws}
use Rattle.analysis.specs.Work.{plain, carried}
use Rattle.analysis.proofs.Largest.{best, best_le_sum, largest_best, chosen_best, best_reached}

larger_lawful : Lawful larger
larger_lawful = record {
  irreflexive = λ x. grind (arith, nat_tests);
  transitive = λ x y z p q. grind (arith, nat_tests);
  total = λ x y p q. grind (arith, nat_tests);
}

module _ {X : Type 0} (f : X → ℕ) (n : ℕ) where
  -- two items in each other's place
  largest_exchanged : (xs : List X) (i j : ℕ) → i < length xs → j < length xs → sum_largest n (map f (swap xs i j)) ≡ sum_largest n (map f xs)
  unfolding sum_largest
  largest_exchanged [] i j p q = refl
  largest_exchanged (x ∷ xs) i j p q =
      let l = x ∷ xs in
      let s : map f (set (set l i (get_or l j x)) j (get_or l i x)) ≡ set (set (map f l) i (get_or (map f l) j (f x))) j (get_or (map f l) i (f x)) =
      map-set f (set l i (get_or l j x)) j (get_or l i x)
      ∙ (λ t. set ((map-set f l i (get_or l j x) ∙ ap (set (map f l) i) (sym (get_or-map f l j x (f x) q))) t) j (sym (get_or-map f l i x (f x) p) t)) in
      ap (λ ys. sum (take n (sort larger ys))) s
      ∙ ap (λ ys. sum (take n ys)) (sort_swap larger larger_lawful (map f l) i j (f x) (omega (arith, length-map l f)) (omega (arith, length-map l f)))

  largest_shuffled : (xs ys : List X) → IsPermutation xs ys → sum_largest n (map f ys) ≡ sum_largest n (map f xs)
  largest_shuffled xs ys s =
      IsPermutation-keeps xs (λ l. sum_largest n (map f l) ≡ sum_largest n (map f xs)) refl (λ l i j p q h. largest_exchanged l i j p q ∙ h) ys s

module _ (k : Task) (m x : ℕ) where
  by_best : (others : List BoundedTask) → interference k others m x ≡ sum_by (plain k x) others + best (m - 1) (map (extra k x) others)
  unfolding interference
  by_best others = ap (λ n. sum_by (plain k x) others + n) (largest_best (m - 1) (map (extra k x) others))

  -- plain amounts and extras make up the carried amounts
  all_extras : (others : List BoundedTask) → AllByRecursion (λ i. plain k x i ≤ carried k x i) others → sum_by (plain k x) others + sum_by (extra k x) others ≡ sum_by (carried k x) others
  all_extras [] a = refl
  all_extras (i ∷ is) a =
      let h = all_extras is a.1 in
      let c = sum_by-cons (carried k x) i is in
      let p = sum_by-cons (plain k x) i is in
      let e = sum_by-cons (extra k x) i is in
      let l = a.0 in
      omega arith

  interference_shuffled : (others same : List BoundedTask) → IsPermutation others same → interference k same m x ≡ interference k others m x
  unfolding interference
  interference_shuffled others same s = (λ j. sum_by-IsPermutation (plain k x) others same s j + largest_shuffled (extra k x) (m - 1) others same s j)

  pub interference_laws : (others : List BoundedTask) → InterferenceLaws k others m x
  interference_laws others =
      let b = by_best others in
      record {
        largest = λ S few. let c = chosen_best (extra k x) (λ i. S (level_of i)) (m - 1) others few in omega arith;
        reached = λ d.
            let r = best_reached (extra k x) level_of (m - 1) others d in
            record { choice = r.choice; few = r.few; load_is = ap (λ n. sum_by (plain k x) others + n) r.sum_is ∙ sym b };
        covered = λ a. let e = all_extras others a in let l = best_le_sum (m - 1) (map (extra k x) others) in omega (arith, sum-map (extra k x) others);
        reordered = interference_shuffled others;
      }

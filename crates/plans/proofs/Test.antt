-- The deadline rule is the published test. Assumes nothing.
use Rattle.std.proofs.Common.{◌≡◌, ℕ, ◌+◌, ◌-◌, ◌*◌, ◌/◌, ◌%◌, ◌<◌, ◌≤◌, min, true, false, List, [], ◌∷◌, map, sum_by, sym, refl, ap, ◌∙◌, subst, ⊎_elim, mul_comm, div-lt_iff_lt-mul, div-add-mod', arith}
use Rattle.std.proofs.lemmas.List.Sums.{sum_by-cons}
use Rattle.std.proofs.lemmas.Bool.{leb-true, leb-false, le-leb, cond-true, cases_lt}
use Rattle.analysis.specs.declared.task.Task.{Task}
use Rattle.planning.specs.Admission.{task_level}
use Rattle.analysis.specs.Interference.{extra, interference, lawful, total}
use Rattle.planning.specs.Plans.{at_deadline, all_at_deadline, row_passes, row_total}
use Rattle.planning.specs.Published.{i_nc, i_ci, load, limit, Satisfies}
use Rattle.analysis.specs.Work.{amount, plain, carried, cap}
use Rattle.analysis.proofs.Facts.{Limits, limits_from}
use Rattle.analysis.proofs.Largest.{best, largest_best, chosen_best, best_reached, Reached}
use Rattle.rules.proofs.Walks.{Walk, walk_lawful}
use Rattle.plans.proofs.Walks.{distinct_deadline}

-- what is left over is the window less the whole gaps
amount_by_product : (c t y : ℕ) → amount c t y ≡ y / t * c + min c (y - y / t * t)
unfolding amount
amount_by_product c t y = let e : y % t ≡ y - y / t * t = omega (arith, div-add-mod' y t) in ap (λ r. y / t * c + min c r) e

pub plain_published : (k i : Task) → plain k k.deadline (at_deadline i) ≡ i_nc k i
plain_published k i = ap (λ a. min a (cap k k.deadline)) (amount_by_product i.run i.gap k.deadline)

pub carried_published : (k i : Task) → carried k k.deadline (at_deadline i) ≡ i_ci k i
carried_published k i =
    ap (λ a. min a (cap k k.deadline)) (amount_by_product i.run i.gap (k.deadline + i.deadline - i.run))

abbrev pub surplus : Task → Task → ℕ
surplus k i = i_ci k i - i_nc k i

plains : (k : Task) (above : List Task) → sum_by (plain k k.deadline) (all_at_deadline above) ≡ sum_by (i_nc k) above
plains k [] = refl
plains k (i ∷ is) =
    omega (arith, plains k is, plain_published k i, sum_by-cons (plain k k.deadline) (at_deadline i) (all_at_deadline is), sum_by-cons (i_nc k) i is)

surpluses : (k : Task) (above : List Task) → map (extra k k.deadline) (all_at_deadline above) ≡ map (surplus k) above
surpluses k [] = refl
surpluses k (i ∷ is) = (λ j. (carried_published k i j - plain_published k i j) ∷ surpluses k is j)

-- the interference is the largest load over all choices
pub interference_published : (k : Task) (above : List Task) (m : ℕ) → interference k (all_at_deadline above) m k.deadline ≡ sum_by (i_nc k) above + best (m - 1) (map (surplus k) above)
unfolding interference
interference_published k above m =
    (λ j. plains k above j + (largest_best (m - 1) (map (extra k k.deadline) (all_at_deadline above)) ∙ ap (best (m - 1)) (surpluses k above)) j)

-- the test without a division
pub passes_below : (c x m total : ℕ) → 1 ≤ m → c ≤ x → total / m + c ≤ x → total < m * (x - c + 1)
passes_below c x m total low h p =
    let q : total / m < x - c + 1 = omega arith in
    subst (λ n. total < n) (mul_comm (x - c + 1) m) ((div-lt_iff_lt-mul low).0 q)

pub passes_from_below : (c x m total : ℕ) → 1 ≤ m → c ≤ x → total < m * (x - c + 1) → total / m + c ≤ x
passes_from_below c x m total low h p =
    let q : total / m < x - c + 1 = (div-lt_iff_lt-mul low).1 (subst (λ n. total < n) (mul_comm m (x - c + 1)) p) in omega arith

module _ (m : ℕ) (seen : List Task) (k : Task) (ks : List Task) (w : Walk m (all_at_deadline seen) (all_at_deadline (k ∷ ks))) where
  abbrev worst : ℕ
  worst = sum_by (i_nc k) seen + best (m - 1) (map (surplus k) seen)

  limits : Limits k
  limits = limits_from k w.fit.0

  total_is : row_total m (all_at_deadline seen) (at_deadline k) ≡ worst
  total_is =
      cond-true (lawful k (all_at_deadline seen) m k.deadline) _ 4294967295 (walk_lawful m (all_at_deadline seen) (at_deadline k) (all_at_deadline ks) k.deadline w limits.run (omega arith))
      ∙ interference_published k seen m

  -- a task that passes satisfies the published test
  pub passes_satisfies : row_passes m (all_at_deadline seen) (at_deadline k) ≡ true → Satisfies m seen k
  passes_satisfies p S few =
      let q : worst < limit m k = passes_below k.run k.deadline m worst w.some_core limits.run (subst (λ t. t / m + k.run ≤ k.deadline) total_is (leb-true _ _ p)) in
      let c = chosen_best (surplus k) (λ i. S i.level) (m - 1) seen few in
      omega arith

  -- a task that satisfies it passes: some choice is the worst
  pub reached : Reached (surplus k) task_level (m - 1) seen
  reached = best_reached (surplus k) task_level (m - 1) seen (sym (distinct_deadline seen) ∙ w.apart)

  pub satisfies_passes : Satisfies m seen k → row_passes m (all_at_deadline seen) (at_deadline k) ≡ true
  satisfies_passes s =
      let q = s reached.choice reached.few in
      let e = reached.sum_is in
      let b : worst < limit m k = omega arith in
      le-leb _ _ (subst (λ t. t / m + k.run ≤ k.deadline) (sym total_is) (passes_from_below k.run k.deadline m worst w.some_core limits.run b))

  -- where a task does not pass, that choice breaks the test
  pub fails_breaks : row_passes m (all_at_deadline seen) (at_deadline k) ≡ false → limit m k ≤ load k seen reached.choice
  fails_breaks p =
      let e = reached.sum_is in
      ⊎_elim
      (λ (h : worst < limit m k). absurd (omega (arith, leb-false _ _ p, subst (λ t. t / m + k.run ≤ k.deadline) (sym total_is) (passes_from_below k.run k.deadline m worst w.some_core limits.run h))))
      (λ (h : limit m k ≤ worst). omega arith)
      (cases_lt worst (limit m k))

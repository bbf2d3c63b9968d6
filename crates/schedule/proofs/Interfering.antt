-- In a window in which a job is late, more urgent tasks would run more than their interference. Assumes nothing.
use Rattle.std.proofs.Common.{◌≡◌, ℕ, ◌+◌, ◌-◌, ◌*◌, ◌/◌, ◌<◌, ◌≤◌, true, false, cond, List, [], ◌∷◌, map, length, sum_by, filter, ap, subst, ⊎_elim, mul_comm, div-lt_iff_lt-mul, arith}
use Rattle.std.proofs.ByRecursion.{All-weaker}
use Rattle.std.proofs.lemmas.Bool.{and_parts, and_from, both_ways, cases_Bool, cases_lt, leb-true, lt-ltb, ltb-true}
use Rattle.std.specs.List.{AllByRecursion}
use Rattle.analysis.specs.declared.task.Task.{Task}
use Rattle.analysis.specs.declared.task.BoundedTask.{BoundedTask}
use Rattle.analysis.specs.Interference.{extra, interference, level_of, passes, taken}
use Rattle.analysis.specs.Work.{amount, cap, plain}
use Rattle.analysis.proofs.Facts.{Above, LawfulCase}
use Rattle.analysis.proofs.Largest.{largest_best, chosen_best}
use Rattle.schedule.specs.Legal.{Legal}
use Rattle.schedule.specs.Levels.{at_level, run_at, gap_at, bound_at}
use Rattle.schedule.specs.Running.{num}
use Rattle.schedule.specs.Schedules.{Schedule}
use Rattle.schedule.proofs.Blocked.{blocked, carries, few_carry, longest_run, many_blocked}
use Rattle.schedule.proofs.Carried.{carried_workload}
use Rattle.schedule.proofs.Shares.{busy, share, first_slots, shares, share_slots, share_ran, share_none}
use Rattle.schedule.proofs.Totals.{total_by_list, kept_by_level, sum_chosen}
use Rattle.schedule.proofs.Workload.{fresh_workload}

-- the test without a division
passes_below : (k : Task) (m x g : ℕ) → 1 ≤ m → k.run ≤ x → passes k m x g ≡ true → g < m * cap k x
passes_below k m x g some low e =
    let q : g / m < cap k x = omega (arith, leb-true (g / m + k.run) x e) in
    subst (λ n. g < n) (mul_comm (cap k x) m) ((div-lt_iff_lt-mul some).0 q)

-- a task that is known to keep its bound
pub record Known (set : List BoundedTask) (now : ℕ) (s : Schedule) (i : BoundedTask) : Type 0 where
  pub stands : at_level (level_of i) set ≡ i
  pub meets : (u : ℕ) → u ≤ now → s.there u (level_of i) ≡ true → u < s.since u (level_of i) + i.bound

module _ (m : ℕ) (set : List BoundedTask) (start now : ℕ) (s : Schedule) (legal : Legal m set start now s) (k : Task) (x from y : ℕ) (inside : from + x ≤ now) (early : y ≤ from + x) (slots : num (busy m s k.level from) y ≡ cap k x) where
  -- what a more urgent task has of the window's busy slots
  share_within : (i : BoundedTask) → Known set now s i → Above k i → share m s k.level from y (level_of i) ≤ plain k x i + cond (carries s from (level_of i)) (extra k x i) 0
  share_within i known a =
      let e = known.stands in
      let l = level_of i in
      let c : run_at set l ≡ i.task.run = ap (λ j. j.task.run) e in
      let t : gap_at set l ≡ i.task.gap = ap (λ j. j.task.gap) e in
      let r : bound_at set l ≡ i.bound = ap (λ j. j.bound) e in
      let p = a.limits.run in
      let q = a.limits.deadline in
      let z = a.limits.some in
      let v = a.low in
      let w = a.high in
      let pos : 1 ≤ gap_at set l = omega arith in
      let n = share_slots m s k.level from y l in
      let b = share_ran m s k.level from y (from + x) l early (omega arith) in
      ⊎_elim
      (λ (h : carries s from l ≡ true).
      let d = and_parts (s.there from l) _ h in
      let f = carried_workload m set start now s legal l pos from x inside d.0 (ltb-true _ _ d.1) (omega arith) (omega arith) (λ u n o. omega (arith, known.meets u n o)) in
      let g : amount (run_at set l) (gap_at set l) (x + bound_at set l - run_at set l) ≡ amount i.task.run i.task.gap (x + i.bound - i.task.run) = ap (λ j. amount j.task.run j.task.gap (x + j.bound - j.task.run)) e in
      let o : cond (carries s from l) (extra k x i) 0 ≡ extra k x i = ap (λ o. cond o (extra k x i) 0) h in
      omega arith)
      (λ (h : carries s from l ≡ false).
      let f = fresh_workload m set start now s legal l pos from x inside (λ o u. both_ways _ h (and_from _ _ o (lt-ltb _ _ u))) in
      let g : amount (run_at set l) (gap_at set l) x ≡ amount i.task.run i.task.gap x = ap (λ j. amount j.task.run j.task.gap x) e in
      omega arith)
      (cases_Bool (carries s from l))

  -- what they all have
  shares_within : (above : List BoundedTask) → AllByRecursion (Known set now s) above → AllByRecursion (Above k) above → length (filter (λ i. carries s from (level_of i)) above) ≤ m - 1 → sum_by (λ i. share m s k.level from y (level_of i)) above ≤ interference k above m x
  unfolding interference
  shares_within above known each few =
      let a = sum_chosen (λ i. share m s k.level from y (level_of i)) (plain k x) (extra k x) (λ i. carries s from (level_of i)) above (joined above known each) in
      let b = chosen_best (extra k x) (λ i. carries s from (level_of i)) (m - 1) above few in
      omega (arith, largest_best (m - 1) (map (extra k x) above))
    where
      joined : (is : List BoundedTask) → AllByRecursion (Known set now s) is → AllByRecursion (Above k) is → AllByRecursion (λ i. share m s k.level from y (level_of i) ≤ plain k x i + cond (carries s from (level_of i)) (extra k x i) 0) is
      joined [] f g = tt
      joined (i ∷ is) f g = (share_within i f.0 g.0, joined is f.1 g.1)

module _ (m : ℕ) (set : List BoundedTask) (start now : ℕ) (s : Schedule) (legal : Legal m set start now s) where
  -- a level without a task has no job
  pub none_there : (t i : ℕ) → t ≤ now → run_at set i ≡ 0 → s.there t i ≡ false
  none_there t i n e =
      ⊎_elim
      (λ (h : s.there t i ≡ true). absurd (omega (arith, legal.unfinished t i n h)))
      (λ (h : s.there t i ≡ false). h)
      (cases_Bool (s.there t i))

  module _ (k : BoundedTask) (above : List BoundedTask) (case : LawfulCase k.task above m k.bound) (tested : passes k.task m k.bound (interference k.task above m k.bound) ≡ true) (stands : at_level (level_of k) set ≡ k) (known : AllByRecursion (Known set now s) above) (empty : (u : ℕ) → u < level_of k → taken level_of u above ≡ false → run_at set u ≡ 0) where
    never_late : (t : ℕ) → t ≤ now → s.there t (level_of k) ≡ true → s.since t (level_of k) + k.bound ≤ t → ⊥
    never_late t n here late =
        let l = level_of k in
        let x = k.bound in
        let c : run_at set l ≡ k.task.run = ap (λ j. j.task.run) stands in
        let z = case.limits.some in
        let v = case.low in
        let w = longest_run (blocked m s l) start (s.since t l) (legal.released t l n here).0 in
        let from = w.from in
        let h = w.high in
        let b = many_blocked m set start now s legal l t x n here late (omega arith) (omega arith) w in
        let f = first_slots m s l from (from + x) (cap k.task x) (omega arith) (omega arith) in
        let y = f.0 in
        let early = f.1 in
        let slots = f.2 in
        let few = few_carry m set start now s legal l (s.since t l) w case.some_core (omega arith) in
        let kept = kept_by_level level_of (carries s from) l above case.apart (All-weaker (Above k.task) (λ i. level_of i < l) (λ i a. a.urgent) above case.each) in
        let g = shares_within m set start now s legal k.task x from y (omega arith) early slots above known case.each (omega arith) in
        let o = total_by_list level_of (share m s l from y) l above (λ u a e. share_none m s l from y u (λ t d. none_there t u (omega arith) (empty u a e))) in
        let q : m * num (busy m s l from) y ≡ m * cap k.task x = ap (λ j. m * j) slots in
        omega (arith, shares m s l from y, passes_below k.task m x (interference k.task above m x) case.some_core v tested)

    -- where the more urgent tasks keep their bounds, this one does
    pub keeps_bound : Known set now s k
    keeps_bound =
        record {
          stands = stands;
          meets = λ t n here. ⊎_elim (λ (h : t < s.since t (level_of k) + k.bound). h) (λ (h : s.since t (level_of k) + k.bound ≤ t). absurd (never_late t n here h)) (cases_lt t (s.since t (level_of k) + k.bound));
        }

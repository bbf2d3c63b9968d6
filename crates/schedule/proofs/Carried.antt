-- A task with a job that was released before the window and is still there when it begins: with the slots that this job can
-- still use, all its jobs do at most the amount of a window longer by the bound less the run time. Assumes nothing.
use Rattle.std.proofs.Common.{◌≡◌, ℕ, suc, ◌+◌, ◌-◌, ◌<◌, ◌≤◌, min, true, List, ap, ⊎_elim, arith}
use Rattle.std.proofs.lemmas.Bool.{cases_lt}
use Rattle.analysis.specs.declared.task.BoundedTask.{BoundedTask}
use Rattle.analysis.specs.Work.{amount}
use Rattle.schedule.specs.Legal.{Legal}
use Rattle.schedule.specs.Levels.{run_at, gap_at, bound_at}
use Rattle.schedule.specs.Running.{runs}
use Rattle.schedule.specs.Schedules.{Schedule}
use Rattle.schedule.proofs.Amounts.{amount_gap, amount_one, amount_rises, amount_short, amount_slow}
use Rattle.schedule.proofs.Counts.{num_rises, num_in}
use Rattle.schedule.proofs.Jobs.{ran, runs_there, had, in_order}
use Rattle.schedule.proofs.Workload.{OldWithin, workload}

-- a job that is d ticks old, has at most c slots left and is gone r ticks after its release; the next one comes a gap after it
amount_carried : (c t r d x w : ℕ) → 1 ≤ t → c ≤ r → r ≤ t → d ≤ r → w ≤ min c (r - d) + amount c t (x + d - t) → w ≤ x → w ≤ amount c t (x + r - c)
amount_carried c t r d x w pos low high old h inside =
    ⊎_elim
    (λ (l : x + d < t).
    let e : amount c t (x + d - t) ≡ amount c t 0 = ap (amount c t) (omega arith) in
    omega (arith, amount_short c t pos 0 pos, amount_one c t pos x, amount_rises c t pos x (x + r - c) (omega arith)))
    (λ (l : t ≤ x + d).
    let e : amount c t (x + d - t + t) ≡ amount c t (x + d) = ap (amount c t) (omega arith) in
    let g = amount_gap c t pos (x + d - t) in
    ⊎_elim
    (λ (k : x + d < x + r - c). omega (arith, amount_rises c t pos (x + d) (x + r - c) (omega arith)))
    (λ (k : x + r - c ≤ x + d). omega (arith, amount_slow c t pos (omega arith) (x + r - c) (x + d) k))
    (cases_lt (x + d) (x + r - c)))
    (cases_lt (x + d) t)

module _ (m : ℕ) (set : List BoundedTask) (start now : ℕ) (s : Schedule) (legal : Legal m set start now s) (i : ℕ) (pos : 1 ≤ gap_at set i) where
  module _ (from x : ℕ) (inside : from + x ≤ now) (here : s.there from i ≡ true) (carried : s.since from i < from) (low : run_at set i ≤ bound_at set i) (high : bound_at set i ≤ gap_at set i) (meets : (u : ℕ) → u ≤ now → s.there u i ≡ true → u < s.since u i + bound_at set i) where
    -- the tick from which on new jobs can come
    abbrev next : ℕ
    next = s.since from i + gap_at set i

    abbrev rest : ℕ
    rest = min (run_at set i) (bound_at set i - (from - s.since from i))

    old : OldWithin m set start now s legal i pos from next rest
    old u l n e h =
        let is = runs_there m s u i e in
        let o = in_order m set start now s legal i from u l (omega arith) here is in
        let q : s.since u i ≡ s.since from i =
        ⊎_elim
        (λ (k : s.since from i < s.since u i). absurd (omega (arith, legal.apart from u i (omega arith) (omega arith) here is k)))
        (λ (k : s.since u i ≤ s.since from i). omega arith)
        (cases_lt (s.since from i) (s.since u i)) in
        let v : ran m s i (s.since u i) ≡ ran m s i (s.since from i) = ap (ran m s i) q in
        let a = had m set start now s legal u i (omega arith) is in
        let b = num_rises (λ t. runs m s t i) (s.since from i) from (omega arith) in
        let c = num_in (λ t. runs m s t i) from (suc u) (omega arith) in
        let d = num_in (λ t. runs m s t i) u (suc u) (omega arith) in
        omega (arith, meets u (omega arith) is)

    pub carried_workload : ran m s i (from + x) ≤ ran m s i from + amount (run_at set i) (gap_at set i) (x + bound_at set i - run_at set i)
    carried_workload =
        let d = from - s.since from i in
        let w = workload m set start now s legal i pos from next rest old (from + x) (omega arith) inside in
        let e : amount (run_at set i) (gap_at set i) (from + x - next) ≡ amount (run_at set i) (gap_at set i) (x + d - gap_at set i) = ap (amount (run_at set i) (gap_at set i)) (omega arith) in
        let n = num_in (λ t. runs m s t i) from (from + x) (omega arith) in
        let a = amount_carried (run_at set i) (gap_at set i) (bound_at set i) d x (ran m s i (from + x) - ran m s i from) pos low high (omega (arith, meets from (omega arith) here)) (omega arith) (omega arith) in
        omega arith

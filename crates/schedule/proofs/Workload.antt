-- How much one level runs from a tick on. Assumes nothing.
use Rattle.std.proofs.Common.{◌≡◌, ℕ, suc, ◌+◌, ◌-◌, ◌<◌, ◌≤◌, true, false, ◌⊎◌, List, ap, inl, inr, ⊎_elim, arith}
use native.Mathlib.Decide.{le_ind}
use Rattle.std.proofs.lemmas.Bool.{cases_Bool, cases_lt}
use Rattle.analysis.specs.declared.task.BoundedTask.{BoundedTask}
use Rattle.analysis.specs.Work.{amount}
use Rattle.schedule.specs.Legal.{Legal}
use Rattle.schedule.specs.Levels.{run_at, gap_at}
use Rattle.schedule.specs.Running.{runs}
use Rattle.schedule.specs.Schedules.{Schedule}
use Rattle.schedule.proofs.Amounts.{full, full_later, full_and_one}
use Rattle.schedule.proofs.Counts.{bit_le, bit_no, num_rises, num_in}
use Rattle.schedule.proofs.Jobs.{ran, runs_there, had, back, in_order}

module _ (m : ℕ) (set : List BoundedTask) (start now : ℕ) (s : Schedule) (legal : Legal m set start now s) (i : ℕ) (pos : 1 ≤ gap_at set i) where
  -- jobs released before `floor` run at most b slots from tick `from` on
  abbrev pub OldWithin : ℕ → ℕ → ℕ → Type 0
  OldWithin from floor b = (u : ℕ) → from ≤ u → u < now → runs m s u i ≡ true → s.since u i < floor → ran m s i (suc u) ≤ ran m s i from + b

  module _ (from floor b : ℕ) (old : OldWithin from floor b) where
    -- the last job released at `floor` or later that ran before tick z
    record Newest (z : ℕ) : Type 0 where
      pub seen : ℕ
      pub early : seen < z
      pub is_there : s.there seen i ≡ true
      pub late : floor ≤ s.since seen i
      pub before : ran m s i (s.since seen i) ≤ ran m s i from + b + full (run_at set i) (gap_at set i) pos (s.since seen i - floor)
      pub after : ran m s i z ≤ ran m s i (s.since seen i) + run_at set i

    abbrev Done : ℕ → Type 0
    Done z = (ran m s i z ≤ ran m s i from + b) ⊎ Newest z

    one_more : (z : ℕ) → from ≤ z → suc z ≤ now → Done z → Done (suc z)
    one_more z l n d = ⊎_elim running idle (cases_Bool (runs m s z i))
      where
        idle : runs m s z i ≡ false → Done (suc z)
        idle e =
            let q = bit_no (runs m s z i) e in
            ⊎_elim
            (λ (h : ran m s i z ≤ ran m s i from + b). inl (omega arith))
            (λ (j : Newest z). inr (record { seen = j.seen; early = let k = j.early in omega arith; is_there = j.is_there; late = j.late; before = j.before; after = let k = j.after in omega arith }))
            d

        running : runs m s z i ≡ true → Done (suc z)
        running e =
            let here = runs_there m s z i e in
            let r = (legal.released z i (omega arith) here).1 in
            let g = had m set start now s legal z i (omega arith) here in
            let w = num_rises (λ t. runs m s t i) (s.since z i) z r in
            let o = bit_le (runs m s z i) in
            ⊎_elim
            (λ (h : s.since z i < floor). inl (old z l n e h))
            (λ (h : floor ≤ s.since z i).
            let new : ran m s i (s.since z i) ≤ ran m s i from + b + full (run_at set i) (gap_at set i) pos (s.since z i - floor) → Done (suc z) =
            λ k. inr (record { seen = z; early = omega arith; is_there = here; late = h; before = k; after = omega arith }) in
            ⊎_elim
            (λ (k : ran m s i z ≤ ran m s i from + b). new (omega arith))
            (λ (j : Newest z).
            let a = j.after in
            let p = j.before in
            let y = j.late in
            let x = j.early in
            ⊎_elim
            (λ (k : s.since j.seen i < s.since z i).
            let t = legal.apart j.seen z i (omega arith) (omega arith) j.is_there here k in
            let f = full_later (run_at set i) (gap_at set i) pos (s.since j.seen i - floor) (s.since z i - floor) (omega arith) in
            new (omega arith))
            (λ (k : s.since z i ≤ s.since j.seen i).
            let c = in_order m set start now s legal i j.seen z (omega arith) (omega arith) j.is_there here in
            let q : s.since z i ≡ s.since j.seen i = omega arith in
            let v : ran m s i (s.since z i) ≡ ran m s i (s.since j.seen i) = ap (ran m s i) q in
            let f : full (run_at set i) (gap_at set i) pos (s.since z i - floor) ≡ full (run_at set i) (gap_at set i) pos (s.since j.seen i - floor) = ap (λ n. full (run_at set i) (gap_at set i) pos (n - floor)) q in
            new (omega arith))
            (cases_lt (s.since j.seen i) (s.since z i)))
            d)
            (cases_lt (s.since z i) floor)

    done_by : (z : ℕ) → from ≤ z → z ≤ now → Done z
    done_by z l = le_ind (λ z. z ≤ now → Done z) (λ n. inl (omega arith)) (λ z l ih n. one_more z l n (ih (omega arith))) z l

    -- beside those it runs what new jobs can from `floor` on
    pub workload : (z : ℕ) → from ≤ z → z ≤ now → ran m s i z ≤ ran m s i from + b + amount (run_at set i) (gap_at set i) (z - floor)
    workload z l n =
        ⊎_elim
        (λ (h : ran m s i z ≤ ran m s i from + b). omega arith)
        (λ (j : Newest z).
        let r = s.since j.seen i in
        let k = (legal.released j.seen i (let x = j.early in omega arith) j.is_there).1 in
        let x = j.early in
        let y = j.late in
        let w = num_in (λ t. runs m s t i) r z (omega arith) in
        let f = full_and_one (run_at set i) (gap_at set i) pos (r - floor) (z - r) in
        let e : amount (run_at set i) (gap_at set i) (r - floor + (z - r)) ≡ amount (run_at set i) (gap_at set i) (z - floor) = ap (amount (run_at set i) (gap_at set i)) (omega arith) in
        omega (arith, j.before, j.after))
        (done_by z l n)

  -- a task with no job from before the window does at most the amount of the window
  pub fresh_workload : (from x : ℕ) → from + x ≤ now → (s.there from i ≡ true → s.since from i < from → ⊥) → ran m s i (from + x) ≤ ran m s i from + amount (run_at set i) (gap_at set i) x
  fresh_workload from x inside fresh =
      let old : OldWithin from from 0 = λ u l n e h. let b = back m set start now s legal i from u l (omega arith) (runs_there m s u i e) (omega arith) in let q = b.1 in absurd (fresh b.0 (omega arith)) in
      let w = workload from from 0 old (from + x) (omega arith) inside in
      let e : amount (run_at set i) (gap_at set i) (from + x - from) ≡ amount (run_at set i) (gap_at set i) x = ap (amount (run_at set i) (gap_at set i)) (omega arith) in
      omega arith

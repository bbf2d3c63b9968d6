-- The slots in which a level finds all cores taken. Assumes nothing.
use Rattle.std.proofs.Common.{◌≡◌, ℕ, zero, suc, ◌+◌, ◌-◌, ◌<◌, ◌≤◌, min, Bool, true, false, ◌&&◌, ltb, leb, ◌⊎◌, List, refl, ap, subst, inl, inr, ⊎_elim, arith}
use native.Mathlib.Decide.{le_ind}
use Rattle.std.proofs.lemmas.Bool.{and_parts, and_from, and_left, and_right, cases_Bool, cases_lt, leb-true, leb-false, lt-ltb, le-ltb, ltb-true}
use Rattle.analysis.specs.declared.task.BoundedTask.{BoundedTask}
use Rattle.schedule.specs.Legal.{Legal}
use Rattle.schedule.specs.Levels.{run_at}
use Rattle.schedule.specs.Running.{bit, num, runs}
use Rattle.schedule.specs.Schedules.{Schedule}
use Rattle.schedule.proofs.Counts.{num_all, num_cover, num_none, num_weaker}
use Rattle.schedule.proofs.Jobs.{had, back}

-- at least m levels more urgent than k have a job
abbrev pub blocked : ℕ → Schedule → ℕ → ℕ → Bool
blocked m s k t = leb m (num (s.there t) k)

-- of the levels that have a job the first m run
num_runs : (m : ℕ) (s : Schedule) (t n : ℕ) → num (runs m s t) n ≡ min m (num (s.there t) n)
num_runs m s t zero = omega arith
num_runs m s t (suc n) = split (s.there t n) (num_runs m s t n)
  where
    split : (b : Bool) → num (runs m s t) n ≡ min m (num (s.there t) n) → num (runs m s t) n + bit (b && ltb (num (s.there t) n) m) ≡ min m (num (s.there t) n + bit b)
    split false h = omega arith
    split true h =
        ⊎_elim
        (λ (l : num (s.there t) n < m). let e : bit (ltb (num (s.there t) n) m) ≡ 1 = ap bit (lt-ltb _ _ l) in omega arith)
        (λ (l : m ≤ num (s.there t) n). let e : bit (ltb (num (s.there t) n) m) ≡ 0 = ap bit (le-ltb _ _ l) in omega arith)
        (cases_lt (num (s.there t) n) m)

-- in a blocked slot m of them run
pub filled : (m : ℕ) (s : Schedule) (k t : ℕ) → blocked m s k t ≡ true → num (runs m s t) k ≡ m
filled m s k t e = omega (arith, num_runs m s t k, leb-true m (num (s.there t) k) e)

-- a longest run of blocked slots that ends at tick r
pub record Run (p : ℕ → Bool) (start r : ℕ) : Type 0 where
  pub from : ℕ
  pub low : start ≤ from
  pub high : from ≤ r
  pub all : (u : ℕ) → from ≤ u → u < r → p u ≡ true
  pub edge : (from ≡ start) ⊎ ((u : ℕ) × (from ≡ suc u) × (p u ≡ false))

pub longest_run : (p : ℕ → Bool) (start r : ℕ) → start ≤ r → Run p start r
longest_run p start r l =
    le_ind (λ r. Run p start r)
    (record { from = start; low = omega arith; high = omega arith; all = λ u a b. absurd (omega arith); edge = inl refl })
    (λ r l w.
    ⊎_elim
    (λ (e : p r ≡ true).
    let a = w.high in
    record {
      from = w.from;
      low = w.low;
      high = omega arith;
      all = λ u a b. ⊎_elim (λ (h : u < r). w.all u a h) (λ (h : r ≤ u). let q : r ≡ u = omega arith in subst (λ v. p v ≡ true) q e) (cases_lt u r);
      edge = w.edge;
    })
    (λ (e : p r ≡ false). record { from = suc r; low = omega arith; high = omega arith; all = λ u a b. absurd (omega arith); edge = inr (r, refl, e) })
    (cases_Bool (p r)))
    r l

-- level i has a job that was released before tick `from`
abbrev pub carries : Schedule → ℕ → ℕ → Bool
carries s from i = s.there from i && ltb (s.since from i) from

module _ (m : ℕ) (set : List BoundedTask) (start now : ℕ) (s : Schedule) (legal : Legal m set start now s) (k : ℕ) where
  -- at most m - 1 more urgent levels carry a job into a longest run of blocked slots
  pub few_carry : (r : ℕ) (w : Run (blocked m s k) start r) → 1 ≤ m → w.from ≤ now → num (carries s w.from) k ≤ m - 1
  few_carry r w some inside = ⊎_elim first later w.edge
    where
      first : w.from ≡ start → num (carries s w.from) k ≤ m - 1
      first e =
          omega (
            arith,
            num_none (carries s w.from) k (λ i l.
                ⊎_elim
                (λ (h : s.there w.from i ≡ true). and_right (s.there w.from i) (ltb (s.since w.from i) w.from) (le-ltb _ _ (omega (arith, (legal.released w.from i inside h).0))))
                (λ (h : s.there w.from i ≡ false). and_left (s.there w.from i) _ h)
                (cases_Bool (s.there w.from i))),
          )

      was_there : (u i : ℕ) → suc u ≤ now → carries s (suc u) i ≡ true → s.there u i ≡ true
      was_there u i n e =
          let p = and_parts (s.there (suc u) i) _ e in
          ⊎_elim
          (λ (q : s.since (suc u) i ≡ suc u). absurd (omega (arith, ltb-true _ _ p.1)))
          (λ (q : (s.there u i ≡ true) × (s.since (suc u) i ≡ s.since u i)). q.0)
          (legal.stays u i n p.0)

      later : ((u : ℕ) × (w.from ≡ suc u) × (blocked m s k u ≡ false)) → num (carries s w.from) k ≤ m - 1
      later q =
          let u = q.0 in
          let n = q.1 in
          let c : num (carries s (suc u)) k ≤ num (s.there u) k = num_weaker (carries s (suc u)) (s.there u) k (λ i l e. was_there u i (omega arith) e) in
          let e : num (carries s w.from) k ≡ num (carries s (suc u)) k = ap (λ f. num (carries s f) k) n in
          omega (arith, leb-false m (num (s.there u) k) q.2)

  -- a job that has waited x slots found so many of them blocked that the rest are fewer than its run time
  module _ (t x : ℕ) (inside : t ≤ now) (here : s.there t k ≡ true) (waited : s.since t k + x ≤ t) (some : 1 ≤ run_at set k) (low : run_at set k ≤ x) (w : Run (blocked m s k) start (s.since t k)) where
    free_runs : (u : ℕ) → s.since t k ≤ u → u ≤ t → blocked m s k u ≡ false → runs m s u k ≡ true
    free_runs u a b e =
        let j = back m set start now s legal k u t b inside here a in
        and_from (s.there u k) _ j.0 (lt-ltb _ _ (leb-false m (num (s.there u) k) e))

    pub many_blocked : num (blocked m s k) w.from + (x - run_at set k + 1) ≤ num (blocked m s k) (w.from + x)
    many_blocked =
        let r = s.since t k in
        let y = w.from + x in
        let h = w.high in
        ⊎_elim
        (λ (l : r < y).
        let a = num_all (blocked m s k) w.from r h w.all in
        let b = num_cover (blocked m s k) (λ u. runs m s u k) r y (omega arith) (λ u p q e. free_runs u p (omega arith) e) in
        let j = back m set start now s legal k y t (omega arith) inside here (omega arith) in
        let c = had m set start now s legal y k (omega arith) j.0 in
        let e : num (λ u. runs m s u k) (s.since y k) ≡ num (λ u. runs m s u k) r = ap (num (λ u. runs m s u k)) j.1 in
        omega arith)
        (λ (l : y ≤ r). omega (arith, num_all (blocked m s k) w.from y (omega arith) (λ u a b. w.all u a (omega arith))))
        (cases_lt r y)

-- The jobs of one level in a legal schedule. Assumes nothing.
use Rattle.std.proofs.Common.{◌≡◌, ℕ, suc, ◌+◌, ◌<◌, ◌≤◌, true, List, sym, refl, ◌∙◌, ⊎_elim, arith}
use native.Mathlib.Decide.{le_ind}
use Rattle.std.proofs.lemmas.Bool.{and_parts, cases_lt}
use Rattle.analysis.specs.declared.task.BoundedTask.{BoundedTask}
use Rattle.schedule.specs.Legal.{Legal}
use Rattle.schedule.specs.Levels.{run_at}
use Rattle.schedule.specs.Running.{num, runs}
use Rattle.schedule.specs.Schedules.{Schedule}
use Rattle.schedule.proofs.Counts.{num_from}

-- in how many slots before tick z level i ran
abbrev pub ran : ℕ → Schedule → ℕ → ℕ → ℕ
ran m s i z = num (λ t. runs m s t i) z

-- a level that runs has a job
pub runs_there : (m : ℕ) (s : Schedule) (t i : ℕ) → runs m s t i ≡ true → s.there t i ≡ true
runs_there m s t i e = (and_parts (s.there t i) _ e).0

module _ (m : ℕ) (set : List BoundedTask) (start now : ℕ) (s : Schedule) (legal : Legal m set start now s) where
  -- a job that is there has run less than its run time since its release
  pub had : (t i : ℕ) → t ≤ now → s.there t i ≡ true → ran m s i t < ran m s i (s.since t i) + run_at set i
  had t i l e =
      let r = (legal.released t i l e).1 in
      omega (arith, legal.unfinished t i l e, num_from (λ t. runs m s t i) (s.since t i) t r)

  -- a job was there at every tick from its release on
  pub back : (i u t : ℕ) → u ≤ t → t ≤ now → s.there t i ≡ true → s.since t i ≤ u → (s.there u i ≡ true) × (s.since u i ≡ s.since t i)
  back i u t l =
      le_ind (λ t. t ≤ now → s.there t i ≡ true → s.since t i ≤ u → (s.there u i ≡ true) × (s.since u i ≡ s.since t i))
      (λ n e r. (e, refl))
      (λ t l ih n e r.
      ⊎_elim
      (λ (q : s.since (suc t) i ≡ suc t). absurd (omega arith))
      (λ (q : (s.there t i ≡ true) × (s.since (suc t) i ≡ s.since t i)). let w = q.1 in let h = ih (omega arith) q.0 (omega arith) in (h.0, h.1 ∙ sym w))
      (legal.stays t i n e))
      t l

  -- a later job was not released earlier
  pub in_order : (i u t : ℕ) → u ≤ t → t ≤ now → s.there u i ≡ true → s.there t i ≡ true → s.since u i ≤ s.since t i
  in_order i u t l n e f =
      ⊎_elim
      (λ (h : s.since t i < s.since u i). let r = (legal.released u i (omega arith) e).1 in let b = (back i u t l n f (omega arith)).1 in omega arith)
      (λ (h : s.since u i ≤ s.since t i). h)
      (cases_lt (s.since t i) (s.since u i))

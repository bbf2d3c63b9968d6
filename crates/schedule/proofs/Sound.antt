-- The window test is sound: task by task, most urgent first. Assumes nothing.
use Rattle.std.proofs.Common.{◌≡◌, ℕ, ◌+◌, ◌<◌, ◌≤◌, true, false, List, [], ◌∷◌, ◌++◌, sym, refl, ap, ◌∙◌, arith}
use Rattle.std.proofs.ByRecursion.{All-push, All-weaker}
use Rattle.std.proofs.lemmas.List.{append_assoc}
use Rattle.std.specs.List.{AllByRecursion}
use Rattle.analysis.specs.declared.task.BoundedTask.{BoundedTask}
use Rattle.analysis.specs.Interference.{level_of, taken}
use Rattle.analysis.specs.Kept.{Kept}
use Rattle.analysis.proofs.Facts.{Above, LawfulCase, lawful_case, taken_none}
use Rattle.schedule.specs.Legal.{Legal}
use Rattle.schedule.specs.Levels.{at_level, run_at}
use Rattle.schedule.specs.Running.{slots_between}
use Rattle.schedule.specs.Schedules.{Schedule}
use Rattle.schedule.specs.Soundness.{Soundness, DeadlineSoundness, Punctual}
use Rattle.schedule.proofs.ByLevel.{taken_append, taken_push, taken_last, taken_below, at_level_none, at_level_here, by_level}
use Rattle.schedule.proofs.Interfering.{Known, keeps_bound}

-- a kept task is less urgent than those above it
below : (m : ℕ) (above : List BoundedTask) (i : BoundedTask) → LawfulCase i.task above m i.bound → AllByRecursion (λ j. level_of j < level_of i) above
below m above i case = All-weaker (Above i.task) (λ j. level_of j < level_of i) (λ j a. a.urgent) above case.each

-- the tasks after one are less urgent
later : (m l : ℕ) (above is : List BoundedTask) → taken level_of l above ≡ true → Kept m above is → AllByRecursion (λ j. l < level_of j) is
later m l above [] e k = tt
later m l above (i ∷ is) e k =
    (taken_below l (level_of i) above (below m above i (lawful_case i.task above m i.bound k.0.fits)) e, later m l (above ++ i ∷ []) is (taken_push l above i e) k.1)

-- the bounds are within the deadlines
within : (m : ℕ) (above is : List BoundedTask) → Kept m above is → AllByRecursion (λ i. i.bound ≤ i.task.deadline) is
within m above [] k = tt
within m above (i ∷ is) k = ((lawful_case i.task above m i.bound k.0.fits).high, within m (above ++ i ∷ []) is k.1)

module _ (m : ℕ) (set : List BoundedTask) (start now : ℕ) (s : Schedule) (legal : Legal m set start now s) where
  walk : (above is : List BoundedTask) → above ++ is ≡ set → Kept m above is → AllByRecursion (Known set now s) above → AllByRecursion (Known set now s) is
  walk above [] e k a = tt
  walk above (i ∷ is) e k a =
      let l = level_of i in
      let case = lawful_case i.task above m i.bound k.0.fits in
      let stands : at_level l set ≡ i = ap (at_level l) (sym e) ∙ at_level_here above is i (taken_none l above (All-weaker (λ j. level_of j < l) (λ j. level_of j ≡ l → ⊥) (λ j h f. omega arith) above (below m above i case))) in
      let empty : (u : ℕ) → u < l → taken level_of u above ≡ false → run_at set u ≡ 0 = λ u b t.
      let after = All-weaker (λ j. l < level_of j) (λ j. level_of j ≡ u → ⊥) (λ j h f. omega arith) is (later m l (above ++ i ∷ []) is (taken_last above i) k.1) in
      ap (λ q. run_at q u) (sym e) ∙ ap (λ j. j.task.run) (at_level_none u (above ++ i ∷ is) (taken_append u above (i ∷ is) t ∙ taken_none u (i ∷ is) (λ f. omega arith, after))) in
      let known = keeps_bound m set start now s legal i above case k.0.tested stands a empty in
      (known, walk (above ++ i ∷ []) is (append_assoc above (i ∷ []) is ∙ e) k.1 (All-push (Known set now s) above i a known))

pub window_test_sound : Soundness
window_test_sound m set start now s kept legal t k n here =
    by_level (λ l i. (w : ℕ) → w < i.task.run → s.there t l ≡ true → t < s.since t l + i.bound) set k
    (All-weaker (Known set now s) (λ i. (w : ℕ) → w < i.task.run → s.there t (level_of i) ≡ true → t < s.since t (level_of i) + i.bound) (λ i h w r e. h.meets t n e) set (walk m set start now s legal [] set refl kept tt))
    (λ w r e. absurd (omega arith))
    (slots_between m s k (s.since t k) t) (legal.unfinished t k n here) here

pub meets_deadlines : DeadlineSoundness
meets_deadlines m set start now s kept legal t k n here =
    let b = by_level (λ l i. i.bound ≤ i.task.deadline) set k (within m [] set kept) (omega arith) in
    omega (arith, window_test_sound m set start now s kept legal t k n here)

pub punctual_from : (m : ℕ) (set : List BoundedTask) → Kept m [] set → Punctual m set
punctual_from m set kept =
    record {
      bounds = λ start now s legal. window_test_sound m set start now s kept legal;
      deadlines = λ start now s legal. meets_deadlines m set start now s kept legal;
    }

-- A set is kept exactly where each task holds against those before it. Assumes nothing.
use Rattle.std.proofs.Common.{◌≡◌, ℕ, Bool, true, false, refl, zero, suc, ◌<◌, List, [], ◌∷◌, ◌++◌, length, get_or, take, sym, ap, ◌∙◌, zero-add, subst, arith}
use Rattle.std.proofs.lemmas.Bool.{false≢true}
use Rattle.std.specs.Bool.{MatchBool}
use Rattle.analysis.proofs.Blank.{no_bounded}
use Rattle.std.proofs.lemmas.List.{append_assoc, append-nil}
use Rattle.std.proofs.lemmas.List.FromFn.{length-enumerate_from, get_or-enumerate_from}
use Rattle.std.specs.List.{AllWithin, HoldsAt, enumerate_from}
use Rattle.analysis.specs.declared.task.BoundedTask.{BoundedTask}
use Rattle.analysis.specs.Kept.{Holds, Kept}

placed : (set : List BoundedTask) (i : ℕ) (d : BoundedTask) → i < length set → get_or (enumerate_from 0 set) i (0, d) ≡ (i, get_or set i d)
placed set i d l = get_or-enumerate_from 0 set i (0, d) l ∙ ap (λ n. (n, get_or set i d)) (zero-add i)

module _ (m : ℕ) where
  kept_from : (above set : List BoundedTask) → ((i : ℕ) (d : BoundedTask) → i < length set → Holds m (above ++ take i set) (get_or set i d)) → Kept m above set
  kept_from above [] h = tt
  kept_from above (x ∷ xs) h = (
    subst (λ s. Holds m s x) (append-nil above) (h 0 x (omega arith)),
    kept_from (above ++ x ∷ []) xs (λ i d l. subst (λ s. Holds m s (get_or xs i d)) (sym (append_assoc above (x ∷ []) (take i xs))) (h (suc i) d (omega arith))),
  )

  kept_at : (above set : List BoundedTask) (i : ℕ) (d : BoundedTask) → i < length set → Kept m above set → Holds m (above ++ take i set) (get_or set i d)
  kept_at above [] i d l k = absurd (omega arith)
  kept_at above (x ∷ xs) zero d l k = subst (λ s. Holds m s x) (sym (append-nil above)) k.0
  kept_at above (x ∷ xs) (suc i) d l k = subst (λ s. Holds m s (get_or xs i d)) (append_assoc above (x ∷ []) (take i xs)) (kept_at (above ++ x ∷ []) xs i d (omega arith) k.1)

  -- a task with its place in the set
  abbrev pub HoldsIn : List BoundedTask → ℕ × BoundedTask → Type 0
  HoldsIn set p = Holds m (take p.0 set) p.1

  -- what a test of each task in its place says
  pub kept_judged :
      (set : List BoundedTask) (b : Bool) →
      MatchBool b
      (AllWithin (HoldsIn set) (enumerate_from 0 set) 0 (length (enumerate_from 0 set)))
      ((i : ℕ) × (i < length (enumerate_from 0 set)) × HoldsAt (λ p. HoldsIn set p → ⊥) (enumerate_from 0 set) i) →
      (b ≡ true → Kept m [] set) × (Kept m [] set → b ≡ true)
  kept_judged set true h =
      let n = length-enumerate_from 0 set in
      (λ r. kept_from [] set (λ i d l. subst (HoldsIn set) (placed set i d l) (h i (0, d) (omega arith) (omega arith))), λ k. refl)
  kept_judged set false (i, l, fails) =
      let n = length-enumerate_from 0 set in
      let e = placed set i no_bounded (omega arith) in
      (λ r. absurd (false≢true r), λ k. absurd (fails (0, no_bounded) (subst (HoldsIn set) (sym e) (kept_at [] set i no_bounded (omega arith) k))))

-- The tasks of a set by their levels. Assumes nothing.
use Rattle.std.proofs.Common.{◌≡◌, ℕ, ◌<◌, Bool, true, false, cond, ◌||◌, eqb, List, [], ◌∷◌, ◌++◌, refl, ap, ◌∙◌, subst, ⊎_elim, arith}
use Rattle.std.proofs.lemmas.List.Folds.{list_any-append}
use Rattle.std.proofs.lemmas.Bool.{eq-eqb, eqb-true, or_cases, or_left, or_right, or_parts}
use Rattle.std.specs.List.{AllByRecursion}
use Rattle.analysis.specs.declared.task.BoundedTask.{BoundedTask}
use Rattle.analysis.specs.Interference.{level_of, taken}
use Rattle.schedule.specs.Levels.{no_task, at_level}

pub taken_append : (l : ℕ) (xs ys : List BoundedTask) → taken level_of l xs ≡ false → taken level_of l (xs ++ ys) ≡ taken level_of l ys
taken_append l xs ys e = list_any-append (λ i. eqb (level_of i) l) xs ys ∙ ap (λ t. t || taken level_of l ys) e

pub taken_push : (l : ℕ) (xs : List BoundedTask) (y : BoundedTask) → taken level_of l xs ≡ true → taken level_of l (xs ++ y ∷ []) ≡ true
taken_push l xs y e = list_any-append (λ i. eqb (level_of i) l) xs (y ∷ []) ∙ or_left _ _ e

pub taken_last : (xs : List BoundedTask) (y : BoundedTask) → taken level_of (level_of y) (xs ++ y ∷ []) ≡ true
taken_last xs y = list_any-append (λ i. eqb (level_of i) (level_of y)) xs (y ∷ []) ∙ or_right _ _ (or_left _ _ (eq-eqb (level_of y) (level_of y) refl))

pub taken_below : (l n : ℕ) (xs : List BoundedTask) → AllByRecursion (λ i. level_of i < n) xs → taken level_of l xs ≡ true → l < n
taken_below l n [] a e = let z : ◌≡◌ {A = ℕ} 0 1 = cc in absurd (omega arith)
taken_below l n (x ∷ xs) a e =
    ⊎_elim
    (λ (h : eqb (level_of x) l ≡ true). omega (arith, eqb-true _ _ h, a.0))
    (λ (h : taken level_of l xs ≡ true). taken_below l n xs a.1 h)
    (or_cases (eqb (level_of x) l) (taken level_of l xs) e)

pub at_level_none : (l : ℕ) (xs : List BoundedTask) → taken level_of l xs ≡ false → at_level l xs ≡ no_task
at_level_none l [] e = refl
at_level_none l (x ∷ xs) e =
    let p = or_parts (eqb (level_of x) l) (taken level_of l xs) e in
    ap (λ t. cond t x (at_level l xs)) p.0 ∙ at_level_none l xs p.1

pub at_level_here : (xs ys : List BoundedTask) (i : BoundedTask) → taken level_of (level_of i) xs ≡ false → at_level (level_of i) (xs ++ i ∷ ys) ≡ i
at_level_here [] ys i e = ap (λ t. cond t i (at_level (level_of i) ys)) (eq-eqb (level_of i) (level_of i) refl)
at_level_here (x ∷ xs) ys i e =
    let p = or_parts (eqb (level_of x) (level_of i)) (taken level_of (level_of i) xs) e in
    ap (λ t. cond t x (at_level (level_of i) (xs ++ i ∷ ys))) p.0 ∙ at_level_here xs ys i p.1

-- what holds of each task of a set holds of each level, if it holds where no task stands
pub by_level : (P : ℕ → BoundedTask → Type 0) (set : List BoundedTask) (l : ℕ) → AllByRecursion (λ i. P (level_of i) i) set → P l no_task → P l (at_level l set)
by_level P [] l a n = n
by_level P (i ∷ is) l a n = split (eqb (level_of i) l) refl (by_level P is l a.1 n)
  where
    split : (t : Bool) → eqb (level_of i) l ≡ t → P l (at_level l is) → P l (cond t i (at_level l is))
    split true e h = subst (λ n. P n i) (eqb-true _ _ e) a.0
    split false e h = h

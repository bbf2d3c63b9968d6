-- A set of which some tasks are judged. Assumes nothing.
use Rattle.std.proofs.Common.{◌≡◌, ℕ, ◌+◌, ◌<◌, Bool, true, false, cond, List, [], ◌∷◌, ◌++◌, get_or, length, take, drop, Some, None, sym, refl, ap, ◌∙◌, arith}
use Rattle.std.proofs.lemmas.List.{append_assoc, take_more, at_drop_more}
use Rattle.analysis.specs.declared.task.BoundedTask.{BoundedTask}
use Rattle.planning.specs.declared.verdict.Row.{Row}
use Rattle.planning.specs.Plans.{row_of, row_passes, row_verdict, rows_from, verdict_from}

-- the rows so far and what is left to judge
pub record Sofar (m : ℕ) (set : List BoundedTask) (i : ℕ) (rows : List Row) : Type 0 where
  pub rows_are : rows ++ rows_from m (take i set) (drop i set) ≡ rows_from m [] set
  pub verdict_is : verdict_from m (take i set) (drop i set) ≡ verdict_from m [] set

cond_some : {A : Type 0} (t : Bool) (x y : A) → Some x ≡ cond t (Some y) None → (t ≡ true) × (x ≡ y)
cond_some true x y e = (refl, cc)
cond_some false x y e = let z : ◌≡◌ {A = ℕ} 0 1 = cc in absurd (omega arith)

-- one task more that passes; the check finds this step of the loop alone, and the lemma says what it finds
pub judged_more :
    (m : ℕ) (set : List BoundedTask) (i : ℕ) (d : BoundedTask) (rows : List Row) →
    i < length set →
    Sofar m set i rows →
    (row : Row) →
    Some row ≡ row_verdict m (take i set) (get_or set i d) →
    Sofar m set (i + 1) (rows ++ row ∷ [])
judged_more m set i d rows inside s row e =
    let here : BoundedTask = get_or set i d in
    let q = cond_some (row_passes m (take i set) here) row (row_of m (take i set) here) e in
    let p = q.0 in
    let front = take_more set i d inside in
    let a : rows_from m (take i set) (drop i set) ≡ row_of m (take i set) here ∷ rows_from m (take i set ++ here ∷ []) (drop (i + 1) set) = at_drop_more (rows_from m (take i set)) set i d inside ∙ (rw p refl) in
    let b : verdict_from m (take i set) (drop i set) ≡ verdict_from m (take i set ++ here ∷ []) (drop (i + 1) set) = at_drop_more (verdict_from m (take i set)) set i d inside ∙ (rw p refl) in
    record {
      rows_are =
          append_assoc rows (row ∷ []) (rows_from m (take (i + 1) set) (drop (i + 1) set))
          ∙ (λ j. rows ++ q.1 j ∷ rows_from m (front j) (drop (i + 1) set))
          ∙ ap (λ rs. rows ++ rs) (sym a)
          ∙ s.rows_are;
      verdict_is = ap (λ f. verdict_from m f (drop (i + 1) set)) front ∙ sym b ∙ s.verdict_is;
    }

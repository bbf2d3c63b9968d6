-- Levels that are marked as seen. Assumes nothing.
use Rattle.std.proofs.Common.{◌≡◌, ℕ, ◌+◌, ◌<◌, ◌≤◌, Bool, true, false, not, ◌&&◌, eqb, List, [], ◌∷◌, length, get_or, drop, set, replicate, refl, ap, ◌∙◌, ⊎_elim, arith}
use Rattle.std.proofs.lemmas.List.{get_or-set_same, get_or-set_other, get_or-replicate, get_or_past, length-replicate, drop_more}
use Rattle.std.proofs.lemmas.Bool.{cases_eq, cases_lt, eq-eqb, ne_eqb}
use Rattle.analysis.specs.Interference.{taken, distinct}

unmarked : (n k : ℕ) → get_or (replicate n false) k false ≡ false
unmarked n k =
    ⊎_elim
    (λ (h : k < n). get_or-replicate n k false false h)
    (λ (h : n ≤ k). get_or_past (replicate n false) k false (simp length-replicate h))
    (cases_lt k n)

module _ {X : Type 0} (level : X → ℕ) where
  -- no level of the list is marked
  abbrev pub fresh : List Bool → List X → Bool
  fresh seen [] = true
  fresh seen (i ∷ is) = not (get_or seen (level i) false) && fresh seen is

  mark_one : (seen : List Bool) (l n : ℕ) → l < length seen → not (get_or (set seen l true) n false) ≡ (not (get_or seen n false) && not (eqb n l))
  mark_one seen l n h =
      ⊎_elim
      (λ (e : n ≡ l). let p : get_or (set seen l true) n false ≡ true = ap (λ m. get_or (set seen l true) m false) e ∙ get_or-set_same seen l true false h in let q = eq-eqb n l e in grind arith)
      (λ (d : n ≡ l → ⊥). let p = get_or-set_other seen l n true false d in let q = ne_eqb n l d in grind arith)
      (cases_eq n l)

  -- one mark more
  pub fresh_mark : (seen : List Bool) (l : ℕ) (is : List X) → l < length seen → fresh (set seen l true) is ≡ (fresh seen is && not (taken level l is))
  fresh_mark seen l [] h = refl
  fresh_mark seen l (i ∷ is) h = let p = mark_one seen l (level i) h in let q = fresh_mark seen l is h in grind arith

  pub fresh_none : (n : ℕ) (is : List X) → fresh (replicate n false) is ≡ true
  fresh_none n [] = refl
  fresh_none n (i ∷ is) = let p = unmarked n (level i) in let q = fresh_none n is in grind arith

  module _ (whole : Bool) (seen : List Bool) (is : List X) (i : ℕ) (d : X) (inside : i < length is) (before : whole ≡ (fresh seen (drop i is) && distinct level (drop i is))) where
    -- a task whose level is not marked, and is marked then
    pub marked_more : level (get_or is i d) < length seen → get_or seen (level (get_or is i d)) false ≡ false → whole ≡ (fresh (set seen (level (get_or is i d)) true) (drop (i + 1) is) && distinct level (drop (i + 1) is))
    marked_more h m =
        let e = rw (drop_more is i d inside) at before in
        let f = fresh_mark seen (level (get_or is i d)) (drop (i + 1) is) h in
        grind arith

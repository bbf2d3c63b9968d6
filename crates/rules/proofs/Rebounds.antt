-- The bounds of a set are what they should be, and the set keeps them. Assumes nothing.
use Rattle.std.proofs.Common.{◌≡◌, ℕ, ◌+◌, ◌*◌, ◌/◌, ◌<◌, ◌≤◌, true, false, List, [], ◌∷◌, ◌++◌, length, get_or, take, drop, set, is_ok, Some, None, Ok, Err, Option, sym, refl, ap, ◌∙◌, subst, div-lt_iff_lt-mul, arith}
use Rattle.std.proofs.lemmas.List.{append_assoc, append-nil, length-take-le, take-append-drop, take_all, drop_all, drop_more, take_more_set, drop-set-lt}
use Rattle.std.proofs.lemmas.Bool.{leb-true, le-leb}
use Rattle.analysis.specs.declared.task.BoundedTask.{BoundedTask}
use Rattle.analysis.specs.Interference.{interference, level_of}
use Rattle.analysis.specs.Kept.{Holds, Kept}
use Rattle.analysis.proofs.Facts.{limits_from}
use Rattle.rules.specs.Bounds.{Rebound, Rebounded, rebound, rebound_set, rebound_answer, with_bound, set_fits}
use Rattle.rules.specs.Rules.{Rule, LawfulRule}
use Rattle.rules.specs.Search.{IsBound, bound_of}
use Rattle.rules.proofs.Least.{bound_found}
use Rattle.rules.proofs.Walks.{Walk, walk_from, walk_on, walk_more, walk_lawful, holds_fits, kept_push}

-- a smaller total has no larger quotient
quotient_le : (a b m : ℕ) → 1 ≤ m → a ≤ b → a / m ≤ b / m
quotient_le a b m some l =
    let u : b < (b / m + 1) * m = (div-lt_iff_lt-mul {x = b} {y = b / m + 1} some).0 (omega arith) in
    let v : a / m < b / m + 1 = (div-lt_iff_lt-mul {x = a} {y = b / m + 1} some).1 (omega arith) in
    omega arith

module _ (r : Rule) (m : ℕ) where
  -- the first task has the bound x
  pub rebound_some : (done : List BoundedTask) (i : BoundedTask) (is : List BoundedTask) (x : ℕ) → bound_of r i.task done m ≡ Some x → rebound r m done (i ∷ is) ≡ rebound r m (done ++ with_bound i x ∷ []) is
  unfolding rebound
  rebound_some done i is x e = rw (e, rebound) refl

  -- or none
  pub rebound_none : (done : List BoundedTask) (i : BoundedTask) (is : List BoundedTask) → bound_of r i.task done m ≡ None → rebound r m done (i ∷ is) ≡ record { done = done; left = i ∷ is }
  unfolding rebound
  rebound_none done i is e = rw (e, rebound) refl

  pub rebounded : (above is : List BoundedTask) → Rebounded r m above is (rebound r m above is)
  unfolding rebound
  rebounded above [] = record { fresh = []; done_is = sym (append-nil above); same_tasks = refl; bounded = tt; lacking = tt }
  rebounded above (i ∷ is) = split (bound_of r i.task above m) refl (λ x. rebounded (above ++ with_bound i x ∷ []) is)
    where
      split : (o : Option ℕ) → bound_of r i.task above m ≡ o → ((x : ℕ) → Rebounded r m (above ++ with_bound i x ∷ []) is (rebound r m (above ++ with_bound i x ∷ []) is)) → Rebounded r m above (i ∷ is) (rebound r m above (i ∷ is))
      split (Some x) e h =
          let g = h x in
          subst (Rebounded r m above (i ∷ is)) (sym (rebound_some above i is x e))
          (record {
            fresh = with_bound i x ∷ g.fresh;
            done_is = g.done_is ∙ append_assoc above (with_bound i x ∷ []) g.fresh;
            same_tasks = ap (λ ts. i.task ∷ ts) g.same_tasks;
            bounded = (bound_found r i.task above m (Some x) e, g.bounded);
            lacking = g.lacking;
          })
      split None e h =
          subst (Rebounded r m above (i ∷ is)) (sym (rebound_none above i is e))
          (record { fresh = []; done_is = sym (append-nil above); same_tasks = refl; bounded = tt; lacking = bound_found r i.task above m None e })

  module _ (law : LawfulRule r) where
    -- a bound that a lawful rule finds holds: it passes with the interference too
    pub bound_holds : (seen : List BoundedTask) (i : BoundedTask) (is : List BoundedTask) (x : ℕ) → Walk m seen (i ∷ is) → IsBound r i.task seen m (Some x) → Holds m seen (with_bound i x)
    bound_holds seen i is x w b =
        let k = i.task in
        let l = limits_from k w.fit.0 in
        let start = law.starts k seen m (walk_lawful m seen i is k.deadline w l.run (omega arith)) in
        let from = b.from in
        let fit = walk_lawful m seen i is x w (omega arith) b.to in
        let covered = law.covers k seen m x fit in
        let q = quotient_le (interference k seen m x) (r.total k seen m x) m w.some_core covered in
        let t = leb-true _ _ b.holds in
        record { fits = fit; tested = le-leb _ _ (omega arith) }

    -- so the set keeps its bounds
    pub rebound_keeps : (done is : List BoundedTask) → Walk m done is → Kept m [] done → (rebound r m done is).left ≡ [] → Kept m [] (rebound r m done is).done
    unfolding rebound
    rebound_keeps done [] w k e = k
    rebound_keeps done (i ∷ is) w k e = split (bound_of r i.task done m) refl (λ x. rebound_keeps (done ++ with_bound i x ∷ []) is)
      where
        split : (o : Option ℕ) → bound_of r i.task done m ≡ o → ((x : ℕ) → Walk m (done ++ with_bound i x ∷ []) is → Kept m [] (done ++ with_bound i x ∷ []) → (rebound r m (done ++ with_bound i x ∷ []) is).left ≡ [] → Kept m [] (rebound r m (done ++ with_bound i x ∷ []) is).done) → Kept m [] (rebound r m done (i ∷ is)).done
        split (Some x) f h =
            let same = rebound_some done i is x f in
            let holds = bound_holds done i is x w (bound_found r i.task done m (Some x) f) in
            subst (λ o. Kept m [] o.done) (sym same)
            (h x (walk_more m done i (with_bound i x) is refl (holds_fits m done (with_bound i x) w.fit.0 holds) w) (kept_push m [] done (with_bound i x) k holds) (ap (λ o. o.left) (sym same) ∙ e))
        split None f h =
            let z : i ∷ is ≡ [] = ap (λ o. o.left) (sym (rebound_none done i is f)) ∙ e in
            let y : ◌≡◌ {A = ℕ} 0 1 = cc in
            absurd (omega arith)

    -- the bounds of a set that fits, from a place on
    pub set_kept : (set : List BoundedTask) (from : ℕ) → set_fits m set ≡ true → Kept m [] (take from set) → is_ok (rebound_answer (rebound r m (take from set) (drop from set))) ≡ true → Kept m [] (rebound_set (rebound r m (take from set) (drop from set)))
    set_kept set from f k e =
        let o = rebound r m (take from set) (drop from set) in
        let w = walk_on m [] (take from set) (drop from set) k (subst (Walk m []) (sym (take-append-drop from set)) (walk_from m set f)) in
        let empty : o.left ≡ [] = all_done o e in
        let done = rebound_keeps (take from set) (drop from set) w k empty in
        subst (Kept m []) (sym (append-nil o.done) ∙ ap (λ is. o.done ++ is) (sym empty)) done
      where
        all_done : (o : Rebound) → is_ok (rebound_answer o) ≡ true → o.left ≡ []
        all_done o h = split o.left refl
          where
            split : (left : List BoundedTask) → o.left ≡ left → o.left ≡ []
            split [] q = q
            split (i ∷ is) q = let z : false ≡ true = sym (ap (λ l. is_ok (rebound_answer (record { done = o.done; left = l }))) q) ∙ h in let y : ◌≡◌ {A = ℕ} 0 1 = cc in absurd (omega arith)

  -- one turn of the loop over the set
  module _ (set₀ : List BoundedTask) (place : ℕ) (d : BoundedTask) (inside : place < length set₀) where
    abbrev here : BoundedTask
    here = get_or set₀ place d

    pub rebound_turn : (x : ℕ) → bound_of r here.task (take place set₀) m ≡ Some x → rebound r m (take place set₀) (drop place set₀) ≡ rebound r m (take (place + 1) (set set₀ place (with_bound here x))) (drop (place + 1) (set set₀ place (with_bound here x)))
    rebound_turn x e =
        ap (rebound r m (take place set₀)) (drop_more set₀ place d inside)
        ∙ rebound_some (take place set₀) here (drop (place + 1) set₀) x e
        ∙ (λ j. rebound r m (sym (take_more_set set₀ place (with_bound here x) inside) j) (sym (drop-set-lt (place + 1) set₀ place (with_bound here x) (omega arith)) j))

    -- from a task without a bound on, all are left as they were
    pub rebound_stopped : (o : Rebound) → o ≡ rebound r m (take place set₀) (drop place set₀) → bound_of r here.task (take place set₀) m ≡ None → o ≡ record { done = take place set₀; left = here ∷ drop (place + 1) set₀ }
    rebound_stopped o e none =
        e
        ∙ ap (rebound r m (take place set₀)) (drop_more set₀ place d inside)
        ∙ rebound_none (take place set₀) here (drop (place + 1) set₀) none

    -- so it ends the loop
    pub rebound_stop :
        (o : Rebound) →
        o ≡ rebound r m (take place set₀) (drop place set₀) →
        bound_of r here.task (take place set₀) m ≡ None →
        (Err (record { place = place; level = level_of here }) ≡ rebound_answer o) × (set₀ ≡ rebound_set o)
    rebound_stop o e none =
        let front = take place set₀ in
        let rest = drop_more set₀ place d inside in
        let f = rebound_stopped o e none in (
          sym (ap rebound_answer f ∙ ap (λ n. Err (record { place = n; level = level_of here })) (length-take-le place set₀ (omega arith))),
          sym (ap rebound_set f ∙ ap (λ is. front ++ is) (sym rest) ∙ take-append-drop place set₀),
        )

  -- every task has a bound: none is left
  pub rebound_ended : (o : Rebound) (set₀ : List BoundedTask) (place : ℕ) → length set₀ ≤ place → o ≡ rebound r m (take place set₀) (drop place set₀) → o ≡ record { done = set₀; left = [] }
  unfolding rebound
  rebound_ended o set₀ place l e = e ∙ (λ j. rebound r m (take_all place set₀ l j) (drop_all place set₀ l j))

  pub rebound_end :
      (o : Rebound) (set₀ : List BoundedTask) (place : ℕ) →
      length set₀ ≤ place →
      o ≡ rebound r m (take place set₀) (drop place set₀) →
      (Ok tt ≡ rebound_answer o) × (set₀ ≡ rebound_set o)
  rebound_end o set₀ place l e =
      let f = rebound_ended o set₀ place l e in
      (sym (ap rebound_answer f), sym (ap rebound_set f ∙ append-nil set₀))

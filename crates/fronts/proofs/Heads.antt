-- Putting an item into a set whose first item is held in front. Assumes nothing.
use Rattle.std.proofs.Common.{◌≡◌, ℕ, suc, Bool, true, false, cond, eqb, List, ◌∷◌, length, Some, Option, sym, refl, ap, ◌∙◌, subst, arith}
use Rattle.queues.proofs.Laws.{asym, insert_ahead, ahead_insert, ahead_remove, ahead_trans, ahead_lacks, remove_none, sorted_insert, sorted_remove}
use Rattle.queues.specs.Sets.{Lawful, has, insert, remove, Ahead, Sorted, put_answer, put_set}
use Rattle.queues.specs.declared.put_error.PutError.{PutError}
use Rattle.std.specs.Prelude.{Ok, Result}
use Rattle.std.proofs.lemmas.Bool.Decides.{nat_tests}
use Rattle.fronts.specs.Fronts.{FrontGood, front_items}

eqb_suc : (m n : ℕ) → eqb (suc m) (suc n) ≡ eqb m n
eqb_suc m n = grind (arith, nat_tests)

module _ {X : Type 0} (b : X → X → Bool) (o : Lawful b) where
  put_keeps : (P : List X → Type 0) (room : ℕ) (x : X) (s : List X) → P s → (has b x s ≡ false → P (insert b x s)) → P (put_set b room x s)
  put_keeps P room x s p q = split (has b x s) refl (eqb (length s) room)
    where
      split : (t : Bool) → has b x s ≡ t → (u : Bool) → P (cond t s (cond u s (insert b x s)))
      split true e u = p
      split false e true = p
      split false e false = q e

  module _ (room : ℕ) (head x : X) (s : List X) (a : Ahead b head s) (r : Sorted b s) where
    -- behind the head: the queue below decides
    module _ (after : b head x ≡ true) where
      pub behind_answer : put_answer b room x s ≡ put_answer b (suc room) x (head ∷ s)
      behind_answer = let p = asym b o head x after in let e = eqb_suc (length s) room in grind arith

      pub behind_set : head ∷ put_set b room x s ≡ put_set b (suc room) x (head ∷ s)
      behind_set = let p = asym b o head x after in let e = eqb_suc (length s) room in grind arith

      pub behind_good : Ahead b head (put_set b room x s) × Sorted b (put_set b room x s)
      behind_good = (
        put_keeps (Ahead b head) room x s a (λ h. ahead_insert b o head x s after a),
        put_keeps (Sorted b) room x s r (λ h. sorted_insert b o x s r h),
      )

    -- before the head: the head goes below
    module _ (before : b x head ≡ true) where
      head_lacked : has b head s ≡ false
      head_lacked = ahead_lacks b o head s a

      pub before_answer : put_answer b room head s ≡ put_answer b (suc room) x (head ∷ s)
      before_answer =
          let l = head_lacked in
          let p = asym b o x head before in
          let m = ahead_lacks b o x s (ahead_trans b o x head s before a) in
          let e = eqb_suc (length s) room in
          grind arith

      -- the head found a place
      pub before_added : Ok tt ≡ put_answer b room head s → (x ∷ put_set b room head s ≡ put_set b (suc room) x (head ∷ s)) × (put_set b room head s ≡ head ∷ s)
      before_added q =
          let l = head_lacked in
          let p = asym b o x head before in
          let m = ahead_lacks b o x s (ahead_trans b o x head s before a) in
          let e = eqb_suc (length s) room in
          let i = insert_ahead b o head s a in
          (grind arith, grind arith)

      -- it found none
      pub before_full : (Ok tt ≡ put_answer b room head s → ⊥) → (head ∷ put_set b room head s ≡ put_set b (suc room) x (head ∷ s)) × (put_set b room head s ≡ s)
      before_full q =
          let l = head_lacked in
          let p = asym b o x head before in
          let m = ahead_lacks b o x s (ahead_trans b o x head s before a) in
          let e = eqb_suc (length s) room in
          (grind arith, grind arith)

  -- what a put owes: good order, the answer and the set of the front, from those of the queue below
  abbrev pub Owed : ℕ → X → Option X → Option X → List X → List X → Result (Unit {0}) PutError → Type 0
  Owed room x old new s t answer =
      FrontGood b old s → FrontGood b new t × (answer ≡ put_answer b (suc room) x (front_items old s)) × (front_items new t ≡ put_set b (suc room) x (front_items old s))

  module _ (room : ℕ) (head x : X) (s t : List X) (answer : Result (Unit {0}) PutError) where
    pub put_behind : (old : Option X) → old ≡ Some head → true ≡ b head x → t ≡ put_set b room x s → answer ≡ put_answer b room x s → Owed room x old old s t answer
    put_behind old is after set told =
        subst (λ h. Owed room x h h s t answer) (sym is)
        (λ good.
        let a = good.0 in
        let r = good.1 in
        let y = behind_good room head x s a r (sym after) in
        (subst (λ u. Ahead b head u × Sorted b u) (sym set) y, told ∙ behind_answer room head x s a r (sym after), ap (λ u. head ∷ u) set ∙ behind_set room head x s a r (sym after)))

    pub put_before : (old : Option X) → old ≡ Some head → true ≡ b x head → answer ≡ Ok tt → t ≡ put_set b room head s → answer ≡ put_answer b room head s → Owed room x old (Some x) s t answer
    put_before old is before added set told =
        subst (λ h. Owed room x h (Some x) s t answer) (sym is)
        (λ good.
        let a = good.0 in
        let r = good.1 in
        let p = sym before in
        let y = before_added room head x s a r p (sym added ∙ told) in
        let u = set ∙ y.1 in
        (subst (λ v. Ahead b x v × Sorted b v) (sym u) ((p, ahead_trans b o x head s p a), (a, r)), told ∙ before_answer room head x s a r p, ap (λ v. x ∷ v) set ∙ y.0))

    pub put_refused : (old : Option X) → old ≡ Some head → true ≡ b x head → (answer ≡ Ok tt → ⊥) → t ≡ put_set b room head s → answer ≡ put_answer b room head s → Owed room x old old s t answer
    put_refused old is before not-added set told =
        subst (λ h. Owed room x h h s t answer) (sym is)
        (λ good.
        let a = good.0 in
        let r = good.1 in
        let p = sym before in
        let y = before_full room head x s a r p (λ q. not-added (told ∙ sym q)) in
        (subst (λ v. Ahead b head v × Sorted b v) (sym (set ∙ y.1)) (a, r), told ∙ before_answer room head x s a r p, ap (λ v. head ∷ v) set ∙ y.0))

  -- what a withdraw owes
  abbrev pub Withdrawn : X → Option X → List X → List X → Bool → Type 0
  Withdrawn x old s t answer =
      FrontGood b old s → FrontGood b old t × (answer ≡ has b x (front_items old s)) × (front_items old t ≡ remove b x (front_items old s))

  module _ (head x : X) (s t : List X) (answer : Bool) where
    -- behind the head: the queue below decides
    pub withdraw_behind : (old : Option X) → old ≡ Some head → true ≡ b head x → t ≡ remove b x s → answer ≡ has b x s → Withdrawn x old s t answer
    withdraw_behind old is after set told =
        subst (λ h. Withdrawn x h s t answer) (sym is)
        (λ good.
        let p = asym b o head x (sym after) in (
          subst (λ u. Ahead b head u × Sorted b u) (sym set) (ahead_remove b o head x s good.0, sorted_remove b o x s good.1),
          grind arith,
          grind arith,
        ))

  -- before the head: it is not held
  pub withdraw_none : (head x : X) (s : List X) (old : Option X) → old ≡ Some head → true ≡ b x head → Withdrawn x old s s false
  withdraw_none head x s old is before =
      subst (λ h. Withdrawn x h s s false) (sym is)
      (λ good.
      let a : Ahead b x (head ∷ s) = (sym before, ahead_trans b o x head s (sym before) good.0) in
      let l = ahead_lacks b o x (head ∷ s) a in
      (good, sym l, sym (remove_none b o x (head ∷ s) l)))

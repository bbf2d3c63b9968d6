-- What the set is when an item left the cells.
use Rattle.std.proofs.Common.{◌≡◌, ℕ, Bool, true, false, List, [], ◌∷◌, Some, None, sym, ap, ◌∙◌}
use Rattle.std.specs.Prelude.{slice_index_or}
use Rattle.std.proofs.lemmas.Bool.{cond-true}
use Rattle.queues.proofs.Laws.{first_some, remove_none, same_refl}
use Rattle.queues.specs.Sets.{Lawful, has, remove, first_of, rest_of}
use Rattle.stores.specs.Layouts.{LayoutLaws}

module _ {X : Type 0} (b : X → X → Bool) (o : Lawful b) (Good : List X → Type 0) (set : List X → List X) (laws : LayoutLaws b Good set) where
  -- the item in the first cell left
  pub first_left :
      (xs s : List X) (x : X) →
      Good xs →
      Some x ≡ first_of (set xs) →
      ((d : X) → s ≡ remove b (slice_index_or xs 0 d) (set xs)) →
      s ≡ rest_of (set xs)
  first_left [] s x good e left = let z : Some x ≡ None = e ∙ ap first_of laws.empty.1 in cc
  first_left (y ∷ ys) s x good e left =
      left y
      ∙ ap (remove b y) (first_some y (set (y ∷ ys)) (sym (laws.first y ys good)))
      ∙ cond-true _ (rest_of (set (y ∷ ys))) _ (same_refl b o y)

  -- an item that was found left
  pub found_left :
      (cells xs s : List X) (x : X) (at : ℕ) →
      cells ≡ xs →
      Good xs →
      (Good cells → (has b x (set cells) ≡ true) × ((d : X) → x ≡ slice_index_or cells at d)) →
      ((d : X) → s ≡ remove b (slice_index_or xs at d) (set xs)) →
      s ≡ remove b x (set xs)
  found_left cells xs s x at e good found left =
      let is : x ≡ slice_index_or xs at x = ((rw e at found) good).1 x in
      left x ∙ ap (λ y. remove b y (set xs)) (sym is)

  -- an item that was not found left, so none did
  pub none_left :
      (cells xs : List X) (x : X) (at : ℕ) (Place : X → List X → ℕ → Type 0) →
      cells ≡ xs →
      Good xs →
      (Good cells → (has b x (set cells) ≡ false) × Place x cells at) →
      set xs ≡ remove b x (set xs)
  none_left cells xs x at Place e good found = sym (remove_none b o x (set xs) ((rw e at found) good).0)

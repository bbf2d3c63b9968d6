-- How the items of a set stand in cells. b says which of two items comes before the other; Good says which cells hold a
-- set as the layout wants it, set which set they hold, and Place x xs at that x may enter the cells xs at place at.
use Rattle.std.specs.Prelude.{◌≡◌, ℕ, Bool, true, false, List, [], ◌∷◌, ◌++◌, length, Some, Result, MatchResult, slice_index_or}
use Rattle.queues.specs.Sets.{has, insert, remove, Sorted, first_of}

module _ {X : Type 0} (b : X → X → Bool) where
  -- what looking for x in xs tells: a place of x, or else a place where it may enter
  abbrev pub Found : (List X → List X) → (X → List X → ℕ → Type 0) → X → List X → Result ℕ ℕ → Type 0
  Found set Place x xs r =
      MatchResult r (λ at. (has b x (set xs) ≡ true) × ((d : X) → x ≡ slice_index_or xs at d)) (λ at. (has b x (set xs) ≡ false) × Place x xs at)

  -- an item that stands behind good cells, which lack it and which it may enter at place at, is in the set afterwards
  abbrev pub Entered : (List X → Type 0) → (List X → List X) → (X → List X → ℕ → Type 0) → ℕ → List X → List X → Type 0
  Entered Good set Place at before after =
      (xs : List X) (x : X) →
      before ≡ xs ++ x ∷ [] →
      Good xs →
      has b x (set xs) ≡ false →
      Place x xs at →
      Good after × (set after ≡ insert b x (set xs))

  -- the item at place at of good cells is not in the set afterwards
  abbrev pub Left : (List X → Type 0) → (List X → List X) → ℕ → List X → List X → Type 0
  Left Good set at before after =
      Good before → Good after × ((d : X) → set after ≡ remove b (slice_index_or before at d) (set before))

  -- the laws of a layout
  pub record LayoutLaws (Good : List X → Type 0) (set : List X → List X) : Type 0 where
    -- no cells hold the empty set
    pub empty : Good [] × (set [] ≡ [])
    -- the set is written as it ascends
    pub rises : (xs : List X) → Good xs → Sorted b (set xs)
    -- each cell holds one item of the set
    pub size : (xs : List X) → length (set xs) ≡ length xs
    -- the first cell holds the item that comes first
    pub first : (x : X) (xs : List X) → Good (x ∷ xs) → first_of (set (x ∷ xs)) ≡ Some x

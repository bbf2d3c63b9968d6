-- A first item held in front of a queue.
-- b says which of two items comes before the other; s is the set of the queue below.
use Rattle.std.specs.Prelude.{◌≡◌, Bool, List, [], ◌∷◌, Some, None, Option}
use Rattle.queues.specs.Sets.{Ahead, Sorted}

-- the set: the item in front, if there is one, with those below
abbrev pub front_items : {X : Type 0} → Option X → List X → List X
front_items None s = s
front_items (Some x) s = x ∷ s

-- nothing stands below an empty front, and the item in front comes before all below
abbrev pub FrontGood : {X : Type 0} → (X → X → Bool) → Option X → List X → Type 0
FrontGood b None s = s ≡ []
FrontGood b (Some x) s = Ahead b x s × Sorted b s

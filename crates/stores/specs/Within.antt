-- A set is no larger than the memory that holds it. Assumes nothing.
use Rattle.std.proofs.Common.{ℕ, ◌≤◌, Bool, List, length, take, arith}
use Rattle.std.proofs.lemmas.List.{length-take-le}
use Rattle.stores.specs.Layouts.{LayoutLaws}

pub set_within :
    {X : Type 0} (b : X → X → Bool) (Good : List X → Type 0) (set : List X → List X) (laws : LayoutLaws b Good set) (cells : List X) (len : ℕ) →
    len ≤ length cells →
    length (set (take len cells)) ≤ length cells
set_within b Good set laws cells len l = omega (arith, laws.size (take len cells), length-take-le len cells l)

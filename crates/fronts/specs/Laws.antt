-- The set of a front ascends, and is no larger than its room. Assumes nothing.
use Rattle.std.proofs.Common.{ℕ, suc, ◌≤◌, Bool, List, length, Some, None, sym, subst, arith}
use Rattle.std.specs.Prelude.{Option}
use Rattle.queues.specs.Sets.{Sorted}
use Rattle.fronts.specs.Fronts.{FrontGood, front_items}

module _ {X : Type 0} (b : X → X → Bool) where
  pub front_rises : (head : Option X) (s : List X) → FrontGood b head s → Sorted b (front_items head s)
  front_rises None s good = subst (Sorted b) (sym good) tt
  front_rises (Some x) s good = good

  pub front_within : (head : Option X) (s : List X) (room : ℕ) → FrontGood b head s → length s ≤ room → length (front_items head s) ≤ suc room
  front_within None s room good l = omega arith
  front_within (Some x) s room good l = omega arith

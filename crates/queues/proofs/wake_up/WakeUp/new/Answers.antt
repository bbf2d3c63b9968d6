use Rattle.std.proofs.Common.{◌≡◌, ℕ, Bool, true, false, Some, None, sym, refl, ap, ◌∙◌, arith}
use Rattle.std.specs.Prelude.{nat_lt}
use Rattle.std.proofs.lemmas.Bool.{cond-false, cond-true, le-ltb, or_from}
use Rattle.queues.specs.declared.wake_up.WakeUp.{WakeUp}
use Rattle.queues.specs.Items.{level_at, new_level, wake_up_at, new_wake_up}
use Rattle.queues.specs.Orders.{same_wake_up}
use Rattle.queues.proofs.wake_up.WakeUp.new.Goals as goal

-- a wake-up of a level that there is
made : (tick n : ℕ) (w : WakeUp) → w.tick ≡ tick → Some w.level ≡ new_level n → Some w ≡ new_wake_up tick n
made tick n w t l = split (nat_lt 63 n) refl
  where
    split : (over : Bool) → nat_lt 63 n ≡ over → Some w ≡ new_wake_up tick n
    split true e = let z = l ∙ cond-true (nat_lt 63 n) None (Some (level_at n)) e in cc
    split false e =
        let f = w.early in
        let k : Some w.level ≡ Some (level_at n) = l ∙ cond-false (nat_lt 63 n) None (Some (level_at n)) e in
        ap Some (same_wake_up w (wake_up_at tick n) (omega arith) (cc))
        ∙ sym (cond-false _ None (Some (wake_up_at tick n)) (or_from _ _ (le-ltb _ tick (omega arith)) e))

pub returns : goal.returns
returns c = made c.args.tick c.args.level _ refl (sym c.in_ok-level.was ∙ c.new.ensures)

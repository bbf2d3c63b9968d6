-- The first e blocked slots of a window, and how many of them each level runs in. Assumes nothing.
use Rattle.std.proofs.Common.{◌≡◌, ℕ, ◌+◌, ◌*◌, ◌<◌, ◌≤◌, Bool, false, ◌&&◌, leb, arith}
use Rattle.std.proofs.lemmas.Bool.{and_parts, and_from, and_left, and_right}
use Rattle.schedule.specs.Running.{num, runs}
use Rattle.schedule.specs.Schedules.{Schedule}
use Rattle.schedule.proofs.Blocked.{blocked, filled}
use Rattle.schedule.proofs.Counts.{num_from, num_none, num_reaches, num_rises, num_weaker}
use Rattle.schedule.proofs.Jobs.{ran}
use Rattle.schedule.proofs.Totals.{total, counted_twice}

-- a blocked slot at or after tick `from`
abbrev pub busy : ℕ → Schedule → ℕ → ℕ → ℕ → Bool
busy m s k from t = leb from t && blocked m s k t

-- how many busy slots before tick y level i runs in
abbrev pub share : ℕ → Schedule → ℕ → ℕ → ℕ → ℕ → ℕ
share m s k from y i = num (λ t. busy m s k from t && runs m s t i) y

module _ (m : ℕ) (s : Schedule) (k from : ℕ) where
  -- a tick y by which there were e busy slots
  pub first_slots : (z e : ℕ) → from ≤ z → num (blocked m s k) from + e ≤ num (blocked m s k) z → (y : ℕ) × (y ≤ z) × (num (busy m s k from) y ≡ e)
  first_slots z e l h = num_reaches (busy m s k from) z e (omega (arith, num_from (blocked m s k) from z l))

  -- the shares of all levels add up to m in each slot
  pub shares : (y : ℕ) → total (share m s k from y) k ≡ m * num (busy m s k from) y
  shares y = counted_twice k m (busy m s k from) (λ t i. runs m s t i) (λ t e. filled m s k t (and_parts (leb from t) _ e).1) y

  pub share_slots : (y i : ℕ) → share m s k from y i ≤ num (busy m s k from) y
  share_slots y i = num_weaker (λ t. busy m s k from t && runs m s t i) (busy m s k from) y (λ t l e. (and_parts (busy m s k from t) _ e).0)

  -- a share is at most what the level runs in the window
  pub share_ran : (y z i : ℕ) → y ≤ z → from ≤ z → share m s k from y i + ran m s i from ≤ ran m s i z
  share_ran y z i l h =
      let a = num_weaker (λ t. busy m s k from t && runs m s t i) (λ t. leb from t && runs m s t i) y (λ t l e. let p = and_parts (busy m s k from t) _ e in and_from (leb from t) _ (and_parts (leb from t) _ p.0).0 p.1) in
      omega (arith, a, num_rises (λ t. leb from t && runs m s t i) y z l, num_from (λ t. runs m s t i) from z h)

  pub share_none : (y i : ℕ) → ((t : ℕ) → t < y → s.there t i ≡ false) → share m s k from y i ≡ 0
  share_none y i h = num_none (λ t. busy m s k from t && runs m s t i) y (λ t l. and_right (busy m s k from t) _ (and_left (s.there t i) _ (h t l)))

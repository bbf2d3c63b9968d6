-- The items that queues hold, and which of two comes first.
use Rattle.std.specs.Prelude.{ℕ, ◌+◌, ◌^◌, min, Bool, true, false, cond, ◌||◌, Some, None, Option, ◌==◌, nat_lt}
use Rattle.std.proofs.Math.Nat.{min-le_right}
use Rattle.queues.specs.declared.extra.Extra.{Extra}
use Rattle.queues.specs.declared.level.Level.{Level}
use Rattle.queues.specs.declared.wake_up.WakeUp.{WakeUp}

-- smaller number first
abbrev pub level_before : Level → Level → Bool
level_before x y = nat_lt x.number y.number

-- the level of this number; one above 63, which no level has, is cut to 63
abbrev pub level_at : ℕ → Level
level_at n = record { number = min n 63; small = min-le_right n 63 }

abbrev pub new_level : ℕ → Option Level
new_level n = cond (nat_lt 63 n) None (Some (level_at n))

-- larger amount first, then smaller level
abbrev pub extra_before : Extra → Extra → Bool
extra_before x y =
    cond (nat_lt y.amount x.amount) true (cond (x.amount == y.amount) (level_before x.level y.level) false)

-- the extra with these numbers; a level above 63, which no extra has, is cut to 63
abbrev pub extra_at : ℕ → ℕ → Extra
extra_at amount level = record { amount = amount; level = level_at level }

-- the extra with these numbers, or none where the level is above 63
abbrev pub extra_of : ℕ → ℕ → Option Extra
extra_of amount level = cond (nat_lt 63 level) None (Some (extra_at amount level))

-- smaller tick first, then smaller level
abbrev pub wake_up_before : WakeUp → WakeUp → Bool
wake_up_before x y =
    cond (nat_lt x.tick y.tick) true (cond (x.tick == y.tick) (level_before x.level y.level) false)

-- the wake-up with these numbers, each cut to its limit
abbrev pub wake_up_at : ℕ → ℕ → WakeUp
wake_up_at tick level =
    record {
      tick = min tick (2 ^ 40 + 60000);
      level = level_at level;
      early = min-le_right tick (2 ^ 40 + 60000);
    }

abbrev pub new_wake_up : ℕ → ℕ → Option WakeUp
new_wake_up tick level = cond (nat_lt (2 ^ 40 + 60000) tick || nat_lt 63 level) None (Some (wake_up_at tick level))

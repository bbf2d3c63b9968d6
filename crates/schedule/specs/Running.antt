-- Which levels run in a slot. Slot t is the time from tick t to tick t + 1, and a smaller level is more urgent.
use Rattle.std.specs.Prelude.{ℕ, zero, suc, ◌+◌, Bool, true, false, ◌&&◌, nat_le, nat_lt}
use Rattle.schedule.specs.Schedules.{Schedule}

abbrev pub bit : Bool → ℕ
bit true = 1
bit false = 0

-- how many u < n have p
abbrev pub num : (ℕ → Bool) → ℕ → ℕ
num p zero = 0
num p (suc n) = num p n + bit (p n)

-- on m cores level i runs in slot t: it has a job, and fewer than m more urgent levels have one
abbrev pub runs : ℕ → Schedule → ℕ → ℕ → Bool
runs m s t i = s.there t i && nat_lt (num (s.there t) i) m

-- in how many slots from tick a to tick b level i runs
abbrev pub slots_between : ℕ → Schedule → ℕ → ℕ → ℕ → ℕ
slots_between m s i a b = num (λ t. nat_le a t && runs m s t i) b

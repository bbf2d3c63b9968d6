-- A set of levels as the binary digits of a number, the lowest digit first.
use Rattle.std.specs.Prelude.{ℕ, zero, suc, ◌/◌, ◌%◌, Bool, cond, List, [], ◌∷◌, ◌==◌}
use Rattle.queues.specs.Items.{level_at}
use Rattle.queues.specs.declared.level.Level.{Level}

abbrev pub odd : ℕ → Bool
odd n = n % 2 == 1

-- whether digit p of n is set
unfoldable pub digit : ℕ → ℕ → Bool
digit zero n = odd n
digit (suc p) n = digit p (n / 2)

-- the levels of the set digits among the k lowest of n, where the lowest digit stands for level `from`
unfoldable pub levels_from : ℕ → ℕ → ℕ → List Level
levels_from zero from n = []
levels_from (suc k) from n = cond (odd n) (level_at from ∷ levels_from k (suc from) (n / 2)) (levels_from k (suc from) (n / 2))

-- the levels of the set digits of a number of 64 digits
abbrev pub levels_in : ℕ → List Level
levels_in n = levels_from 64 0 n

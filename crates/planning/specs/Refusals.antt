-- The number of each refusal.
use Rattle.std.specs.Prelude.{ℕ}
use Rattle.planning.specs.declared.refusal.Refusal.{Refusal}
use Rattle.planning.specs.declared.refusal.Refusal.TheVariants.{BadLevel, BadTiming, LevelTaken, TooManyTasks, NoBound}

abbrev pub number : Refusal → ℕ
number (BadLevel l) = 1
number (BadTiming l) = 2
number (LevelTaken l) = 3
number (TooManyTasks l) = 4
number (NoBound l) = 6

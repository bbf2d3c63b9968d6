-- What is written of a refusal, and of a task that passed.
use Rattle.std.specs.Prelude.{ℕ, ◌-◌, List, ◌++◌, length, replicate, codes, decimal}
use Rattle.planning.specs.declared.refusal.Refusal.{Refusal}
use Rattle.planning.specs.declared.refusal.Refusal.TheVariants.{BadLevel, BadTiming, LevelTaken, TooManyTasks, NoBound}
use Rattle.planning.specs.declared.verdict.Row.{Row}

-- the level to blame and why
abbrev pub reason_text : Refusal → List ℕ
reason_text (BadLevel l) = codes "level " ++ (decimal l ++ codes " is above 63")
reason_text (BadTiming l) = codes "level " ++ (decimal l ++ codes " breaks 1 <= C <= D <= T <= 60000")
reason_text (LevelTaken l) = codes "level " ++ (decimal l ++ codes " has a task already")
reason_text (TooManyTasks l) = codes "level " ++ (decimal l ++ codes " comes after 32 tasks")
reason_text (NoBound l) = codes "level " ++ (decimal l ++ codes " has no bound")

-- n in decimal, to the right of a column of so many bytes
abbrev pub right : ℕ → ℕ → List ℕ
right width n = replicate (width - length (decimal n)) 32 ++ decimal n

-- level, C, D, T, total and bound under the columns
abbrev pub row_text : Row → List ℕ
row_text r =
    right 5 r.task.level ++ (right 6 r.task.run ++ (right 6 r.task.deadline ++ (right 6 r.task.gap ++ (right 7 r.total ++ right 6 r.bound))))

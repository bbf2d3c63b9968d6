-- What the reading of a sheet answers.
use Rattle.std.specs.Prelude.{◌≡◌, ℕ, List, Ok, Err, vec_items, Result}
use Rattle.sheets.specs.declared.reading.ReadError.{ReadError}
use Rattle.sheets.specs.declared.reading.ReadError.TheVariants.{Memory, Line}
use Rattle.sheets.specs.declared.reading.Sheet.{Sheet}
use Rattle.sheets.specs.Reading.{Page, Says, read_text}

abbrev pub page_of : Sheet → Page
page_of s = record { cores = s.cores; rule = s.rule; tasks = vec_items s.tasks }

-- a sheet that holds what the lines say, or the first line at fault; nothing is said where memory ran out
abbrev pub Read : List ℕ → Result Sheet ReadError → Type 0
Read text (Ok s) = (read_text text ≡ Ok (page_of s)) × Says text (page_of s)
Read text (Err Memory) = Unit {0}
Read text (Err (Line l)) = read_text text ≡ Err (l.number, l.fault)

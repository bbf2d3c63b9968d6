-- What a line of a sheet says.
use Rattle.std.specs.Prelude.{◌≡◌, ℕ, cond, ◌&&◌, List, [], ◌∷◌, length, Ok, Err, codes, Result, MatchResult, ◌==◌, nat_le, nat_lt, slice_index, slice_index_or}
use Rattle.std.specs.Borrow.{Bor}
use Rattle.std.specs.Str.{all_ascii_digits, bytes_eq}
use Rattle.sheets.specs.declared.entry.Entry.{Entry}
use Rattle.sheets.specs.declared.entry.Entry.TheVariants as entry
use Rattle.sheets.specs.declared.entry.Fault.{Fault}
use Rattle.sheets.specs.declared.entry.Fault.TheVariants.{UnknownWord, MissingWord, ExtraWord, NotNumber, TooLarge, BadCores, UnknownRule}
use Rattle.sheets.specs.declared.entry.Rule.{Rule}
use Rattle.sheets.specs.declared.entry.Rule.TheVariants.{Deadline}
use Rattle.sheets.specs.Words.{words, filled, value}

abbrev pub and_then : {A B : Type 0} → Result A Fault → (A → Result B Fault) → Result B Fault
and_then (Ok x) f = f x
and_then (Err e) f = Err e

-- digits alone, at least one, of a value that fits 16 bits
abbrev pub number_of : List ℕ → Result ℕ Fault
number_of w = cond (filled w && all_ascii_digits w) (cond (nat_lt (value w) 65536) (Ok (value w)) (Err TooLarge)) (Err NotNumber)

-- just n words, or too few before too many
abbrev pub counted : {A : Type 0} → ℕ → List (List ℕ) → Result A Fault → Result A Fault
counted n ws r = cond (nat_lt (length ws) n) (Err MissingWord) (cond (nat_lt n (length ws)) (Err ExtraWord) r)

-- the word of one, or what is wrong with so many
abbrev pub OnlyWord : List (List ℕ) → Result (Bor (List ℕ)) Fault → Type 0
OnlyWord ws r = MatchResult r (λ w. ws ≡ w.now ∷ []) (λ f. (s : Result Entry Fault) → counted 1 ws s ≡ Err f)

-- a number of cores, from 1 to 8
abbrev pub cores_of : ℕ → Result ℕ Fault
cores_of n = cond (nat_le 1 n && nat_le n 8) (Ok n) (Err BadCores)

-- the rule of this name
abbrev pub rule_of : List ℕ → Result Rule Fault
rule_of w = cond (bytes_eq w (codes "deadline")) (Ok Deadline) (Err UnknownRule)

-- cores N, from 1 to 8
abbrev pub cores_entry : List (List ℕ) → Result Entry Fault
cores_entry ws =
    counted 1 ws (and_then (number_of (slice_index_or ws 0 [])) (λ n. cond (nat_le 1 n && nat_le n 8) (Ok (entry.Cores n)) (Err BadCores)))

-- rule deadline
abbrev pub rule_entry : List (List ℕ) → Result Entry Fault
rule_entry ws = counted 1 ws (cond (bytes_eq (slice_index_or ws 0 []) (codes "deadline")) (Ok (entry.Rule Deadline)) (Err UnknownRule))

-- task LEVEL C D T
abbrev pub task_entry : List (List ℕ) → Result Entry Fault
task_entry ws =
    counted 4 ws (
    and_then (number_of (slice_index_or ws 0 [])) (λ l.
    and_then (number_of (slice_index_or ws 1 [])) (λ c.
    and_then (number_of (slice_index_or ws 2 [])) (λ d.
    and_then (number_of (slice_index_or ws 3 [])) (λ t.
    Ok (entry.Task (record { level = l; run = c; deadline = d; gap = t })))))))

-- by the first word
abbrev pub words_entry : List (List ℕ) → Result Entry Fault
words_entry [] = Ok entry.Blank
words_entry (w ∷ ws) =
    cond (bytes_eq w (codes "cores")) (cores_entry ws)
    (cond (bytes_eq w (codes "rule")) (rule_entry ws) (cond (bytes_eq w (codes "task")) (task_entry ws) (Err UnknownWord)))

-- a line that begins with # says nothing
abbrev pub line_entry : List ℕ → Result Entry Fault
line_entry line = cond (slice_index line 0 == 35) (Ok entry.Blank) (words_entry (words line))

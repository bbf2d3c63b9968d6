-- A sheet that is read in part.
use Rattle.std.specs.Prelude.{◌≡◌, ℕ, List, [], ◌∷◌, ◌++◌, Some, None, Ok, Err, vec_items, Option, Result, IsSome, MatchResult}
use Rattle.std.specs.Option.{option_to_list}
use Rattle.sheets.specs.declared.draft.Draft.{Draft}
use Rattle.sheets.specs.declared.entry.Entry.{Entry}
use Rattle.sheets.specs.declared.entry.Entry.TheVariants as entry
use Rattle.sheets.specs.declared.entry.Fault.{Fault}
use Rattle.sheets.specs.declared.entry.Fault.TheVariants.{CoresTwice, RuleTwice}
use Rattle.sheets.specs.declared.line_fault.LineFault.{LineFault}
use Rattle.sheets.specs.declared.reading.ReadError.{ReadError}
use Rattle.sheets.specs.declared.reading.ReadError.TheVariants.{Memory, Line}
use Rattle.sheets.specs.declared.reading.Sheet.{Sheet}
use Rattle.sheets.specs.Lines.{line_entry}
use Rattle.sheets.specs.Outcomes.{page_of}
use Rattle.sheets.specs.Reading.{cores_told, rule_told, task_told, all_cores, all_rules, all_tasks, again, fault_of, whole}

-- what storing x, told by a line, answers where an earlier line may have told it
abbrev pub ToldOnce : {A : Type 0} → Option A → A → LineFault → Option A → Result (Unit {0}) LineFault → Type 0
ToldOnce old x twice new r =
    MatchResult r (λ u. (old ≡ None) × (new ≡ Some x)) (λ f. IsSome old × (f ≡ twice))

-- what is wrong with an entry after a draft
abbrev pub fault_after : Draft → Entry → Option Fault
fault_after d entry.Blank = None
fault_after d (entry.Cores n) = again (option_to_list d.cores) CoresTwice
fault_after d (entry.Rule r) = again (option_to_list d.rule) RuleTwice
fault_after d (entry.Task k) = None

-- the draft d with an entry more is e
pub record Grown (d : Draft) (x : Entry) (e : Draft) : Type 0 where
  pub cores : option_to_list e.cores ≡ option_to_list d.cores ++ cores_told (Ok x)
  pub rule : option_to_list e.rule ≡ option_to_list d.rule ++ rule_told (Ok x)
  pub tasks : vec_items e.tasks ≡ vec_items d.tasks ++ task_told (Ok x)

-- what putting the entry of line n into a draft answers
abbrev pub Put : Draft → ℕ → Entry → Draft → Result (Unit {0}) ReadError → Type 0
Put d n x e (Ok u) = (fault_after d x ≡ None) × Grown d x e
Put d n x e (Err Memory) = Unit {0}
Put d n x e (Err (Line l)) = (l.number ≡ n) × (fault_after d x ≡ Some l.fault)

-- a draft holds what some lines say
pub record Holds (d : Draft) (ls : List (List ℕ)) : Type 0 where
  pub cores : option_to_list d.cores ≡ all_cores ls
  pub rule : option_to_list d.rule ≡ all_rules ls
  pub tasks : vec_items d.tasks ≡ all_tasks ls

-- what taking in the line of number n, after the lines `before`, answers
abbrev pub Entered : List (List ℕ) → ℕ → List ℕ → Draft → Result (Unit {0}) ReadError → Type 0
Entered before n line e (Ok u) = (fault_of before (line_entry line) ≡ None) × Holds e (before ++ line ∷ [])
Entered before n line e (Err Memory) = Unit {0}
Entered before n line e (Err (Line l)) = (l.number ≡ n) × (fault_of before (line_entry line) ≡ Some l.fault)

-- the sheet of a draft after n lines, or what none of them told
abbrev pub Finished : ℕ → Draft → Result Sheet LineFault → Type 0
Finished n d (Ok s) = whole n (option_to_list d.cores) (option_to_list d.rule) (vec_items d.tasks) ≡ Ok (page_of s)
Finished n d (Err l) = whole n (option_to_list d.cores) (option_to_list d.rule) (vec_items d.tasks) ≡ Err (l.number, l.fault)

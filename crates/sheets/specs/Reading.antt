-- What a whole sheet says, or which line is at fault and why.
use Rattle.std.specs.Prelude.{◌≡◌, ℕ, suc, ◌≤◌, true, List, [], ◌∷◌, ◌++◌, length, is_ok, Some, None, Ok, Err, Option, Result}
use Rattle.std.specs.List.{flat_map, AllByRecursion}
use Rattle.analysis.specs.declared.task.Task.{Task}
use Rattle.sheets.specs.declared.entry.Entry.{Entry}
use Rattle.sheets.specs.declared.entry.Entry.TheVariants as entry
use Rattle.sheets.specs.declared.entry.Fault.{Fault}
use Rattle.sheets.specs.declared.entry.Fault.TheVariants.{CoresTwice, RuleTwice, NoCores, NoRule}
use Rattle.sheets.specs.declared.entry.Rule.{Rule}
use Rattle.sheets.specs.Lines.{line_entry}
use Rattle.sheets.specs.Words.{lines}

-- what one line tells of the cores, of the rule, of the tasks
abbrev pub cores_told : Result Entry Fault → List ℕ
cores_told (Ok entry.Blank) = []
cores_told (Ok (entry.Cores n)) = n ∷ []
cores_told (Ok (entry.Rule r)) = []
cores_told (Ok (entry.Task k)) = []
cores_told (Err f) = []

abbrev pub rule_told : Result Entry Fault → List Rule
rule_told (Ok entry.Blank) = []
rule_told (Ok (entry.Cores n)) = []
rule_told (Ok (entry.Rule r)) = r ∷ []
rule_told (Ok (entry.Task k)) = []
rule_told (Err f) = []

abbrev pub task_told : Result Entry Fault → List Task
task_told (Ok entry.Blank) = []
task_told (Ok (entry.Cores n)) = []
task_told (Ok (entry.Rule r)) = []
task_told (Ok (entry.Task k)) = k ∷ []
task_told (Err f) = []

-- all that some lines tell, in their order
abbrev pub all_cores : List (List ℕ) → List ℕ
all_cores ls = flat_map (λ l. cores_told (line_entry l)) ls

abbrev pub all_rules : List (List ℕ) → List Rule
all_rules ls = flat_map (λ l. rule_told (line_entry l)) ls

abbrev pub all_tasks : List (List ℕ) → List Task
all_tasks ls = flat_map (λ l. task_told (line_entry l)) ls

-- told already
abbrev pub again : {A : Type 0} → List A → Fault → Option Fault
again [] f = None
again (x ∷ xs) f = Some f

-- what is wrong with a line that comes after the lines `before`
abbrev pub fault_of : List (List ℕ) → Result Entry Fault → Option Fault
fault_of before (Ok entry.Blank) = None
fault_of before (Ok (entry.Cores n)) = again (all_cores before) CoresTwice
fault_of before (Ok (entry.Rule r)) = again (all_rules before) RuleTwice
fault_of before (Ok (entry.Task k)) = None
fault_of before (Err f) = Some f

-- the number of the first line at fault, counted from 1, and what is wrong with it
abbrev pub at_line : ℕ → Option Fault → Option (ℕ × Fault) → Option (ℕ × Fault)
at_line n (Some f) later = Some (n, f)
at_line n None later = later

abbrev pub first_fault : List (List ℕ) → List (List ℕ) → Option (ℕ × Fault)
first_fault before [] = None
first_fault before (l ∷ ls) =
    at_line (suc (length before)) (fault_of before (line_entry l)) (first_fault (before ++ l ∷ []) ls)

-- what a sheet holds
pub record Page : Type 0 where
  pub cores : ℕ
  pub rule : Rule
  pub tasks : List Task

-- where no line is at fault: one line tells the cores and one the rule, and a missing one is noticed at the last line, n
abbrev pub whole : ℕ → List ℕ → List Rule → List Task → Result Page (ℕ × Fault)
whole n [] rs ts = Err (n, NoCores)
whole n (c ∷ cs) [] ts = Err (n, NoRule)
whole n (c ∷ cs) (r ∷ rs) ts = Ok (record { cores = c; rule = r; tasks = ts })

abbrev pub faulty : Option (ℕ × Fault) → Result Page (ℕ × Fault) → Result Page (ℕ × Fault)
faulty (Some p) r = Err p
faulty None r = r

abbrev pub read_lines : List (List ℕ) → Result Page (ℕ × Fault)
read_lines ls = faulty (first_fault [] ls) (whole (length ls) (all_cores ls) (all_rules ls) (all_tasks ls))

abbrev pub read_text : List ℕ → Result Page (ℕ × Fault)
read_text text = read_lines (lines text)

-- the law above these definitions: what was read is what the lines say. Each line can be read, one line tells the cores,
-- one to eight, one tells the rule, and the tasks are those of the task lines in their order.
pub record Says (text : List ℕ) (p : Page) : Type 0 where
  pub readable : AllByRecursion (λ l. is_ok (line_entry l) ≡ true) (lines text)
  pub one_cores : all_cores (lines text) ≡ p.cores ∷ []
  pub some_core : 1 ≤ p.cores
  pub few_cores : p.cores ≤ 8
  pub one_rule : all_rules (lines text) ≡ p.rule ∷ []
  pub tasks_in_order : all_tasks (lines text) ≡ p.tasks

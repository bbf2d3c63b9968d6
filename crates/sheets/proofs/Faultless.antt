-- What follows where no line is at fault: what was read is what the lines say.
use Rattle.std.proofs.Common.{◌≡◌, ℕ, ◌≤◌, true, List, [], ◌∷◌, ◌++◌, length, is_ok, Some, None, Ok, Err, Option, Result, refl, ap, ◌∙◌, subst, append_assoc, append-nil, arith}
use Rattle.std.specs.List.{AllByRecursion}
use Rattle.analysis.specs.declared.task.Task.{Task}
use Rattle.sheets.specs.declared.entry.Entry.{Entry}
use Rattle.sheets.specs.declared.entry.Entry.TheVariants as entry
use Rattle.sheets.specs.declared.entry.Fault.{Fault}
use Rattle.sheets.specs.declared.entry.Fault.TheVariants.{CoresTwice, RuleTwice}
use Rattle.sheets.specs.declared.entry.Rule.{Rule}
use Rattle.sheets.specs.Lines.{line_entry}
use Rattle.sheets.specs.Reading.{Page, Says, cores_told, rule_told, all_cores, all_rules, all_tasks, again, fault_of, at_line, first_fault, whole, faulty, read_text}
use Rattle.sheets.specs.Words.{lines}
use Rattle.sheets.proofs.Told.{cores_in_range, cores_more, rules_more}

-- no fault at a line, and none later
none_here : (n : ℕ) (o : Option Fault) (later : Option (ℕ × Fault)) → at_line n o later ≡ None → (o ≡ None) × (later ≡ None)
none_here n None later e = (refl, e)
none_here n (Some f) later e = absurd cc

-- what is told once more was not told
not_told : {A : Type 0} (xs : List A) (f : Fault) → again xs f ≡ None → xs ≡ []
not_told [] f e = refl
not_told (x ∷ xs) f e = absurd cc

module _ (before : List (List ℕ)) where
  can_be_read : (r : Result Entry Fault) → fault_of before r ≡ None → is_ok r ≡ true
  can_be_read (Ok x) e = refl
  can_be_read (Err f) e = absurd cc

  one_cores_more : (r : Result Entry Fault) → fault_of before r ≡ None → length (all_cores before) ≤ 1 → length (all_cores before ++ cores_told r) ≤ 1
  one_cores_more (Ok entry.Blank) e few = rw append-nil few
  one_cores_more (Ok (entry.Cores n)) e few = rw (not_told (all_cores before) CoresTwice e) (omega arith)
  one_cores_more (Ok (entry.Rule r)) e few = rw append-nil few
  one_cores_more (Ok (entry.Task k)) e few = rw append-nil few
  one_cores_more (Err f) e few = rw append-nil few

  one_rule_more : (r : Result Entry Fault) → fault_of before r ≡ None → length (all_rules before) ≤ 1 → length (all_rules before ++ rule_told r) ≤ 1
  one_rule_more (Ok entry.Blank) e few = rw append-nil few
  one_rule_more (Ok (entry.Cores n)) e few = rw append-nil few
  one_rule_more (Ok (entry.Rule r)) e few = rw (not_told (all_rules before) RuleTwice e) (omega arith)
  one_rule_more (Ok (entry.Task k)) e few = rw append-nil few
  one_rule_more (Err f) e few = rw append-nil few

all_read : (before ls : List (List ℕ)) → first_fault before ls ≡ None → AllByRecursion (λ l. is_ok (line_entry l) ≡ true) ls
all_read before [] e = tt
all_read before (l ∷ ls) e =
    let clean = none_here _ (fault_of before (line_entry l)) _ e in
    (can_be_read before (line_entry l) clean.0, all_read (before ++ l ∷ []) ls clean.1)

few_cores : (before ls : List (List ℕ)) → first_fault before ls ≡ None → length (all_cores before) ≤ 1 → length (all_cores (before ++ ls)) ≤ 1
few_cores before [] e few = rw append-nil few
few_cores before (l ∷ ls) e few =
    let clean = none_here _ (fault_of before (line_entry l)) _ e in
    rw (← append_assoc before (l ∷ []) ls) (few_cores (before ++ l ∷ []) ls clean.1 (rw (cores_more before l) (one_cores_more before (line_entry l) clean.0 few)))

few_rules : (before ls : List (List ℕ)) → first_fault before ls ≡ None → length (all_rules before) ≤ 1 → length (all_rules (before ++ ls)) ≤ 1
few_rules before [] e few = rw append-nil few
few_rules before (l ∷ ls) e few =
    let clean = none_here _ (fault_of before (line_entry l)) _ e in
    rw (← append_assoc before (l ∷ []) ls) (few_rules (before ++ l ∷ []) ls clean.1 (rw (rules_more before l) (one_rule_more before (line_entry l) clean.0 few)))

-- one at most, and one that is first
only_one : {A : Type 0} (x : A) (xs : List A) → length (x ∷ xs) ≤ 1 → x ∷ xs ≡ x ∷ []
only_one x [] few = refl
only_one x (y ∷ xs) few = absurd (omega arith)

no_fault : (o : Option (ℕ × Fault)) (r : Result Page (ℕ × Fault)) (p : Page) → faulty o r ≡ Ok p → (o ≡ None) × (r ≡ Ok p)
no_fault None r p e = (refl, e)
no_fault (Some q) r p e = absurd cc

abbrev page : ℕ → Rule → List Task → Page
page c r ts = record { cores = c; rule = r; tasks = ts }

record Parts (cs : List ℕ) (rs : List Rule) (ts : List Task) (p : Page) : Type 0 where
  cores : cs ≡ p.cores ∷ []
  rule : rs ≡ p.rule ∷ []
  tasks : ts ≡ p.tasks

parts : (n : ℕ) (cs : List ℕ) (rs : List Rule) (ts : List Task) (p : Page) → whole n cs rs ts ≡ Ok p → length cs ≤ 1 → length rs ≤ 1 → Parts cs rs ts p
parts n [] rs ts p e few fewer = absurd cc
parts n (c ∷ cs) [] ts p e few fewer = absurd cc
parts n (c ∷ cs) (r ∷ rs) ts p e few fewer =
    let same : page c r ts ≡ p = cc in
    record {
      cores = only_one c cs few ∙ ap (λ (q : Page). q.cores ∷ []) same;
      rule = only_one r rs fewer ∙ ap (λ (q : Page). q.rule ∷ []) same;
      tasks = ap (λ (q : Page). q.tasks) same;
    }

pub says : (text : List ℕ) (p : Page) → read_text text ≡ Ok p → Says text p
says text p e =
    let ls = lines text in
    let clean = no_fault (first_fault [] ls) _ p e in
    let got = parts (length ls) (all_cores ls) (all_rules ls) (all_tasks ls) p clean.1 (few_cores [] ls clean.0 (omega arith)) (few_rules [] ls clean.0 (omega arith)) in
    let range = subst (AllByRecursion (λ n. (1 ≤ n) × (n ≤ 8))) got.cores (cores_in_range ls) in
    record { readable = all_read [] ls clean.0; one_cores = got.cores; some_core = range.0.0; few_cores = range.0.1; one_rule = got.rule; tasks_in_order = got.tasks }

-- What one line more tells, and that no line tells more than 8 cores.
use Rattle.std.proofs.Common.{◌≡◌, ℕ, ◌≤◌, Bool, true, false, cond, ◌&&◌, eqb, ltb, leb, List, [], ◌∷◌, ◌++◌, length, get_or, Ok, Err, codes, Result, sym, refl, ap, ◌∙◌}
use Rattle.std.specs.Str.{bytes_eq}
use Rattle.std.proofs.lemmas.List.{flat_map_more}
use Rattle.std.proofs.lemmas.Bool.{and_parts, leb-true}
use Rattle.sheets.specs.declared.draft.Draft.{Draft}
use Rattle.sheets.specs.declared.entry.Entry.{Entry}
use Rattle.sheets.specs.declared.entry.Entry.TheVariants as entry
use Rattle.sheets.specs.declared.entry.Fault.{Fault}
use Rattle.sheets.specs.declared.entry.Fault.TheVariants.{BadCores, CoresTwice, RuleTwice}
use Rattle.sheets.specs.declared.reading.ReadError.{ReadError}
use Rattle.sheets.specs.declared.reading.ReadError.TheVariants.{Memory, Line}
use Rattle.sheets.specs.Drafts.{fault_after, Grown, Put, Holds, Entered}
use Rattle.sheets.specs.Lines.{and_then, number_of, counted, words_entry, line_entry}
use Rattle.sheets.specs.Reading.{cores_told, rule_told, task_told, all_cores, all_rules, all_tasks, again, fault_of}
use Rattle.std.proofs.ByRecursion.{All-append}
use Rattle.std.specs.List.{AllByRecursion}
use Rattle.sheets.specs.Words.{words}

-- no line tells fewer than 1 core or more than 8
abbrev CoresFit : Entry → Type 0
CoresFit entry.Blank = Unit {0}
CoresFit (entry.Cores n) = (1 ≤ n) × (n ≤ 8)
CoresFit (entry.Rule r) = Unit {0}
CoresFit (entry.Task k) = Unit {0}

-- the entry fits, if there is one
abbrev FitIn : Result Entry Fault → Type 0
FitIn (Ok x) = CoresFit x
FitIn (Err f) = Unit {0}

either_fits : (b : Bool) (x y : Result Entry Fault) → FitIn x → FitIn y → FitIn (cond b x y)
either_fits true x y h k = h
either_fits false x y h k = k

then_fits : (m : Result ℕ Fault) (f : ℕ → Result Entry Fault) → ((n : ℕ) → FitIn (f n)) → FitIn (and_then m f)
then_fits (Ok n) f h = h n
then_fits (Err e) f h = tt

counted_fits : (n : ℕ) (ws : List (List ℕ)) (r : Result Entry Fault) → FitIn r → FitIn (counted n ws r)
counted_fits n ws r h = either_fits (ltb (length ws) n) _ _ tt (either_fits (ltb n (length ws)) _ _ tt h)

cores_fit : (n : ℕ) (b : Bool) → (leb 1 n && leb n 8) ≡ b → FitIn (cond b (Ok (entry.Cores n)) (Err BadCores))
cores_fit n true e = let p = and_parts (leb 1 n) (leb n 8) e in (leb-true 1 n p.0, leb-true n 8 p.1)
cores_fit n false e = tt

words_fit : (ws : List (List ℕ)) → FitIn (words_entry ws)
words_fit [] = tt
words_fit (w ∷ ws) =
    either_fits (bytes_eq w (codes "cores")) _ _ (counted_fits 1 ws _ (then_fits (number_of (get_or ws 0 [])) _ (λ n. cores_fit n _ refl)))
    (either_fits (bytes_eq w (codes "rule")) _ _ (counted_fits 1 ws _ (either_fits (bytes_eq (get_or ws 0 []) (codes "deadline")) _ _ tt tt))
    (either_fits (bytes_eq w (codes "task")) _ _ (counted_fits 4 ws _ (then_fits (number_of (get_or ws 0 [])) _ (λ l. then_fits (number_of (get_or ws 1 [])) _ (λ c. then_fits (number_of (get_or ws 2 [])) _ (λ d. then_fits (number_of (get_or ws 3 [])) _ (λ t. tt)))))) tt))

-- what a line tells of the cores is in range
abbrev InRange : List ℕ → Type 0
InRange ns = AllByRecursion (λ n. (1 ≤ n) × (n ≤ 8)) ns

told_in_range : (r : Result Entry Fault) → FitIn r → InRange (cores_told r)
told_in_range (Ok entry.Blank) h = tt
told_in_range (Ok (entry.Cores n)) h = (h, tt)
told_in_range (Ok (entry.Rule r)) h = tt
told_in_range (Ok (entry.Task k)) h = tt
told_in_range (Err f) h = tt

pub cores_in_range : (ls : List (List ℕ)) → InRange (all_cores ls)
cores_in_range [] = tt
cores_in_range (l ∷ ls) =
    All-append (λ n. (1 ≤ n) × (n ≤ 8)) (cores_told (line_entry l)) (all_cores ls) (told_in_range (line_entry l) (either_fits (eqb (get_or l 0 0) 35) _ _ tt (words_fit (words l)))) (cores_in_range ls)

-- one line more
module _ (ls : List (List ℕ)) (l : List ℕ) where
  pub cores_more : all_cores (ls ++ l ∷ []) ≡ all_cores ls ++ cores_told (line_entry l)
  cores_more = sym (flat_map_more (λ k. cores_told (line_entry k)) [] ls l)

  pub rules_more : all_rules (ls ++ l ∷ []) ≡ all_rules ls ++ rule_told (line_entry l)
  rules_more = sym (flat_map_more (λ k. rule_told (line_entry k)) [] ls l)

  pub tasks_more : all_tasks (ls ++ l ∷ []) ≡ all_tasks ls ++ task_told (line_entry l)
  tasks_more = sym (flat_map_more (λ k. task_told (line_entry k)) [] ls l)

fault_here : (d : Draft) (ls : List (List ℕ)) (x : Entry) → Holds d ls → fault_of ls (Ok x) ≡ fault_after d x
fault_here d ls entry.Blank h = refl
fault_here d ls (entry.Cores n) h = ap (λ cs. again cs CoresTwice) (sym h.cores)
fault_here d ls (entry.Rule r) h = ap (λ rs. again rs RuleTwice) (sym h.rule)
fault_here d ls (entry.Task k) h = refl

-- a line whose entry was put into a draft was taken in
module _ (before : List (List ℕ)) (line : List ℕ) (x : Entry) (d e : Draft) (is : Ok x ≡ line_entry line) (held : Holds d before) where
  grown_holds : Grown d x e → Holds e (before ++ line ∷ [])
  grown_holds h = record {
    cores = h.cores ∙ (λ i. held.cores i ++ cores_told (is i)) ∙ sym (cores_more before line);
    rule = h.rule ∙ (λ i. held.rule i ++ rule_told (is i)) ∙ sym (rules_more before line);
    tasks = h.tasks ∙ (λ i. held.tasks i ++ task_told (is i)) ∙ sym (tasks_more before line);
  }

  fault_there : fault_of before (line_entry line) ≡ fault_after d x
  fault_there = ap (fault_of before) (sym is) ∙ fault_here d before x held

  pub put_entered : (n : ℕ) (r : Result (Unit {0}) ReadError) → Put d n x e r → Entered before n line e r
  put_entered n (Ok u) h = (fault_there ∙ h.0, grown_holds h.1)
  put_entered n (Err Memory) h = tt
  put_entered n (Err (Line l)) h = (h.0, fault_there ∙ h.1)

-- A sheet, line by line: the first lines are without fault, and a draft holds what they say.
use Rattle.std.proofs.Common.{◌≡◌, ℕ, suc, ◌+◌, ◌<◌, ◌≤◌, List, [], ◌∷◌, ◌++◌, length, get_or, take, drop, Some, None, Ok, Err, vec_items, Result, sym, refl, ap, ◌∙◌, arith, Bor}
use lib.ListN.{length-map}
use Rattle.std.specs.Option.{option_to_list}
use Rattle.std.proofs.lemmas.List.{get_or-map, take_more, take_all, drop_more, drop_all, length-take-le}
use Rattle.sheets.specs.declared.draft.Draft.{Draft}
use Rattle.sheets.specs.declared.entry.Fault.{Fault}
use Rattle.sheets.specs.declared.line_fault.LineFault.{LineFault}
use Rattle.sheets.specs.declared.reading.ReadError.{ReadError}
use Rattle.sheets.specs.declared.reading.ReadError.TheVariants.{Memory, Line}
use Rattle.sheets.specs.declared.reading.Sheet.{Sheet}
use Rattle.sheets.specs.Drafts.{Holds, Entered, Finished}
use Rattle.sheets.specs.Lines.{line_entry}
use Rattle.sheets.specs.Outcomes.{page_of, Read}
use Rattle.sheets.specs.Reading.{Page, all_cores, all_rules, all_tasks, fault_of, at_line, first_fault, whole, faulty, read_lines, read_text}
use Rattle.sheets.specs.Words.{texts, lines}
use Rattle.sheets.proofs.Faultless.{says}

-- what a read past the end gives
abbrev pub no_text : Bor (List ℕ)
no_text = record { ref_ptr = (0, 0); now = [] }

module _ (ss : List (Bor (List ℕ))) where
  length_texts : length (texts ss) ≡ length ss
  length_texts = length-map ss (λ s. s.now)

  text_at : (i : ℕ) → i < length ss → get_or (texts ss) i [] ≡ (get_or ss i no_text).now
  text_at i within = get_or-map (λ s. s.now) ss i no_text [] within

pub record Sofar (ls : List (List ℕ)) (i : ℕ) (d : Draft) : Type 0 where
  pub clean : first_fault (take i ls) (drop i ls) ≡ first_fault [] ls
  pub holds : Holds d (take i ls)

pub none_yet : (ls : List (List ℕ)) (d : Draft) → Holds d [] → Sofar ls 0 d
none_yet ls d h = record { clean = refl; holds = h }

module _ (ls : List (List ℕ)) (i : ℕ) (d : Draft) (sofar : Sofar ls i d) where
  module _ (within : i < length ls) where
    -- the fault of the next line, or else a later one
    next_fault : first_fault [] ls ≡ at_line (suc (length (take i ls))) (fault_of (take i ls) (line_entry (get_or ls i []))) (first_fault (take i ls ++ get_or ls i [] ∷ []) (drop (i + 1) ls))
    next_fault = sym sofar.clean ∙ ap (first_fault (take i ls)) (drop_more ls i [] within)

    line_taken : (e : Draft) (n : ℕ) → Entered (take i ls) n (get_or ls i []) e (Ok tt) → Sofar ls (i + 1) e
    line_taken e n h = record {
      clean = ap (λ l. first_fault l (drop (i + 1) ls)) (take_more ls i [] within) ∙ ap (λ o. at_line (suc (length (take i ls))) o (first_fault (take i ls ++ get_or ls i [] ∷ []) (drop (i + 1) ls))) (sym h.0) ∙ sym next_fault;
      holds = rw (take_more ls i [] within) h.1;
    }

    line_at_fault : (k : ℕ) (f : Fault) → k ≡ i + 1 → fault_of (take i ls) (line_entry (get_or ls i [])) ≡ Some f → read_lines ls ≡ Err (k, f)
    line_at_fault k f number fault =
        let place : suc (length (take i ls)) ≡ k = omega (arith, length-take-le i ls (omega arith)) in
        ap (λ o. faulty o (whole (length ls) (all_cores ls) (all_rules ls) (all_tasks ls))) (next_fault ∙ ap (λ o. at_line (suc (length (take i ls))) o (first_fault (take i ls ++ get_or ls i [] ∷ []) (drop (i + 1) ls))) fault)
        ∙ ap (λ (n : ℕ). Err (n, f)) place

  -- after the last line
  all_lines : length ls ≤ i → read_lines ls ≡ whole (length ls) (option_to_list d.cores) (option_to_list d.rule) (vec_items d.tasks)
  all_lines past =
      let all = take_all i ls past in
      let none : first_fault [] ls ≡ None = sym sofar.clean ∙ (λ j. first_fault (all j) (drop_all i ls past j)) in
      let held = rw all at sofar.holds in
      ap (λ o. faulty o (whole (length ls) (all_cores ls) (all_rules ls) (all_tasks ls))) none
      ∙ (λ j. whole (length ls) (sym held.cores j) (sym held.rule j) (sym held.tasks j))

-- the same of the slice that holds the lines of a text
module _ (ss : List (Bor (List ℕ))) (i : ℕ) (d : Draft) (sofar : Sofar (texts ss) i d) where
  pub line_passed : (e : Draft) (n : ℕ) → i < length ss → Entered (take i (texts ss)) n (get_or ss i no_text).now e (Ok tt) → Sofar (texts ss) (i + 1) e
  line_passed e n within h = line_taken (texts ss) i d sofar (rw (length_texts ss) within) e n (rw (text_at ss i within) h)

  module _ (text : List ℕ) (same : texts ss ≡ lines text) where
    pub line_refused : (e : Draft) (why : ReadError) → i < length ss → Entered (take i (texts ss)) (i + 1) (get_or ss i no_text).now e (Err why) → Read text (Err why)
    line_refused e Memory within h = tt
    line_refused e (Line l) within h =
        ap read_lines (sym same) ∙ line_at_fault (texts ss) i d sofar (rw (length_texts ss) within) l.number l.fault h.0 (rw (text_at ss i within) h.1)

    read_all : (n : ℕ) (p : Result Page (ℕ × Fault)) → length ss ≤ i → n ≡ length ss → whole n (option_to_list d.cores) (option_to_list d.rule) (vec_items d.tasks) ≡ p → read_text text ≡ p
    read_all n p past count h =
        ap read_lines (sym same) ∙ all_lines (texts ss) i d sofar (rw (length_texts ss) past) ∙ ap (λ m. whole m (option_to_list d.cores) (option_to_list d.rule) (vec_items d.tasks)) (length_texts ss ∙ sym count) ∙ h

    pub lines_read : (n : ℕ) (s : Sheet) → length ss ≤ i → n ≡ length ss → Finished n d (Ok s) → Read text (Ok s)
    lines_read n s past count h = let e = read_all n (Ok (page_of s)) past count h in (e, says text (page_of s) e)

    pub lines_short : (n : ℕ) (l : LineFault) → length ss ≤ i → n ≡ length ss → Finished n d (Err l) → Read text (Err (Line l))
    lines_short n l past count h = read_all n (Err (l.number, l.fault)) past count h

-- What a plan promises. Assumes nothing.
use Rattle.std.proofs.Common.{◌≡◌, ℕ, ◌≤◌, List, [], ◌∷◌, ◌++◌, Some, None, Ok, Err, Option, sym, refl, ap, ◌∙◌, subst}
use Rattle.std.proofs.lemmas.List.{append-nil, map-append}
use Rattle.planning.specs.declared.refusal.Refusal.{Refusal}
use Rattle.planning.specs.declared.refusal.Refusal.TheVariants.{NoBound}
use Rattle.analysis.specs.declared.task.Task.{Task}
use Rattle.analysis.specs.declared.task.BoundedTask.{BoundedTask}
use Rattle.analysis.specs.Interference.{level_of}
use Rattle.analysis.specs.Kept.{Kept}
use Rattle.rules.specs.Bounds.{Rebound, Rebounded, Bounded, Lacking, rebound, tasks_of}
use Rattle.rules.specs.Rules.{Rule, LawfulRule}
use Rattle.rules.proofs.Rebounds.{rebounded, rebound_keeps}
use Rattle.schedule.proofs.Sound.{punctual_from}
use Rattle.planning.specs.declared.verdict.Row.{Row}
use Rattle.planning.specs.Admission.{first_fault, by_level}
use Rattle.planning.specs.Plans.{all_at_deadline, rows_after, verdict_after}
use Rattle.plans.specs.Plans.{rows_from, verdict_on}
use Rattle.plans.specs.Promises.{Promised, Accepting, Unbounded, shown}
use Rattle.plans.proofs.Verdicts.{first_fault_kind, refused_not_accepted, same_refused}
use Rattle.plans.proofs.Walks.{walk_from}

-- the rows show the tasks they were made from
shown_rows : (r : Rule) (m : ℕ) (above is : List BoundedTask) → shown (rows_from r m above is) ≡ is
shown_rows r m above [] = refl
shown_rows r m above (i ∷ is) = ap (λ js. i ∷ js) (shown_rows r m (above ++ i ∷ []) is)

pub tasks_deadline : (ks : List Task) → tasks_of (all_at_deadline ks) ≡ ks
tasks_deadline [] = refl
tasks_deadline (k ∷ ks) = ap (λ js. k ∷ js) (tasks_deadline ks)

module _ (r : Rule) (law : LawfulRule r) (m : ℕ) (low : 1 ≤ m) (high : m ≤ 8) (tasks : List Task) where
  abbrev found : Rebound
  found = rebound r m [] (all_at_deadline (by_level tasks))

  abbrev table : List Row
  table = rows_from r m [] found.done

  facts : Rebounded r m [] (all_at_deadline (by_level tasks)) found
  facts = rebounded r m [] (all_at_deadline (by_level tasks))

  -- the tasks that have a bound and those that are left are all tasks, most urgent first
  all_tasks : tasks_of found.done ++ tasks_of found.left ≡ by_level tasks
  all_tasks =
      ap (λ is. tasks_of is ++ tasks_of found.left) facts.done_is
      ∙ sym (map-append (λ i. i.task) facts.fresh found.left)
      ∙ facts.same_tasks
      ∙ tasks_deadline (by_level tasks)

  same_rows : shown table ≡ found.done
  same_rows = shown_rows r m [] found.done

  accepting : first_fault [] tasks ≡ None → found.left ≡ [] → Accepting m tasks table
  accepting f e =
      let kept = rebound_keeps r m law [] (all_at_deadline (by_level tasks)) (walk_from m low high tasks f) tt e in
      let shows = subst (Kept m []) (sym same_rows) kept in
      record {
        all = ap tasks_of same_rows ∙ sym (append-nil (tasks_of found.done)) ∙ ap (λ is. tasks_of found.done ++ tasks_of is) (sym e) ∙ all_tasks;
        kept = shows;
        punctual = punctual_from m (shown table) shows;
      }

  unbounded : (i : BoundedTask) (is : List BoundedTask) (l : ℕ) → found.left ≡ i ∷ is → level_of i ≡ l → Unbounded r m tasks table l
  unbounded i is l e at =
      record {
        task = i.task;
        below = tasks_of is;
        split = sym all_tasks ∙ (λ j. tasks_of (sym same_rows j) ++ tasks_of (e j));
        at_level = at;
        none = subst (λ above. Lacking r m above (i ∷ is)) (sym same_rows) (subst (Lacking r m found.done) e facts.lacking);
      }

  promised_sorted : first_fault [] tasks ≡ None → Promised r m tasks table (verdict_on found.left)
  promised_sorted f =
      record {
        least = subst (Bounded r m []) (sym (same_rows ∙ facts.done_is)) facts.bounded;
        accepts = λ v. accepting f (none_left found.left v);
        refuses = λ l v. some_left l found.left refl v;
      }
    where
      none_left : (is : List BoundedTask) → verdict_on is ≡ Ok tt → is ≡ []
      none_left [] v = refl
      none_left (i ∷ is) v = absurd (refused_not_accepted _ v)

      some_left : (l : ℕ) (is : List BoundedTask) → found.left ≡ is → verdict_on is ≡ Err (NoBound l) → Unbounded r m tasks table l
      some_left l [] e v = absurd (refused_not_accepted _ (sym v))
      some_left l (i ∷ is) e v = unbounded i is l e (same_refused _ _ v)

  -- rows and verdict of a plan
  pub plan_promised : Promised r m tasks (rows_after (first_fault [] tasks) table) (verdict_after (first_fault [] tasks) (verdict_on found.left))
  plan_promised = split (first_fault [] tasks) refl
    where
      split : (o : Option Refusal) → first_fault [] tasks ≡ o → Promised r m tasks (rows_after o table) (verdict_after o (verdict_on found.left))
      split None f = promised_sorted f
      split (Some q) f =
          record {
            least = tt;
            accepts = λ v. absurd (refused_not_accepted q v);
            refuses = λ l v. let g : q ≡ NoBound l = cc in absurd (first_fault_kind [] tasks l (f ∙ ap Some g));
          }

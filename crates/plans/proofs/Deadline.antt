-- By the deadline rule the rows and the verdict of a plan are those of the check by the published test. Assumes nothing.
use Rattle.std.proofs.Common.{◌≡◌, ℕ, ◌+◌, ◌-◌, Bool, cond, List, [], ◌∷◌, ◌++◌, Some, None, Result, sym, refl, ap, subst, ◌∙◌, arith}
use Rattle.std.proofs.lemmas.List.{append_assoc, append-nil}
use Rattle.planning.specs.declared.refusal.Refusal.{Refusal}
use Rattle.planning.specs.declared.verdict.Row.{Row}
use Rattle.planning.specs.Admission.{first_fault, by_level}
use Rattle.planning.specs.Plans as tested
use Rattle.planning.specs.Plans.{at_deadline, all_at_deadline, rows_after, verdict_after, core_count}
use Rattle.planning.specs.Published.{Judged}
use Rattle.plans.proofs.Verdicts.{verdict_judged}
use Rattle.analysis.specs.declared.task.Task.{Task}
use Rattle.analysis.specs.declared.task.BoundedTask.{BoundedTask}
use Rattle.rules.specs.Bounds.{rebound, tasks_of}
use Rattle.rules.specs.Rules.{Rule, deadline}
use Rattle.rules.specs.Search.{least, bound_of, passes_by}
use Rattle.rules.proofs.Rebounds.{rebound_some, rebound_none}
use Rattle.plans.specs.Plans.{row_of, rows_from, verdict_on, plan_rows, plan_verdict}
use Rattle.plans.proofs.Plans.{tasks_deadline}

-- a row for one task more
pub rows_push : (r : Rule) (m : ℕ) (above is : List BoundedTask) (i : BoundedTask) → rows_from r m above (is ++ i ∷ []) ≡ rows_from r m above is ++ row_of r m (above ++ is) i ∷ []
rows_push r m above [] i = ap (λ a. row_of r m a i ∷ []) (sym (append-nil above))
rows_push r m above (j ∷ is) i =
    ap (λ rs. row_of r m above j ∷ rs) (rows_push r m (above ++ j ∷ []) is i)
    ∙ ap (λ a. row_of r m above j ∷ rows_from r m (above ++ j ∷ []) is ++ row_of r m a i ∷ []) (append_assoc above (j ∷ []) is)

module _ (m : ℕ) where
  -- the deadline is the one window that the deadline rule looks at
  abbrev passing : List BoundedTask → Task → Bool
  passing above k = passes_by deadline k above m k.deadline

  -- every task of a set at its deadline
  abbrev reset : List BoundedTask → List BoundedTask
  reset is = all_at_deadline (tasks_of is)

  bound_is : (above : List BoundedTask) (k : Task) → bound_of deadline k above m ≡ cond (passing above k) (Some k.deadline) None
  unfolding least
  bound_is above k = let one : k.deadline + 1 - k.deadline ≡ 1 = omega arith in rw one refl

  -- the verdict goes by the first task that does not pass at its deadline
  verdict_behind : (above is : List BoundedTask) → verdict_on (rebound deadline m above is).left ≡ tested.verdict_from m above (reset is)
  unfolding rebound
  verdict_behind above [] = refl
  verdict_behind above (i ∷ is) =
      let h = verdict_behind (above ++ at_deadline i.task ∷ []) is in
      let b = bound_is above i.task in
      let some = rebound_some deadline m above i is i.task.deadline in
      let none = rebound_none deadline m above i is in
      grind arith

  -- and so do the rows, behind those of the tasks above
  rows_behind : (above is : List BoundedTask) → rows_from deadline m [] (rebound deadline m above is).done ≡ rows_from deadline m [] above ++ tested.rows_from m above (reset is)
  unfolding rebound
  rows_behind above [] = sym (append-nil (rows_from deadline m [] above))
  rows_behind above (i ∷ is) =
      let h = rows_behind (above ++ at_deadline i.task ∷ []) is in
      let b = bound_is above i.task in
      let some = rebound_some deadline m above i is i.task.deadline in
      let none = rebound_none deadline m above i is in
      let more = rows_push deadline m [] above (at_deadline i.task) in
      let front = append_assoc (rows_from deadline m [] above) (row_of deadline m above (at_deadline i.task) ∷ []) in
      let end = append-nil (rows_from deadline m [] above) in
      grind arith

-- rows and verdict on a set, by a rule that is the deadline rule
module _ (r : Rule) (m : ℕ) (set : List BoundedTask) (d : r ≡ deadline) where
  pub rows_tested : (rows : List Row) → rows ≡ rows_from r m [] (rebound r m [] set).done → rows ≡ tested.rows_from m [] (all_at_deadline (tasks_of set))
  rows_tested rows e = e ∙ ap (λ q. rows_from q m [] (rebound q m [] set).done) d ∙ rows_behind m [] set

  pub verdict_tested : (v : Result (Unit {0}) Refusal) → v ≡ verdict_on (rebound r m [] set).left → v ≡ tested.verdict_from m [] (all_at_deadline (tasks_of set))
  verdict_tested v e = e ∙ ap (λ q. verdict_on (rebound q m [] set).left) d ∙ verdict_behind m [] set

-- rows and verdict of a plan
module _ (r : Rule) (n : ℕ) (tasks : List Task) (d : r ≡ deadline) where
  abbrev sorted : List BoundedTask
  sorted = all_at_deadline (by_level tasks)

  same_set : all_at_deadline (tasks_of sorted) ≡ sorted
  same_set = ap all_at_deadline (tasks_deadline (by_level tasks))

  pub plan_rows_tested : plan_rows r n tasks ≡ tested.plan_rows n tasks
  plan_rows_tested =
      ap (rows_after (first_fault [] tasks)) (rows_tested r (core_count n) sorted d _ refl ∙ ap (tested.rows_from (core_count n) []) same_set)

  pub plan_verdict_tested : plan_verdict r n tasks ≡ tested.plan_verdict n tasks
  plan_verdict_tested =
      ap (verdict_after (first_fault [] tasks)) (verdict_tested r (core_count n) sorted d _ refl ∙ ap (tested.verdict_from (core_count n) []) same_set)

  -- so the verdict is that of the published test
  pub plan_judged : Judged (core_count n) tasks (plan_verdict r n tasks)
  plan_judged = subst (Judged (core_count n) tasks) (sym plan_verdict_tested) (verdict_judged (core_count n) (omega arith) (omega arith) tasks)

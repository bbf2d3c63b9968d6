-- One turn of the check of a set, and how it ends. Assumes nothing.
use Rattle.std.proofs.Common.{◌≡◌, ℕ, ◌+◌, ◌<◌, ◌≤◌, List, [], ◌∷◌, ◌++◌, length, get_or, take, drop, set, None, Ok, Err, sym, ap, ◌∙◌}
use Rattle.std.proofs.lemmas.List.{take_more_set, take_all}
use Rattle.planning.specs.declared.refusal.Refusal.TheVariants.{NoBound}
use Rattle.analysis.specs.declared.task.BoundedTask.{BoundedTask}
use Rattle.analysis.specs.Interference.{level_of}
use Rattle.rules.specs.Bounds.{Rebound, rebound, with_bound}
use Rattle.rules.specs.Rules.{Rule}
use Rattle.rules.specs.Search.{bound_of}
use Rattle.rules.proofs.Rebounds.{rebound_stopped, rebound_ended}
use Rattle.plans.specs.Plans.{row_of, rows_from, verdict_on}
use Rattle.plans.proofs.Deadline.{rows_push}

module _ (r : Rule) (m : ℕ) where
  module _ (set₀ : List BoundedTask) (place : ℕ) (d : BoundedTask) (inside : place < length set₀) where
    abbrev here : BoundedTask
    here = get_or set₀ place d

    -- a task with a bound has a row more
    pub rows_turn : (x : ℕ) → rows_from r m [] (take (place + 1) (set set₀ place (with_bound here x))) ≡ rows_from r m [] (take place set₀) ++ row_of r m (take place set₀) (with_bound here x) ∷ []
    rows_turn x =
        ap (rows_from r m []) (take_more_set set₀ place (with_bound here x) inside)
        ∙ rows_push r m [] (take place set₀) (with_bound here x)

    -- one without is refused, and the tasks above it are done
    pub turn_refused :
        (o : Rebound) →
        o ≡ rebound r m (take place set₀) (drop place set₀) →
        bound_of r here.task (take place set₀) m ≡ None →
        (take place set₀ ≡ o.done) × (Err (NoBound (level_of here)) ≡ verdict_on o.left)
    turn_refused o e none =
        let f = rebound_stopped r m set₀ place d inside o e none in
        (sym (ap (λ q. q.done) f), sym (ap (λ q. verdict_on q.left) f))

  -- all are done, and none is left
  pub turns_done :
      (o : Rebound) (set₀ : List BoundedTask) (place : ℕ) →
      length set₀ ≤ place →
      o ≡ rebound r m (take place set₀) (drop place set₀) →
      (take place set₀ ≡ o.done) × (Ok tt ≡ verdict_on o.left)
  turns_done o set₀ place l e =
      let f = rebound_ended r m o set₀ place l e in
      (take_all place set₀ l ∙ sym (ap (λ q. q.done) f), sym (ap (λ q. verdict_on q.left) f))

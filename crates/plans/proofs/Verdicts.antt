-- The verdict on a whole set is that of the published test. Assumes nothing.
use Rattle.std.proofs.Common.{◌≡◌, ℕ, ◌-◌, ◌≤◌, Bool, true, false, cond, List, [], ◌∷◌, ◌++◌, length, Some, None, Ok, Err, Option, Result, sym, refl, ap, ◌∙◌, subst, arith}
use Rattle.std.proofs.lemmas.List.{append_assoc, append-nil, map-append}
use Rattle.std.proofs.lemmas.Bool.{cond-true, cond-false, and_from, le-leb}
use Rattle.planning.specs.declared.refusal.Refusal.{Refusal}
use Rattle.planning.specs.declared.refusal.Refusal.TheVariants.{NoBound}
use Rattle.analysis.specs.declared.task.Task.{Task}
use Rattle.planning.specs.Admission.{task_fault, or_else, first_fault, by_level}
use Rattle.planning.specs.Plans.{at_deadline, all_at_deadline, row_passes, verdict_from, verdict_after}
use Rattle.planning.specs.Published.{chosen, load, limit, EachSatisfies, Judged}
use Rattle.plans.proofs.Test.{passes_satisfies, satisfies_passes, reached, fails_breaks}
use Rattle.analysis.specs.Tasks.{bound_fits}
use Rattle.analysis.proofs.Facts.{limits_from}
use Rattle.rules.proofs.Walks.{Walk, walk_more}
use Rattle.plans.proofs.Walks.{walk_from}

-- the most urgent task of ks that breaks the test, `seen` being the tasks before them
pub record BrokenFrom (m : ℕ) (seen ks : List Task) (level : ℕ) : Type 0 where
  pub above : List Task
  pub task : Task
  pub below : List Task
  pub split : ks ≡ above ++ task ∷ below
  pub at_level : task.level ≡ level
  pub above_satisfy : EachSatisfies m seen above
  pub choice : ℕ → Bool
  pub few : length (chosen choice (seen ++ above)) ≤ m - 1
  pub breaks : limit m task ≤ load task (seen ++ above) choice

pub refused_not_accepted : (r : Refusal) → ◌≡◌ {A = Result (Unit {0}) Refusal} (Err r) (Ok tt) → ⊥
refused_not_accepted r e = let z : ◌≡◌ {A = ℕ} 0 1 = cc in omega arith

pub same_refused : (a b : ℕ) → ◌≡◌ {A = Result (Unit {0}) Refusal} (Err (NoBound a)) (Err (NoBound b)) → a ≡ b
same_refused a b e = cc

module _ (m : ℕ) where
  abbrev verdict : List Task → List Task → Result (Unit {0}) Refusal
  verdict seen ks = verdict_from m (all_at_deadline seen) (all_at_deadline ks)

  -- the verdict goes by the first task
  verdict_step : (seen : List Task) (k : Task) (ks : List Task) → verdict seen (k ∷ ks) ≡ cond (row_passes m (all_at_deadline seen) (at_deadline k)) (verdict (seen ++ k ∷ []) ks) (Err (NoBound k.level))
  verdict_step seen k ks =
      ap (λ s. cond (row_passes m (all_at_deadline seen) (at_deadline k)) (verdict_from m s (all_at_deadline ks)) (Err (NoBound k.level))) (sym (map-append at_deadline seen (k ∷ [])))

  -- the walk goes on behind the first task
  next_walk : (seen : List Task) (k : Task) (ks : List Task) → Walk m (all_at_deadline seen) (all_at_deadline (k ∷ ks)) → Walk m (all_at_deadline (seen ++ k ∷ [])) (all_at_deadline ks)
  next_walk seen k ks w =
      let l = limits_from k w.fit.0 in
      let b : bound_fits (at_deadline k) ≡ true = and_from _ _ w.fit.0 (and_from _ _ (le-leb _ _ l.run) (le-leb k.deadline k.deadline (omega arith))) in
      subst (λ s. Walk m s (all_at_deadline ks)) (sym (map-append at_deadline seen (k ∷ []))) (walk_more m (all_at_deadline seen) (at_deadline k) (at_deadline k) (all_at_deadline ks) refl b w)

  accepts_all : (seen ks : List Task) → Walk m (all_at_deadline seen) (all_at_deadline ks) → verdict seen ks ≡ Ok tt → EachSatisfies m seen ks
  accepts_all seen [] w e = tt
  accepts_all seen (k ∷ ks) w e =
      split (row_passes m (all_at_deadline seen) (at_deadline k)) refl (λ h. accepts_all (seen ++ k ∷ []) ks (next_walk seen k ks w) h)
    where
      split : (t : Bool) → row_passes m (all_at_deadline seen) (at_deadline k) ≡ t → (verdict (seen ++ k ∷ []) ks ≡ Ok tt → EachSatisfies m (seen ++ k ∷ []) ks) → EachSatisfies m seen (k ∷ ks)
      split true p h = (passes_satisfies m seen k ks w p, h (sym (verdict_step seen k ks ∙ cond-true _ _ _ p) ∙ e))
      split false p h = absurd (refused_not_accepted _ (sym (verdict_step seen k ks ∙ cond-false _ _ _ p) ∙ e))

  all_accepted : (seen ks : List Task) → Walk m (all_at_deadline seen) (all_at_deadline ks) → EachSatisfies m seen ks → verdict seen ks ≡ Ok tt
  all_accepted seen [] w s = refl
  all_accepted seen (k ∷ ks) w s =
      verdict_step seen k ks
      ∙ cond-true _ _ _ (satisfies_passes m seen k ks w s.0)
      ∙ all_accepted (seen ++ k ∷ []) ks (next_walk seen k ks w) s.1

  broken_here : (seen : List Task) (k : Task) (ks : List Task) (l : ℕ) → Walk m (all_at_deadline seen) (all_at_deadline (k ∷ ks)) → row_passes m (all_at_deadline seen) (at_deadline k) ≡ false → k.level ≡ l → BrokenFrom m seen (k ∷ ks) l
  broken_here seen k ks l w p e =
      let r = reached m seen k ks w in
      let same = sym (append-nil seen) in
      record {
        above = [];
        task = k;
        below = ks;
        split = refl;
        at_level = e;
        above_satisfy = tt;
        choice = r.choice;
        few = subst (λ s. length (chosen r.choice s) ≤ m - 1) same r.few;
        breaks = subst (λ s. limit m k ≤ load k s r.choice) same (fails_breaks m seen k ks w p);
      }

  broken_later : (seen : List Task) (k : Task) (ks : List Task) (l : ℕ) → Walk m (all_at_deadline seen) (all_at_deadline (k ∷ ks)) → row_passes m (all_at_deadline seen) (at_deadline k) ≡ true → BrokenFrom m (seen ++ k ∷ []) ks l → BrokenFrom m seen (k ∷ ks) l
  broken_later seen k ks l w p b =
      let same = append_assoc seen (k ∷ []) b.above in
      record {
        above = k ∷ b.above;
        task = b.task;
        below = b.below;
        split = ap (λ s. k ∷ s) b.split;
        at_level = b.at_level;
        above_satisfy = (passes_satisfies m seen k ks w p, b.above_satisfy);
        choice = b.choice;
        few = subst (λ s. length (chosen b.choice s) ≤ m - 1) same b.few;
        breaks = subst (λ s. limit m b.task ≤ load b.task s b.choice) same b.breaks;
      }

  refuses_first : (seen ks : List Task) (l : ℕ) → Walk m (all_at_deadline seen) (all_at_deadline ks) → verdict seen ks ≡ Err (NoBound l) → BrokenFrom m seen ks l
  refuses_first seen [] l w e = absurd (refused_not_accepted _ (sym e))
  refuses_first seen (k ∷ ks) l w e =
      split (row_passes m (all_at_deadline seen) (at_deadline k)) refl (λ h. refuses_first (seen ++ k ∷ []) ks l (next_walk seen k ks w) h)
    where
      split : (t : Bool) → row_passes m (all_at_deadline seen) (at_deadline k) ≡ t → (verdict (seen ++ k ∷ []) ks ≡ Err (NoBound l) → BrokenFrom m (seen ++ k ∷ []) ks l) → BrokenFrom m seen (k ∷ ks) l
      split true p h = broken_later seen k ks l w p (h (sym (verdict_step seen k ks ∙ cond-true _ _ _ p) ∙ e))
      split false p h = broken_here seen k ks l w p (same_refused _ _ (sym (verdict_step seen k ks ∙ cond-false _ _ _ p) ∙ e))

  -- a set without fault
  judged_sorted : 1 ≤ m → m ≤ 8 → (tasks : List Task) → first_fault [] tasks ≡ None → Judged m tasks (verdict [] (by_level tasks))
  judged_sorted low high tasks f =
      let w = walk_from m low high tasks f in
      record {
        accepts = λ e. (f, accepts_all [] (by_level tasks) w e);
        accepted = λ s. all_accepted [] (by_level tasks) w s.1;
        refuses = λ l e.
            let b = refuses_first [] (by_level tasks) l w e in
            record {
              above = b.above;
              task = b.task;
              below = b.below;
              split = b.split;
              at_level = b.at_level;
              above_satisfy = b.above_satisfy;
              choice = b.choice;
              few = b.few;
              breaks = b.breaks;
            };
      }

-- a fault of the list is never the want of a bound
fault_kind : (before : List Task) (k : Task) (l : ℕ) → task_fault before k ≡ Some (NoBound l) → ⊥
fault_kind before k l e = grind arith

pub first_fault_kind : (before ks : List Task) (l : ℕ) → first_fault before ks ≡ Some (NoBound l) → ⊥
first_fault_kind before [] l e = let z : ◌≡◌ {A = ℕ} 0 1 = cc in omega arith
first_fault_kind before (k ∷ ks) l e = split (task_fault before k) refl (λ h. first_fault_kind (before ++ k ∷ []) ks l h)
  where
    split : (o : Option Refusal) → task_fault before k ≡ o → (first_fault (before ++ k ∷ []) ks ≡ Some (NoBound l) → ⊥) → ⊥
    split None p h = h (ap (λ o. or_else o (first_fault (before ++ k ∷ []) ks)) (sym p) ∙ e)
    split (Some r) p h = fault_kind before k l (p ∙ ap (λ o. or_else o (first_fault (before ++ k ∷ []) ks)) (sym p) ∙ e)

-- the verdict of a plan
pub verdict_judged : (m : ℕ) → 1 ≤ m → m ≤ 8 → (tasks : List Task) → Judged m tasks (verdict_after (first_fault [] tasks) (verdict_from m [] (all_at_deadline (by_level tasks))))
verdict_judged m low high tasks = split (first_fault [] tasks) refl
  where
    split : (o : Option Refusal) → first_fault [] tasks ≡ o → Judged m tasks (verdict_after o (verdict_from m [] (all_at_deadline (by_level tasks))))
    split None f = judged_sorted m low high tasks f
    split (Some r) f =
        record {
          accepts = λ e. absurd (refused_not_accepted r e);
          accepted = λ s. let g = s.0 in let z : ◌≡◌ {A = ℕ} 0 1 = cc in absurd (omega arith);
          refuses = λ l e. let g : r ≡ NoBound l = cc in absurd (first_fault_kind [] tasks l (f ∙ ap Some g));
        }

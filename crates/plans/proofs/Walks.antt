-- A list of tasks without fault, sorted, as tasks with bounds: the walk of the counting rules. Assumes nothing.
use Rattle.std.proofs.Common.{◌≡◌, ℕ, ◌+◌, ◌<◌, ◌≤◌, Bool, true, false, cond, not, ◌&&◌, ◌||◌, eqb, List, [], ◌∷◌, ◌++◌, length, Some, None, Option, refl, ap, ◌∙◌, arith}
use Rattle.queues.proofs.Laws.{length_sort}
use Rattle.queues.specs.Sets.{insert}
use Rattle.std.proofs.ByRecursion.{All-weaker}
use Rattle.std.proofs.lemmas.List.{length-map, length_push}
use Rattle.std.proofs.lemmas.Bool.{and_from, and_parts, or_parts, or_from, not-true, not_from_false, ltb-true, ltb-false, eqb-false}
use Rattle.std.proofs.lemmas.Bool.Decides.{nat_tests}
use Rattle.std.specs.List.{AllByRecursion}
use Rattle.analysis.specs.declared.task.Task.{Task}
use Rattle.analysis.specs.declared.task.BoundedTask.{BoundedTask}
use Rattle.planning.specs.Admission.{task_level, task_fault, or_else, first_fault, more_urgent, by_level}
use Rattle.analysis.specs.Interference.{taken, distinct, level_of}
use Rattle.planning.specs.Plans.{at_deadline, all_at_deadline}
use Rattle.analysis.specs.Tasks.{within_limits}
use Rattle.planning.proofs.Urgency.{faultless_from, taken_sort}
use Rattle.rules.proofs.Walks as rules

abbrev pub Fits : Task → Type 0
Fits k = within_limits k ≡ true

-- each comes after level l
abbrev pub After : ℕ → List Task → Type 0
After l ks = AllByRecursion (λ k. l < k.level) ks

abbrev pub Rising : List Task → Type 0
Rising [] = Unit {0}
Rising (k ∷ ks) = After k.level ks × Rising ks

taken_deadline : (l : ℕ) (ks : List Task) → taken level_of l (all_at_deadline ks) ≡ taken task_level l ks
taken_deadline l [] = refl
taken_deadline l (k ∷ ks) = ap (λ t. eqb k.level l || t) (taken_deadline l ks)

pub distinct_deadline : (ks : List Task) → distinct level_of (all_at_deadline ks) ≡ distinct task_level ks
distinct_deadline [] = refl
distinct_deadline (k ∷ ks) = (λ j. not (taken_deadline k.level ks j) && distinct_deadline ks j)

-- what it says that no task is at fault
pub record Sound (before ks : List Task) : Type 0 where
  pub fit : AllByRecursion Fits ks
  pub apart : distinct task_level ks ≡ true
  pub fresh : AllByRecursion (λ k. taken task_level k.level before ≡ false) ks
  pub few : length before ≤ 32 → length before + length ks ≤ 32

or_else_none : {A : Type 0} (o p : Option A) → or_else o p ≡ None → (o ≡ None) × (p ≡ None)
or_else_none None p e = (refl, e)
or_else_none (Some x) p e = let z : ◌≡◌ {A = ℕ} 0 1 = cc in absurd (omega arith)

taken_push : (l : ℕ) (xs : List Task) (k : Task) → taken task_level l (xs ++ k ∷ []) ≡ false → (taken task_level l xs ≡ false) × (eqb k.level l ≡ false)
taken_push l [] k t = (refl, (or_parts (eqb k.level l) false t).0)
taken_push l (x ∷ xs) k t =
    let p = or_parts (eqb x.level l) (taken task_level l (xs ++ k ∷ [])) t in
    let q = taken_push l xs k p.1 in
    (or_from _ _ p.0 q.0, q.1)

not_taken : (k : Task) (ks : List Task) → AllByRecursion (λ j. eqb k.level j.level ≡ false) ks → taken task_level k.level ks ≡ false
not_taken k [] a = refl
not_taken k (j ∷ ks) a = let p = a.0 in or_from (eqb j.level k.level) _ (grind (arith, nat_tests)) (not_taken k ks a.1)

pub sound_from : (before ks : List Task) → first_fault before ks ≡ None → Sound before ks
sound_from before [] e = record { fit = tt; apart = refl; fresh = tt; few = λ h. omega arith }
sound_from before (k ∷ ks) e =
    let p = or_else_none (task_fault before k) (first_fault (before ++ k ∷ []) ks) e in
    let f = faultless_from before k p.0 in
    let s = sound_from (before ++ k ∷ []) ks p.1 in
    record {
      fit = (f.limits, s.fit);
      apart = and_from _ _ (not_from_false _ (not_taken k ks (All-weaker _ (λ j. eqb k.level j.level ≡ false) (λ j t. (taken_push j.level before k t).1) ks s.fresh))) s.apart;
      fresh = (f.fresh_level, All-weaker (λ j. taken task_level j.level (before ++ k ∷ []) ≡ false) (λ j. taken task_level j.level before ≡ false) (λ j t. (taken_push j.level before k t).0) ks s.fresh);
      few = λ h. let r = f.room in let g = s.few (omega (arith, length_push before k)) in omega (arith, length_push before k);
    }

after_less : (l n : ℕ) (ks : List Task) → l < n → After n ks → After l ks
after_less l n ks h a = All-weaker (λ k. n < k.level) (λ k. l < k.level) (λ k p. omega arith) ks a

all_insert : (P : Task → Type 0) (k : Task) (s : List Task) → P k → AllByRecursion P s → AllByRecursion P (insert more_urgent k s)
all_insert P k [] p a = (p, tt)
all_insert P k (y ∷ s) p a = split (more_urgent y k) (all_insert P k s p a.1)
  where
    split : (t : Bool) → AllByRecursion P (insert more_urgent k s) → AllByRecursion P (cond t (y ∷ insert more_urgent k s) (k ∷ y ∷ s))
    split true h = (a.0, h)
    split false h = (p, a)

pub all_sort : (P : Task → Type 0) (ks : List Task) → AllByRecursion P ks → AllByRecursion P (by_level ks)
all_sort P [] a = tt
all_sort P (k ∷ ks) a = all_insert P k (by_level ks) a.0 (all_sort P ks a.1)

rising_insert : (k : Task) (s : List Task) → Rising s → taken task_level k.level s ≡ false → Rising (insert more_urgent k s)
rising_insert k [] r t = (tt, tt)
rising_insert k (y ∷ s) r t =
    let p = or_parts (eqb y.level k.level) (taken task_level k.level s) t in
    split (more_urgent y k) refl p.0 (rising_insert k s r.1 p.1)
  where
    split : (b : Bool) → more_urgent y k ≡ b → eqb y.level k.level ≡ false → Rising (insert more_urgent k s) → Rising (cond b (y ∷ insert more_urgent k s) (k ∷ y ∷ s))
    split true e n h = (all_insert (λ j. y.level < j.level) k s (ltb-true _ _ e) r.0, h)
    split false e n h =
        let q : k.level < y.level = let g = ltb-false y.level k.level e in let d = eqb-false y.level k.level n in omega arith in
        ((q, after_less k.level y.level s q r.0), r)

pub rising_sort : (ks : List Task) → distinct task_level ks ≡ true → Rising (by_level ks)
rising_sort [] d = tt
rising_sort (k ∷ ks) d =
    let p = and_parts (not (taken task_level k.level ks)) (distinct task_level ks) d in
    rising_insert k (by_level ks) (rising_sort ks p.1) (taken_sort k.level ks ∙ not-true _ p.0)

all_deadline : (P : BoundedTask → Type 0) (ks : List Task) → AllByRecursion (λ k. P (at_deadline k)) ks → AllByRecursion P (all_at_deadline ks)
all_deadline P [] a = tt
all_deadline P (k ∷ ks) a = (a.0, all_deadline P ks a.1)

rising_deadline : (ks : List Task) → Rising ks → rules.Rising (all_at_deadline ks)
rising_deadline [] r = tt
rising_deadline (k ∷ ks) r = (all_deadline (λ i. k.level < level_of i) ks r.0, rising_deadline ks r.1)

-- tasks without fault, sorted, can be walked through
pub walk_from : (m : ℕ) → 1 ≤ m → m ≤ 8 → (tasks : List Task) → first_fault [] tasks ≡ None → rules.Walk m [] (all_at_deadline (by_level tasks))
walk_from m low high tasks e =
    let s = sound_from [] tasks e in
    record {
      some_core = low;
      few_cores = high;
      seen_fit = tt;
      fit = all_deadline rules.Within (by_level tasks) (all_sort Fits tasks s.fit);
      apart = refl;
      order = tt;
      rising = rising_deadline (by_level tasks) (rising_sort tasks s.apart);
      few = let f = s.few (omega arith) in omega (arith, length-map (by_level tasks) at_deadline, length_sort more_urgent tasks);
    }

-- What the tests of limits tell. Assumes nothing.
use Rattle.std.proofs.Common.{◌≡◌, ℕ, ◌<◌, ◌≤◌, true, false, ◌&&◌, leb, refl, List, [], ◌∷◌, length, get_or}
use Rattle.std.proofs.lemmas.Bool.{and_parts, or_from, leb-true, ltb-true, ne_eqb}
use Rattle.std.specs.List.{AllByRecursion}
use Rattle.std.proofs.ByRecursion.{All-get_or, All-weaker}
use Rattle.analysis.specs.declared.task.Task.{Task}
use Rattle.analysis.specs.declared.task.BoundedTask.{BoundedTask}
use Rattle.analysis.proofs.Blank.{no_bounded}
use Rattle.analysis.specs.Tasks.{level_fits, timing_fits, within_limits, bound_fits}
use Rattle.analysis.specs.Interference.{above, all_above, taken, distinct, level_of, lawful, numbers_fit}

-- a task within its limits
pub record Limits (k : Task) : Type 0 where
  pub level : k.level ≤ 63
  pub some : 1 ≤ k.run
  pub run : k.run ≤ k.deadline
  pub deadline : k.deadline ≤ k.gap
  pub gap : k.gap ≤ 60000

-- a more urgent task that is within its limits
pub record Above (k : Task) (i : BoundedTask) : Type 0 where
  pub limits : Limits i.task
  pub low : i.task.run ≤ i.bound
  pub high : i.bound ≤ i.task.deadline
  pub urgent : level_of i < k.level

pub record LawfulCase (k : Task) (others : List BoundedTask) (m x : ℕ) : Type 0 where
  pub some_core : 1 ≤ m
  pub few_cores : m ≤ 8
  pub few : length others ≤ 31
  pub limits : Limits k
  pub low : k.run ≤ x
  pub high : x ≤ k.deadline
  pub each : AllByRecursion (Above k) others
  pub apart : distinct level_of others ≡ true

pub limits_from : (k : Task) → within_limits k ≡ true → Limits k
limits_from k e =
    let p = and_parts (level_fits k) (timing_fits k) e in
    let q = and_parts (leb 1 k.run) _ p.1 in
    let r = and_parts (leb k.run k.deadline) _ q.1 in
    let s = and_parts (leb k.deadline k.gap) _ r.1 in
    record {
      level = leb-true _ _ p.0;
      some = leb-true _ _ q.0;
      run = leb-true _ _ r.0;
      deadline = leb-true _ _ s.0;
      gap = leb-true _ _ s.1;
    }

pub above_from : (k : Task) (i : BoundedTask) → above k i ≡ true → Above k i
above_from k i e =
    let p = and_parts (bound_fits i) _ e in
    let q = and_parts (within_limits i.task) _ p.0 in
    let r = and_parts (leb i.task.run i.bound) _ q.1 in
    record {
      limits = limits_from i.task q.0;
      low = leb-true _ _ r.0;
      high = leb-true _ _ r.1;
      urgent = ltb-true _ _ p.1;
    }

pub each_from : (k : Task) (is : List BoundedTask) → all_above k is ≡ true → AllByRecursion (Above k) is
each_from k [] e = tt
each_from k (i ∷ is) e = let p = and_parts (above k i) (all_above k is) e in (above_from k i p.0, each_from k is p.1)

pub levels_small : (k : Task) (is : List BoundedTask) → all_above k is ≡ true → AllByRecursion (λ i. level_of i ≤ 63) is
levels_small k is e = All-weaker (Above k) (λ i. level_of i ≤ 63) (λ i a. a.limits.level) is (each_from k is e)

pub lawful_case : (k : Task) (others : List BoundedTask) (m x : ℕ) → lawful k others m x ≡ true → LawfulCase k others m x
unfolding lawful
lawful_case k others m x e =
    let p = and_parts (numbers_fit k (length others) m x) _ e in
    let q = and_parts (all_above k others) _ p.1 in
    let a = and_parts (leb 1 m && leb m 8) _ p.0 in
    let b = and_parts (leb 1 m) _ a.0 in
    let c = and_parts (leb (length others) 31) _ a.1 in
    let d = and_parts (within_limits k) _ c.1 in
    let f = and_parts (leb k.run x) _ d.1 in
    record {
      some_core = leb-true _ _ b.0;
      few_cores = leb-true _ _ b.1;
      few = leb-true _ _ c.0;
      limits = limits_from k d.0;
      low = leb-true _ _ f.0;
      high = leb-true _ _ f.1;
      each = each_from k others q.0;
      apart = q.1;
    }

pub level_at : (is : List BoundedTask) (i : ℕ) → i < length is → AllByRecursion (λ i. level_of i ≤ 63) is → level_of (get_or is i no_bounded) ≤ 63
level_at is i l a = All-get_or (λ i. level_of i ≤ 63) is i no_bounded l a

pub taken_none : (l : ℕ) (is : List BoundedTask) → AllByRecursion (λ i. level_of i ≡ l → ⊥) is → taken level_of l is ≡ false
taken_none l [] a = refl
taken_none l (i ∷ is) a = or_from _ _ (ne_eqb (level_of i) l a.0) (taken_none l is a.1)

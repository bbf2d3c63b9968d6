-- What the sums mean: laws of the amount and of the interference.
use Rattle.std.specs.Prelude.{◌≡◌, ℕ, ◌+◌, ◌-◌, ◌≤◌, Bool, true, List, length, sum_by, filter}
use Rattle.std.specs.List.Sorted.{IsPermutation}
use Rattle.std.specs.List.{AllByRecursion}
use Rattle.analysis.specs.declared.task.Task.{Task}
use Rattle.analysis.specs.declared.task.BoundedTask.{BoundedTask}
use Rattle.analysis.specs.Interference.{extra, interference, distinct, level_of}
use Rattle.analysis.specs.Work.{amount, plain, carried}

-- the amount in a window of y slots, for a run time c and a gap t
pub record AmountLaws (c t y : ℕ) : Type 0 where
  -- a longer window has no less
  pub monotone : (z : ℕ) → y ≤ z → amount c t y ≤ amount c t z
  -- one slot more has at most one more
  pub slow : c ≤ t → amount c t (y + 1) ≤ amount c t y + 1
  -- a whole gap more has one job more
  pub periodic : amount c t (y + t) ≡ amount c t y + c

-- the plain amounts of all, and the extras of those that are chosen to carry work in
abbrev pub load : Task → ℕ → List BoundedTask → (ℕ → Bool) → ℕ
load k x others S = sum_by (plain k x) others + sum_by (extra k x) (filter (λ i. S (level_of i)) others)

-- a choice of at most m - 1 of the others
abbrev pub Few : ℕ → List BoundedTask → (ℕ → Bool) → Type 0
Few m others S = length (filter (λ i. S (level_of i)) others) ≤ m - 1

-- a choice whose load is the interference
pub record Worst (k : Task) (others : List BoundedTask) (m x : ℕ) : Type 0 where
  pub choice : ℕ → Bool
  pub few : Few m others choice
  pub load_is : load k x others choice ≡ interference k others m x

-- the interference of the others in a window x of task k on m cores
pub record InterferenceLaws (k : Task) (others : List BoundedTask) (m x : ℕ) : Type 0 where
  -- no choice of at most m - 1 carried tasks has a larger load
  pub largest : (S : ℕ → Bool) → Few m others S → load k x others S ≤ interference k others m x
  -- and one reaches it
  pub reached : distinct level_of others ≡ true → Worst k others m x
  -- all tasks carried count for no less
  pub covered : AllByRecursion (λ i. plain k x i ≤ carried k x i) others → interference k others m x ≤ sum_by (carried k x) others
  -- the order of the list does not matter
  pub reordered : (same : List BoundedTask) → IsPermutation others same → interference k same m x ≡ interference k others m x

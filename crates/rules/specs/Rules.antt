-- Counting rules: what a rule answers, the laws that every rule keeps, and our three.
use Rattle.std.specs.Prelude.{◌≡◌, ℕ, ◌≤◌, true, cond, List, sum_by}
use Rattle.analysis.specs.declared.task.Task.{Task}
use Rattle.analysis.specs.declared.task.BoundedTask.{BoundedTask}
use Rattle.analysis.specs.Interference.{interference, lawful, total}
use Rattle.analysis.specs.Work.{carried}

-- the answers of a rule for a task, the more urgent tasks with their bounds, and the number of cores
pub record Rule : Type 0 where
  -- the window to begin with
  pub first : Task → List BoundedTask → ℕ → ℕ
  -- how much the more urgent tasks count for in a window
  pub total : Task → List BoundedTask → ℕ → ℕ → ℕ

-- the first window lies from C to D
abbrev pub Starts : Rule → Type 0
Starts r =
    (k : Task) (above : List BoundedTask) (m : ℕ) →
    lawful k above m k.deadline ≡ true →
    (k.run ≤ r.first k above m) × (r.first k above m ≤ k.deadline)

-- the total is at least the interference
abbrev pub Covers : Rule → Type 0
Covers r =
    (k : Task) (above : List BoundedTask) (m x : ℕ) →
    lawful k above m x ≡ true →
    interference k above m x ≤ r.total k above m x

-- the laws of a rule; they are for lawful arguments only
pub record LawfulRule (r : Rule) : Type 0 where
  pub starts : Starts r
  pub covers : Covers r

-- starts at C, and counts the interference
abbrev pub response : Rule
response = record { first = λ k above m. k.run; total = total }

-- starts at D, and counts the interference
abbrev pub deadline : Rule
deadline = record { first = λ k above m. k.deadline; total = total }

-- all carried amounts, added up
abbrev pub all_carried : Task → List BoundedTask → ℕ → ℕ
all_carried k above x = sum_by (carried k x) above

-- starts at D, and counts every task above as if it carried work in
abbrev pub all_carry : Rule
all_carry = record {
  first = λ k above m. k.deadline;
  total = λ k above m x. cond (lawful k above m x) (all_carried k above x) 4294967295;
}

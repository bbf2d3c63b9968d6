-- The extras of a window as items of a queue, and when they can be counted with no sum too large.
use Rattle.std.specs.Prelude.{◌≡◌, ℕ, ◌≤◌, true, List, map, length, sum_by}
use Rattle.std.specs.List.{AllByRecursion}
use Rattle.queues.specs.Items.{extra_at}
use Rattle.queues.specs.declared.extra.Extra.{Extra}
use Rattle.analysis.specs.declared.task.Task.{Task}
use Rattle.analysis.specs.declared.task.BoundedTask.{BoundedTask}
use Rattle.analysis.specs.Interference.{extra, distinct, level_of}
use Rattle.analysis.specs.Work.{cap}

-- each extra with its task's level
abbrev pub extras : Task → ℕ → List BoundedTask → List Extra
extras k x others = map (λ i. extra_at (extra k x i) (level_of i)) others

abbrev pub amounts : List Extra → ℕ
amounts es = sum_by (λ e. e.amount) es

pub record Countable (k : Task) (x : ℕ) (others : List BoundedTask) : Type 0 where
  pub few : length others ≤ 31
  pub small : cap k x ≤ 60000
  pub levels : AllByRecursion (λ i. level_of i ≤ 63) others
  pub apart : distinct level_of others ≡ true

-- How much more urgent tasks can keep a job waiting, and when a window passes.
use Rattle.std.specs.Prelude.{ℕ, ◌+◌, ◌-◌, ◌/◌, Bool, true, cond, not, ◌&&◌, List, [], ◌∷◌, map, length, take, sum_by, sum, ◌==◌, nat_le, nat_lt}
use Rattle.std.specs.List.{list_any, list_all}
use Rattle.queues.specs.Sets.{sort}
use Rattle.analysis.specs.declared.task.Task.{Task}
use Rattle.analysis.specs.declared.task.BoundedTask.{BoundedTask}
use Rattle.analysis.specs.Tasks.{within_limits, bound_fits}
use Rattle.analysis.specs.Work.{plain, carried}

abbrev pub larger : ℕ → ℕ → Bool
larger a b = nat_lt b a

-- the n largest of some numbers, added up; all where there are fewer
unfoldable pub sum_largest : ℕ → List ℕ → ℕ
sum_largest n xs = sum (take n (sort larger xs))

-- what task i adds to a window x of task k by carrying work in
abbrev pub extra : Task → ℕ → BoundedTask → ℕ
extra k x i = carried k x i - plain k x i

-- all plain amounts and the m - 1 largest extras: before the window at most m - 1 cores were busy with more urgent tasks
unfoldable pub interference : Task → List BoundedTask → ℕ → ℕ → ℕ
interference k others m x = sum_by (plain k x) others + sum_largest (m - 1) (map (extra k x) others)

-- the window x of task k on m cores passes with a total
abbrev pub passes : Task → ℕ → ℕ → ℕ → Bool
passes k m x total = nat_le (total / m + k.run) x

abbrev pub level_of : BoundedTask → ℕ
level_of i = i.task.level

module _ {X : Type 0} (level : X → ℕ) where
  -- a task of the list has level l
  abbrev pub taken : ℕ → List X → Bool
  taken l is = list_any (λ i. level i == l) is

  -- no two share a level
  abbrev pub distinct : List X → Bool
  distinct [] = true
  distinct (i ∷ is) = not (taken (level i) is) && distinct is

-- within its limits and more urgent than k
abbrev pub above : Task → BoundedTask → Bool
above k i = bound_fits i && nat_lt (level_of i) k.level

abbrev pub all_above : Task → List BoundedTask → Bool
all_above k is = list_all (above k) is

-- 1 to 8 cores, at most 31 others, k within its limits, C ≤ x ≤ D
abbrev pub numbers_fit : Task → ℕ → ℕ → ℕ → Bool
numbers_fit k count m x =
    (nat_le 1 m && nat_le m 8) && (nat_le count 31 && (within_limits k && (nat_le k.run x && nat_le x k.deadline)))

-- the cases in which a total is worked out: the others also are within their limits and more urgent than k, and no two
-- share a level
unfoldable pub lawful : Task → List BoundedTask → ℕ → ℕ → Bool
lawful k others m x = numbers_fit k (length others) m x && (all_above k others && distinct level_of others)

-- the rule's total: elsewhere it is as large as 32 bits hold
abbrev pub total : Task → List BoundedTask → ℕ → ℕ → ℕ
total k others m x = cond (lawful k others m x) (interference k others m x) 4294967295

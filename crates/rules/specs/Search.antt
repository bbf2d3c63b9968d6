-- The bound of a task: the least window, from the rule's first up to the deadline, that passes with the rule's total.
use Rattle.std.specs.Prelude.{◌≡◌, ℕ, zero, suc, ◌+◌, ◌-◌, ◌<◌, ◌≤◌, Bool, true, false, cond, List, Some, None, Option, option_map}
use Rattle.analysis.specs.declared.task.Task.{Task}
use Rattle.analysis.specs.declared.task.BoundedTask.{BoundedTask}
use Rattle.analysis.specs.Interference.{passes}
use Rattle.rules.specs.declared.passing.Passing.{Passing}
use Rattle.rules.specs.Rules.{Rule}

-- the least of the n numbers from x on for which p holds
unfoldable pub least : (ℕ → Bool) → ℕ → ℕ → Option ℕ
least p zero x = None
least p (suc n) x = cond (p x) (Some x) (least p n (suc x))

-- the window x of task k passes with the rule's total
abbrev pub passes_by : Rule → Task → List BoundedTask → ℕ → ℕ → Bool
passes_by r k above m x = passes k m x (r.total k above m x)

abbrev pub bound_of : Rule → Task → List BoundedTask → ℕ → Option ℕ
bound_of r k above m =
    least (passes_by r k above m) (k.deadline + 1 - r.first k above m) (r.first k above m)

-- a window of task k with the rule's total for it
abbrev pub counted : Rule → Task → List BoundedTask → ℕ → ℕ → Passing
counted r k above m x = record { window = x; total = r.total k above m x }

-- the bound with the rule's total for it
abbrev pub counted_bound : Rule → Task → List BoundedTask → ℕ → Option Passing
counted_bound r k above m = option_map (counted r k above m) (bound_of r k above m)

-- the window alone
abbrev pub window_of : Option Passing → Option ℕ
window_of o = option_map (λ (passing : Passing). passing.window) o

-- x is the least number from `first` to `last` for which p holds
pub record IsLeast (p : ℕ → Bool) (first last x : ℕ) : Type 0 where
  pub from : first ≤ x
  pub to : x ≤ last
  pub holds : p x ≡ true
  pub least : (y : ℕ) → first ≤ y → y < x → p y ≡ false

-- the answer is the least such number, and none only where there is none
abbrev pub Least : (ℕ → Bool) → ℕ → ℕ → Option ℕ → Type 0
Least p first last (Some x) = IsLeast p first last x
Least p first last None = (y : ℕ) → first ≤ y → y ≤ last → p y ≡ false

-- the answer is the bound of task k
abbrev pub IsBound : Rule → Task → List BoundedTask → ℕ → Option ℕ → Type 0
IsBound r k above m answer = Least (passes_by r k above m) (r.first k above m) k.deadline answer

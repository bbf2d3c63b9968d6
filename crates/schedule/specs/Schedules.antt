-- Which jobs are unfinished, tick by tick. A level has at most one at a time.
use Rattle.std.specs.Prelude.{ℕ, Bool}

pub record Schedule : Type 0 where
  -- at tick t, level i has an unfinished job
  pub there : ℕ → ℕ → Bool
  -- the tick at which that job was released
  pub since : ℕ → ℕ → ℕ

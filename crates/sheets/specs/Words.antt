-- Texts, cut into lines and words. A text is the list of its bytes.
use Rattle.std.specs.Prelude.{ℕ, ◌+◌, ◌-◌, ◌*◌, Bool, true, false, cond, List, [], ◌∷◌, map, filter, ◌==◌}
use Rattle.std.specs.Borrow.{Bor}

-- what some texts hold
abbrev pub texts : List (Bor (List ℕ)) → List (List ℕ)
texts ss = map (λ s. s.now) ss

-- x at the front of the first piece
abbrev pub onto : ℕ → List (List ℕ) → List (List ℕ)
onto x [] = (x ∷ []) ∷ []
onto x (p ∷ ps) = (x ∷ p) ∷ ps

-- what stands between the bytes c of a text: one piece more than there are such bytes
abbrev pub pieces : ℕ → List ℕ → List (List ℕ)
pieces c [] = [] ∷ []
pieces c (x ∷ xs) = cond (x == c) ([] ∷ pieces c xs) (onto x (pieces c xs))

abbrev pub filled : List ℕ → Bool
filled [] = false
filled (x ∷ xs) = true

-- lines end at a line feed (byte 10), and words are what stands between spaces (byte 32)
abbrev pub lines : List ℕ → List (List ℕ)
lines text = pieces 10 text

abbrev pub words : List ℕ → List (List ℕ)
words line = filter filled (pieces 32 line)

-- the number that a row of digits writes, after n
abbrev pub value_on : ℕ → List ℕ → ℕ
value_on n [] = n
value_on n (d ∷ ds) = value_on (10 * n + (d - 48)) ds

abbrev pub value : List ℕ → ℕ
value ds = value_on 0 ds

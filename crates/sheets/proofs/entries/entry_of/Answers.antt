use Rattle.std.proofs.Common.{◌≡◌, ℕ, true, false, List, ⊎_elim, arith}
use Rattle.std.specs.Str.{bytes_eq}
use Rattle.std.proofs.lemmas.Bool.{cases_Bool}
use Rattle.std.proofs.lemmas.Grind.{common_steps}
use Rattle.std.proofs.lemmas.Slice.Eq.{bytes_eq-Decides}
use Rattle.sheets.proofs.entries.entry_of.Goals as goal

unequal : (xs ys : List ℕ) → (xs ≡ ys → ⊥) → bytes_eq xs ys ≡ false
unequal xs ys apart =
    ⊎_elim (λ (e : bytes_eq xs ys ≡ true). absurd (apart ((bytes_eq-Decides xs ys).0 e))) (λ (e : bytes_eq xs ys ≡ false). e) (cases_Bool (bytes_eq xs ys))

pub returns-in_default : goal.returns-in_default
returns-in_default c = grind (arith, common_steps, unequal)

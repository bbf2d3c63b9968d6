-- Words of digits, and the number that `parse` reads of one.
use Rattle.std.proofs.Common.{◌≡◌, ℕ, ◌^◌, ◌<◌, Bool, true, false, ◌&&◌, eqb, ltb, List, [], ◌∷◌, length, Ok, Err, Result, MatchResult, sym, refl, ap, ◌∙◌, arith, rules}
use Rattle.std.specs.Str.Parse.{ParsesUnsigned}
use Rattle.std.specs.Char.{is_ascii_digit}
use Rattle.std.specs.List.{list_all}
use Rattle.std.specs.Str.{all_ascii_digits}
use Rattle.std.proofs.lemmas.Str.Parse.{IsNumeralModel, numerals_by_fold, tells_all_ascii_digits, parse_digits}
use Rattle.std.proofs.lemmas.Bool.{cond-true, cond-false, and_parts, ltb-true, lt-ltb, eqb-false, false≢true}
use Rattle.sheets.specs.declared.entry.Fault.{Fault}
use Rattle.sheets.specs.declared.entry.Fault.TheVariants.{TooLarge}
use Rattle.sheets.specs.Lines.{number_of}
use Rattle.sheets.specs.Words.{filled, value_on, value}

-- a word that is not empty, byte by byte
pub digits_all : (w : List ℕ) → eqb (length w) 0 ≡ false → list_all is_ascii_digit w ≡ (filled w && all_ascii_digits w)
digits_all [] e = absurd (eqb-false 0 0 e refl)
digits_all (x ∷ w) e = bytewise (x ∷ w)
  where
    bytewise : (w : List ℕ) → list_all is_ascii_digit w ≡ all_ascii_digits w
    bytewise [] = refl
    bytewise (x ∷ w) = ap (λ b. is_ascii_digit x && b) (bytewise w)

filled_length : (w : List ℕ) → filled w ≡ true → 0 < length w
filled_length [] e = absurd (false≢true e)
filled_length (x ∷ w) e = omega arith

value_numerals : IsNumeralModel (λ ds. all_ascii_digits ds ≡ true) value
value_numerals = numerals_by_fold _ tells_all_ascii_digits value_on (search rules)

-- what `parse` answers at a word of digits, with our fault in place of its error
module _ (w : List ℕ) (digits : (filled w && all_ascii_digits w) ≡ true) where
  large : (b : Bool) → ltb (value w) 65536 ≡ b → ((0 < length w) × (value w < 2 ^ 16) → ⊥) → b ≡ false
  large true e none = absurd (none (filled_length w (and_parts _ _ digits).0, ltb-true (value w) 65536 e))
  large false e none = refl

  pub parsed : {E : Type 0} (r : Result ℕ E) (m : Result ℕ Fault) → ParsesUnsigned 16 10 w r → MatchResult r (λ n. m ≡ Ok n) (λ e. m ≡ Err TooLarge) → m ≡ number_of w
  parsed {E} (Ok n) m reads is =
      let got = parse_digits value_numerals {E = E} 16 w (Ok n) reads (and_parts _ _ digits).1 in
      is ∙ ap Ok got.1 ∙ sym (cond-true _ _ _ (lt-ltb (value w) 65536 got.0.1)) ∙ sym (cond-true _ _ _ digits)
  parsed {E} (Err e) m reads is =
      let none = parse_digits value_numerals {E = E} 16 w (Err e) reads (and_parts _ _ digits).1 in
      is ∙ sym (cond-false _ _ _ (large (ltb (value w) 65536) refl none)) ∙ sym (cond-true _ _ _ digits)

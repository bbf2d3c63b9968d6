-- A number under a column, as the width of a hole writes it.
use Rattle.std.proofs.Common.{◌≡◌, ℕ, zero, suc, ◌-◌, ◌^◌, [], ◌∷◌, false, eqb, length, replicate, decimal, refl, ap, arith, append-nil, lit<}
use Rattle.std.specs.List.{repeat}
use Rattle.std.proofs.lemmas.Str.{encode_ascii}
use Rattle.std.specs.Fmt.{padded_integral, format_spec, styled_decimal, char_count}
use Rattle.planning.specs.Texts.{right}

repeat_one : (n : ℕ) → repeat {A = ℕ} n (32 ∷ []) ≡ replicate n 32
repeat_one zero = refl
repeat_one (suc n) = ap (λ l. 32 ∷ l) (repeat_one n)

padded_right : (w n : ℕ) → padded_integral (format_spec 32 3 0 w (2 ^ 64 - 1)) false [] (decimal n) ≡ right w n
unfolding padded_integral char_count
padded_right w n =
    let same : w - length (decimal n) - 0 - 0 ≡ w - length (decimal n) = omega arith in
    let none : w - length (decimal n) - (w - length (decimal n)) ≡ 0 = omega arith in
    rw (same, none, encode_ascii 32 (lit< tt), repeat_one) (simp append-nil)

pub in_column : {s : _} (w n : ℕ) → s ≡ format_spec 32 3 0 w (2 ^ 64 - 1) → eqb w 0 ≡ false → styled_decimal s n ≡ right w n
in_column w n e some = rw (e, some) (padded_right w n)

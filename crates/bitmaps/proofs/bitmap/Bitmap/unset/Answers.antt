use Rattle.std.proofs.Common.{◌*◌, ◌^◌, mod-lt, sym, ap, ◌∙◌, arith}
use lib.Bits.{bit_xor}
use Rattle.std.proofs.lemmas.Nat.{xor_lt, one_shl}
use Rattle.bitmaps.specs.Bitmaps.{levels_in}
use Rattle.bitmaps.proofs.Digits.{has_in, remove_in, xor_digit}
use Rattle.bitmaps.proofs.bitmap.Bitmap.unset.Goals as goal

pub returns : goal.returns
returns c =
    let n = c.args.self.now.bits in
    let x = c.args.level in
    let s = x.small in
    ap (λ m. levels_in (bit_xor n m)) (one_shl x.number 64 (omega arith)) ∙ ap levels_in (xor_digit x.number n (sym (has_in n x) ∙ c.requires)) ∙ remove_in n x c.requires

pub invariant_of-self : goal.invariant_of-self
invariant_of-self c = record { fits = xor_lt 64 c.args.self.now.bits _ c.args.self.now.fits (mod-lt (1 * 2 ^ c.args.level.number) {m = 18446744073709551616} (omega arith)) }

use Rattle.std.proofs.Common.{◌*◌, ◌^◌, mod-lt, sym, ap, ◌∙◌, arith}
use lib.Bits.{bit_or}
use Rattle.std.proofs.lemmas.Nat.{or_lt, one_shl}
use Rattle.bitmaps.specs.Bitmaps.{levels_in}
use Rattle.bitmaps.proofs.Digits.{has_in, insert_in, or_digit}
use Rattle.bitmaps.proofs.bitmap.Bitmap.set.Goals as goal

pub returns : goal.returns
returns c =
    let n = c.args.self.now.bits in
    let x = c.args.level in
    let s = x.small in
    ap (λ m. levels_in (bit_or n m)) (one_shl x.number 64 (omega arith)) ∙ ap levels_in (or_digit x.number n (sym (has_in n x) ∙ c.requires)) ∙ insert_in n x c.requires

pub invariant_of-self : goal.invariant_of-self
invariant_of-self c = record { fits = or_lt 64 c.args.self.now.bits _ c.args.self.now.fits (mod-lt (1 * 2 ^ c.args.level.number) {m = 18446744073709551616} (omega arith)) }

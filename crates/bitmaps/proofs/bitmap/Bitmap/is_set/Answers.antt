use Rattle.std.proofs.Common.{◌/◌, ◌^◌, eqb, sym, ap, ◌∙◌}
use lib.Bits.{and_mask}
use Rattle.bitmaps.proofs.Digits.{has_in, digit_is}
use Rattle.bitmaps.proofs.bitmap.Bitmap.is_set.Goals as goal

pub returns : goal.returns
returns c =
    let n = c.args.self.now.bits in
    let p = c.args.level.number in
    ap (λ m. eqb m 1) (and_mask (n / 2 ^ p) 1) ∙ sym (has_in n c.args.level ∙ digit_is p n)

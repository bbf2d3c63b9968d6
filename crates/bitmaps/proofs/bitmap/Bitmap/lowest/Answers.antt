use Rattle.std.proofs.Common.{◌≡◌, ◌+◌, ◌<◌, Some, None, sym, ap, ◌∙◌, arith}
use lib.Count.{count_trailing_zeros}
use Rattle.queues.specs.Items.{level_at}
use Rattle.queues.specs.Sets.{first_of}
use Rattle.std.proofs.lemmas.Bool.{cond-false, le-ltb}
use Rattle.bitmaps.specs.Bitmaps.{levels_in}
use Rattle.bitmaps.proofs.Digits.{no_levels, first_level, trailing_below}
use Rattle.bitmaps.proofs.bitmap.Bitmap.lowest.Goals as goal

pub returns-then-self-eq0 : goal.returns-then-self-eq0
returns-then-self-eq0 c = sym (ap (λ n. first_of (levels_in n)) c.if-self-eq0.true ∙ ap first_of (no_levels 64 0))

pub returns : goal.returns
returns c =
    let n = c.args.self.now.bits in
    let some : 0 < n = let d = c.if-self-eq0.false in omega arith in
    let t = trailing_below 64 n (omega arith) some in
    let z : 0 + count_trailing_zeros 64 n ≡ count_trailing_zeros 64 n = omega arith in
    c.new.ensures
    ∙ cond-false _ None (Some (level_at (count_trailing_zeros 64 n))) (le-ltb 63 (count_trailing_zeros 64 n) (omega arith))
    ∙ sym (first_level 64 0 n (omega arith) some ∙ ap (λ m. Some (level_at m)) z)

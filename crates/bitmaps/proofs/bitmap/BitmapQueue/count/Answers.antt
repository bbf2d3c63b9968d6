use Rattle.std.proofs.Common.{arith}
use lib.Count.{ones-le}
use Rattle.bitmaps.specs.Levels.{length_levels}
use Rattle.bitmaps.proofs.bitmap.BitmapQueue.count.Goals as goal

pub returns : goal.returns
returns c =
    let n = c.args.self.now.bits in
    λ h. omega (arith, length_levels 64 0 n h, ones-le 64 n h)

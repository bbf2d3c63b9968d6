use Rattle.std.proofs.Common.{refl, arith}
use Rattle.bitmaps.proofs.Digits.{no_levels}
use Rattle.bitmaps.proofs.bitmap.BitmapQueue.clear.Goals as goal

pub returns : goal.returns
returns c = record { good = omega arith; room = refl; items = no_levels 64 0 }

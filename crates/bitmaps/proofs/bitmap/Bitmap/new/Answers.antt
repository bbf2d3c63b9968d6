use Rattle.std.proofs.Common.{arith}
use Rattle.bitmaps.proofs.Digits.{no_levels}
use Rattle.bitmaps.proofs.bitmap.Bitmap.new.Goals as goal

pub returns : goal.returns
returns c = record { good = omega arith; items = no_levels 64 0 }

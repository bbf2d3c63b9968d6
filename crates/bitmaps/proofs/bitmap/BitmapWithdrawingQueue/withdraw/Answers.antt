use Rattle.std.proofs.Common.{sym, refl}
use Rattle.bitmaps.specs.Bitmaps.{levels_in}
use Rattle.queues.proofs.Laws.{remove_none}
use Rattle.queues.specs.Orders.{level_lawful}
use Rattle.queues.specs.Items.{level_before}
use Rattle.bitmaps.proofs.bitmap.BitmapWithdrawingQueue.withdraw.Goals as goal

pub returns-then-not-is_set : goal.returns-then-not-is_set
returns-then-not-is_set c =
    let lacks = c.if-not-is_set.ensures in
    record {
      good = λ h. h;
      room = refl;
      answer = λ h. lacks;
      items = λ h. sym (remove_none level_before level_lawful c.args.item (levels_in c.args.self.now.bits) (sym lacks));
    }

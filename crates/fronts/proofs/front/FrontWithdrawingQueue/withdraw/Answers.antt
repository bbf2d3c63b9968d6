use Rattle.std.proofs.Common.{suc, refl, ap}
use Rattle.fronts.proofs.Heads.{withdraw_behind, withdraw_none}
use Rattle.fronts.proofs.front.FrontWithdrawingQueue.withdraw.Goals as goal

pub returns-then-comes_before : goal.returns-then-comes_before
returns-then-comes_before g c =
    let told = c.withdraw.ensures in
    let owed = λ (good : g.Q.Queue.good c.args.self.now.below). withdraw_behind g.Q.Item.Order.before g.met.Q.Item.Order.laws c.in-Some.head c.args.item _ _ _ _ c.in-Some.is c.if-comes_before.ensures (told.items good) (told.answer good) in
    record {
      good = λ good. (told.good good.0, (owed good.0 good.1).0);
      room = ap suc told.room;
      answer = λ good. (owed good.0 good.1).1;
      items = λ good. (owed good.0 good.1).2;
    }

pub returns-then-comes_before-2 : goal.returns-then-comes_before-2
returns-then-comes_before-2 g c =
    let owed = withdraw_none g.Q.Item.Order.before g.met.Q.Item.Order.laws c.in-Some.head c.args.item (g.Q.Queue.items c.args.self.now.below) _ c.in-Some.is c.if-comes_before-2.ensures in
    record {
      good = λ good. good;
      room = refl;
      answer = λ good. (owed good.1).1;
      items = λ good. (owed good.1).2;
    }

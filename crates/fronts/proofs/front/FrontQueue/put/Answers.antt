use Rattle.std.proofs.Common.{◌≡◌, suc, Err, refl, sym, ap, ◌∙◌}
use Rattle.std.proofs.lemmas.Result.{err_from_is_err_and}
use Rattle.fronts.proofs.Heads.{put_behind, put_before, put_refused}
use Rattle.fronts.proofs.front.FrontQueue.put.Goals as goal

pub returns-then-comes_before : goal.returns-then-comes_before
returns-then-comes_before g c =
    let told = c.put.ensures in
    let owed = λ (good : g.Q.Queue.good c.args.self.now.below). put_behind g.Q.Item.Order.before g.met.Q.Item.Order.laws _ c.in-Some.head c.args.item _ _ _ _ c.in-Some.is c.if-comes_before.ensures (told.items good) (told.answer good) in
    record {
      good = λ good. (told.good good.0, (owed good.0 good.1).0);
      room = ap suc told.room;
      answer = λ good. (owed good.0 good.1).1;
      items = λ good. (owed good.0 good.1).2;
    }

pub returns : goal.returns
returns g c =
    let told = c.in_ok-put.ensures in
    let owed = λ (good : g.Q.Queue.good c.args.self.now.below). put_before g.Q.Item.Order.before g.met.Q.Item.Order.laws _ c.in-Some.head c.args.item _ _ _ _ c.in-Some.is c.if-not-comes_before.ensures refl (told.items good) (told.answer good) in
    record {
      good = λ good. (told.good good.0, (owed good.0 good.1).0);
      room = ap suc told.room;
      answer = λ good. (owed good.0 good.1).1;
      items = λ good. (owed good.0 good.1).2;
    }

pub returns-in_err-put : goal.returns-in_err-put
returns-in_err-put g c =
    let told = c.put-2.ensures in
    let p = err_from_is_err_and c.from_residual.result c.from_residual.ensures.1 in
    let same : c.from_residual.result ≡ c.put-2.result = p.1 ∙ ap Err p.2 ∙ sym c.in_err-put.was in
    let owed = λ (good : g.Q.Queue.good c.args.self.now.below). put_refused g.Q.Item.Order.before g.met.Q.Item.Order.laws _ c.in-Some.head c.args.item _ _ c.from_residual.result _ c.in-Some.is c.if-not-comes_before.ensures (λ e. let z = sym p.1 ∙ e in cc) (told.items good) (same ∙ told.answer good) in
    record {
      good = λ good. (told.good good.0, (owed good.0 good.1).0);
      room = ap suc told.room;
      answer = λ good. (owed good.0 good.1).1;
      items = λ good. (owed good.0 good.1).2;
    }

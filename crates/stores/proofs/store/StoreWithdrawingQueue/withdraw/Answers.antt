use Rattle.stores.proofs.Steps.{found_left, none_left}
use Rattle.stores.proofs.store.StoreWithdrawingQueue.withdraw.Goals as goal

pub returns-in-Ok-clause-items : goal.returns-in-Ok-clause-items
returns-in-Ok-clause-items g c = λ good.
    found_left g.T.Order.before g.met.T.Order.laws g.L.Layout.good g.L.Layout.set g.met.L.Layout.laws _ _ _ c.args.item c.in-Ok.at c.items.ensures good c.in-Ok.ensures.found (c.leave.ensures.items good)

pub returns-in-Err-clause-items : goal.returns-in-Err-clause-items
returns-in-Err-clause-items g c = λ good.
    none_left g.T.Order.before g.met.T.Order.laws g.L.Layout.good g.L.Layout.set g.met.L.Layout.laws _ _ c.args.item _ g.L.Layout.place c.items.ensures good c.in-Err.ensures.found

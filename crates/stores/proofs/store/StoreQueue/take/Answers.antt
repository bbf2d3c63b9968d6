use Rattle.std.proofs.Common.{sym, ◌∙◌}
use Rattle.stores.proofs.Steps.{first_left}
use Rattle.stores.proofs.store.StoreQueue.take.Goals as goal

pub returns-clause-items : goal.returns-clause-items
returns-clause-items g c = λ good.
    first_left g.T.Order.before g.met.T.Order.laws g.L.Layout.good g.L.Layout.set g.met.L.Layout.laws _ _ c.in_ok-first.first good (sym c.in_ok-first.was ∙ c.first.ensures good) (c.leave.ensures.items good)

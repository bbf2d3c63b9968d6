use Rattle.std.proofs.Common.{Some, None, sym, ap, ◌∙◌, arith}
use Rattle.std.proofs.lemmas.Bool.{cond-false, le-ltb}
use Rattle.queues.specs.Items.{level_at}
use Rattle.queues.specs.Orders.{same_level}
use Rattle.queues.proofs.level.Level.new.Goals as goal

pub returns-in-Ok : goal.returns-in-Ok
returns-in-Ok c =
    let is = c.in-Ok.ensures in
    ap Some (same_level _ (level_at c.args.number) (omega (arith, is)))
    ∙ sym (cond-false _ None (Some (level_at c.args.number)) (le-ltb 63 c.args.number (omega (arith, is))))

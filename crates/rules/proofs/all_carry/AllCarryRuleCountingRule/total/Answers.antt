use Rattle.std.proofs.Common.{sym}
use Rattle.analysis.proofs.Counted.{countable_from}
use Rattle.rules.proofs.all_carry.AllCarryRuleCountingRule.total.Goals as goal

pub sum_carried-requires : goal.sum_carried-requires
sum_carried-requires c = countable_from _ _ _ _ (sym c.if-not-is_lawful.ensures)

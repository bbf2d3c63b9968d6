use Rattle.std.proofs.Common.{rules}
use Rattle.analysis.specs.Interference.{lawful}
use Rattle.analysis.proofs.Facts.{levels_small}
use Rattle.analysis.proofs.case.Case.is_lawful.Goals as goal

pub levels_differ-requires : goal.levels_differ-requires
levels_differ-requires c = search (rules, levels_small)

pub returns-then-all_above : goal.returns-then-all_above
unfolding lawful
returns-then-all_above c = search rules

pub returns-else-all_above : goal.returns-else-all_above
unfolding lawful
returns-else-all_above c = search rules

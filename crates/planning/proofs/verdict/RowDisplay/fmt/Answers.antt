use Rattle.std.proofs.Common.{rules}
use Rattle.std.proofs.Output.{has_written_of_eq}
use Rattle.planning.proofs.Columns.{in_column}
use Rattle.planning.proofs.verdict.RowDisplay.fmt.Goals as goal

pub returns-clause-writes : goal.returns-clause-writes
returns-clause-writes g c plain ok = has_written_of_eq _ _ _ _ _ (search (rules, in_column)) (c.write.ensures.writes plain ok)

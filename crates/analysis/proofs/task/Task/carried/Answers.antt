use Rattle.std.proofs.Common.{arith}
use Rattle.analysis.proofs.Amounts.{plain_carried}
use Rattle.analysis.proofs.task.Task.carried.Goals as goal

pub returns-clause-above : goal.returns-clause-above
returns-clause-above c = grind (arith, plain_carried)

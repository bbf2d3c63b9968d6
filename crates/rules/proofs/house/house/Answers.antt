use Rattle.rules.proofs.Examples.{examples}
use Rattle.rules.proofs.house.house.Goals as goal

pub returns-clause-examples : goal.returns-clause-examples
returns-clause-examples c = examples

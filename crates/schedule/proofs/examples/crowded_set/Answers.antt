use Rattle.schedule.proofs.Worked.{crowded_facts}
use Rattle.schedule.proofs.examples.crowded_set.Goals as goal

pub returns-clause-crowded : goal.returns-clause-crowded
returns-clause-crowded c = crowded_facts

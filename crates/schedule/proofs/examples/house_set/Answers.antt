use Rattle.schedule.proofs.Worked.{together_facts}
use Rattle.schedule.proofs.examples.house_set.Goals as goal

pub returns-clause-together : goal.returns-clause-together
returns-clause-together c = together_facts

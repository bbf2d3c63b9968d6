-- The three rules keep the laws of a rule. Assumes nothing.
use Rattle.std.proofs.Common.{arith}
use Rattle.std.proofs.lemmas.Bool.{cond-true}
use Rattle.analysis.specs.Interference.{interference, lawful}
use Rattle.analysis.proofs.Facts.{lawful_case}
use Rattle.rules.specs.Rules.{LawfulRule, Starts, Covers, response, deadline}
use Rattle.rules.specs.Standard.{rule_of}
use Rattle.rules.specs.declared.standard_rule.StandardRule.{StandardRule}
use Rattle.rules.specs.declared.standard_rule.StandardRule.TheVariants.{Response, Deadline, AllCarry}
use Rattle.rules.specs.Carrying.{all_carry_covers}

-- C and D lie from C to D
starts_at_run : Starts response
starts_at_run k above m e = let c = lawful_case k above m k.deadline e in let l = c.limits in (omega arith, omega arith)

starts_at_deadline : Starts deadline
starts_at_deadline k above m e = let c = lawful_case k above m k.deadline e in let l = c.limits in (omega arith, omega arith)

-- the interference is at least the interference
counts_interference : Covers response
counts_interference k above m x e = omega (arith, cond-true (lawful k above m x) (interference k above m x) 4294967295 e)

pub standard_lawful : (r : StandardRule) → LawfulRule (rule_of r)
standard_lawful Response = record { starts = starts_at_run; covers = counts_interference }
standard_lawful Deadline = record { starts = starts_at_deadline; covers = counts_interference }
standard_lawful AllCarry = record { starts = starts_at_deadline; covers = all_carry_covers }

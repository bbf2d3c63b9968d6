-- The names of rules.
use Rattle.std.specs.Prelude.{ℕ, List, Option}
use Rattle.std.specs.Result.{result_ok}
use Rattle.rules.specs.Standard as standard
use Rattle.rules.specs.declared.standard_rule.StandardRule.{StandardRule}

-- the rule of this name, or none where no rule has it
abbrev pub rule_named : List ℕ → Option StandardRule
rule_named w = result_ok (standard.rule_named w)

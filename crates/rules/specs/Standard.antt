-- The rule that is named.
use Rattle.std.specs.Prelude.{ℕ, cond, List, Ok, Err, codes, Result}
use Rattle.std.specs.Str.{bytes_eq}
use Rattle.rules.specs.declared.standard_rule.StandardRule.{StandardRule}
use Rattle.rules.specs.declared.standard_rule.StandardRule.TheVariants.{Response, Deadline, AllCarry}
use Rattle.rules.specs.declared.standard_rule.UnknownRule.{UnknownRule}
use Rattle.rules.specs.Rules.{Rule, response, deadline, all_carry}

abbrev pub rule_of : StandardRule → Rule
rule_of Response = response
rule_of Deadline = deadline
rule_of AllCarry = all_carry

-- the rule of this name
abbrev pub rule_named : List ℕ → Result StandardRule UnknownRule
rule_named w =
    cond (bytes_eq w (codes "response")) (Ok Response)
    (cond (bytes_eq w (codes "deadline")) (Ok Deadline) (cond (bytes_eq w (codes "all-carry")) (Ok AllCarry) (Err (record {}))))

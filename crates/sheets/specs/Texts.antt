-- What is written of a rule and of a fault.
use Rattle.std.specs.Prelude.{ℕ, List, ◌++◌, codes, decimal}
use Rattle.sheets.specs.declared.entry.Fault.{Fault}
use Rattle.sheets.specs.declared.entry.Fault.TheVariants.{UnknownWord, MissingWord, ExtraWord, NotNumber, TooLarge, BadCores, UnknownRule, CoresTwice, RuleTwice, NoCores, NoRule}
use Rattle.sheets.specs.declared.entry.Rule.{Rule}
use Rattle.sheets.specs.declared.entry.Rule.TheVariants.{Deadline}

abbrev pub rule_name : Rule → List ℕ
rule_name Deadline = codes "deadline"

-- what is wrong with a line
abbrev pub fault_words : Fault → List ℕ
fault_words UnknownWord = codes "unknown word"
fault_words MissingWord = codes "a word is missing"
fault_words ExtraWord = codes "a word too many"
fault_words NotNumber = codes "not a number"
fault_words TooLarge = codes "number too large"
fault_words BadCores = codes "cores are 1 to 8"
fault_words UnknownRule = codes "unknown rule"
fault_words CoresTwice = codes "a second cores line"
fault_words RuleTwice = codes "a second rule line"
fault_words NoCores = codes "no cores line"
fault_words NoRule = codes "no rule line"

-- line N: what is wrong
abbrev pub fault_text : ℕ → Fault → List ℕ
fault_text n f = codes "line " ++ (decimal n ++ (codes ": " ++ fault_words f))

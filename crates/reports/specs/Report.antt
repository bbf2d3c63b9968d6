-- The text of the answer.
use Rattle.std.specs.Prelude.{ℕ, List, [], ◌∷◌, ◌++◌, Ok, Err, Result, codes, decimal}
use Rattle.std.specs.List.{flat_map}
use Rattle.planning.specs.Refusals.{number}
use Rattle.planning.specs.Texts.{reason_text, row_text}
use Rattle.planning.specs.declared.verdict.Row.{Row}
use Rattle.planning.specs.declared.refusal.Refusal.{Refusal}
use Rattle.sheets.specs.declared.entry.Rule.{Rule}
use Rattle.sheets.specs.Texts.{rule_name}

-- 2 cores, deadline rule
abbrev pub heading_text : ℕ → Rule → List ℕ
heading_text cores rule = decimal cores ++ (codes " cores, " ++ (rule_name rule ++ codes " rule"))

abbrev pub columns_text : List ℕ
columns_text = codes "level     C     D     T  total bound"

abbrev pub verdict_text : Result (Unit {0}) Refusal → List ℕ
verdict_text (Ok u) = codes "accepted"
verdict_text (Err r) = codes "refused " ++ (decimal (number r) ++ (codes ": " ++ reason_text r))

abbrev pub line_feed : List ℕ
line_feed = 10 ∷ []

-- the whole answer, a line for each row between the columns and the verdict
abbrev pub report_text : ℕ → Rule → List Row → Result (Unit {0}) Refusal → List ℕ
report_text cores rule rows verdict =
    heading_text cores rule ++ (line_feed ++ (columns_text ++ (line_feed ++ (flat_map (λ r. row_text r ++ line_feed) rows ++ (verdict_text verdict ++ line_feed)))))

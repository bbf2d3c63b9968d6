use Rattle.std.proofs.Common.{◌≡◌, ◌++◌, take, string_bytes}
use Rattle.std.specs.List.{flat_map}
use Rattle.planning.specs.Texts.{row_text}
use Rattle.reports.specs.Report.{line_feed}
use Rattle.reports.proofs.report.row_lines.Given as goal

abbrev pub invariant-loop-row : goal.invariant-loop-row
invariant-loop-row l = string_bytes l.text ≡ flat_map (λ x. row_text x ++ line_feed) (take l.row-index l.rows)

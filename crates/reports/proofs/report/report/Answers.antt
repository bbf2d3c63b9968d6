use Rattle.std.proofs.Common.{◌++◌, ap, ◌∙◌}
use Rattle.std.specs.List.{flat_map}
use Rattle.std.proofs.lemmas.Result.{IfOk-weaker}
use Rattle.planning.specs.Texts.{row_text}
use Rattle.reports.specs.Report.{columns_text, line_feed}
use Rattle.reports.proofs.report.report.Goals as goal

pub returns : goal.returns
returns c =
    let heading = c.in_ok-heading.ensures in
    let rows = c.in_ok-rows.ensures ∙ ap (flat_map (λ r. row_text r ++ line_feed)) c.deref.ensures.value in
    let verdict = c.in_ok-verdict.ensures in
    IfOk-weaker c.format.result _ _ (λ s e. e ∙ (λ i. heading i ++ (line_feed ++ (columns_text ++ (line_feed ++ (rows i ++ (verdict i ++ line_feed))))))) c.format.ensures.ok

use Rattle.std.proofs.Common.{lit<}
use Rattle.sheets.proofs.Pieces.{collected_pieces}
use Rattle.sheets.proofs.words.lines_of.Goals as goal

pub returns : goal.returns
returns c =
    collected_pieces 10 c.args.text.now c.split.result
    (λ u seen from. let told = c.split.ensures.runs u seen from in (told.0, told.2 (lit< tt) (λ q e. e, λ w o f. f)))
    c.collect.result c.collect.ensures.runs

use Rattle.std.proofs.Common.{lit<, not, eqb, length, rules}
use Rattle.sheets.proofs.Pieces.{collected_words}
use Rattle.sheets.proofs.words.words_of.Goals as goal

pub returns : goal.returns
returns c =
    collected_words 32 c.args.line.now c.split.result
    (λ u seen from. let told = c.split.ensures.runs u seen from in (told.0, told.2 (lit< tt) (λ q e. e, λ w o f. f)))
    c.filter.result c.collect.result
    (λ p seen from. let told = c.filter.ensures.runs p seen from in (told.0, told.1, (told.2.0, told.2.4 (λ x. not (eqb (length x.now) 0)) (λ x b f' k. search rules))))
    c.collect.ensures.runs

use Rattle.std.proofs.Common.{sym, ap, ◌∙◌, rules}
use Rattle.std.specs.Char.{is_ascii_digit}
use Rattle.std.specs.List.{list_all}
use Rattle.std.proofs.lemmas.Iterator.{YieldsList-from_slice}
use Rattle.std.proofs.lemmas.Iterator.Search.{all_from_yields_List}
use Rattle.sheets.proofs.Digits.{digits_all}
use Rattle.sheets.proofs.numbers.only_digits.Goals as goal

pub returns-then-not-is_empty : goal.returns-then-not-is_empty
returns-then-not-is_empty c =
    all_from_yields_List is_ascii_digit _ _ c.all.result c.all.ensures.ran (YieldsList-from_slice c.as_bytes.result.now (search rules)) (λ x b q k. search rules)
    ∙ ap (list_all is_ascii_digit) c.as_bytes.ensures.value
    ∙ digits_all c.args.word.now (sym c.if-not-is_empty.ensures)

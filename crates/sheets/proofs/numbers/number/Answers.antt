use Rattle.std.proofs.Common.{sym, rules}
use Rattle.std.proofs.lemmas.Result.{MatchResult-weaker}
use Rattle.sheets.proofs.Digits.{parsed}
use Rattle.sheets.proofs.numbers.number.Goals as goal

pub returns : goal.returns
returns c =
    parsed c.args.word.now (sym c.if-not-only_digits.ensures) c.parse.result c.map_err.result c.parse.ensures.value.0 (MatchResult-weaker c.parse.result c.map_err.ensures.cases (λ n h. h) (λ e h. search rules))

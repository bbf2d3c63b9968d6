use Rattle.std.proofs.Common.{ap, ◌∙◌, arith}
use Rattle.std.proofs.lemmas.Result.{err_from_is_err_and}
use Rattle.sheets.specs.Words.{texts}
use Rattle.sheets.proofs.Sofar.{line_passed, line_refused, lines_read, lines_short}
use Rattle.sheets.proofs.reading.read.Goals as goal

pub loop-i-preserved : goal.loop-i-preserved
loop-i-preserved c =
    line_passed _ _ _ c.loop-i.invariant _ 0 c.loop-i-test.true (c.in_ok-enter.ensures _ c.loop-i.invariant.holds)

pub returns-in_err-enter : goal.returns-in_err-enter
returns-in_err-enter c =
    let same = ap texts c.deref-line-items.ensures.value ∙ c.in_ok-lines.ensures in
    let p = err_from_is_err_and c.from_residual-in_err-enter.result c.from_residual-in_err-enter.ensures.1 in
    rw (p.1, p.2) (line_refused _ _ _ c.loop-i.invariant c.args.text.now same c.enter.new.self _ c.loop-i-test.true (c.in_err-enter.ensures _ c.loop-i.invariant.holds))

pub returns-in_err-finish : goal.returns-in_err-finish
returns-in_err-finish c =
    let same = ap texts c.deref-line-items.ensures.value ∙ c.in_ok-lines.ensures in
    let p = err_from_is_err_and c.from_residual-in_err-finish.result c.from_residual-in_err-finish.ensures.1 in
    rw (p.1, p.2) (lines_short _ _ _ c.loop-i.invariant c.args.text.now same c.len.result _ c.loop-i-test.false (omega (arith, c.len.ensures, c.deref-line-items.ensures.len)) c.in_err-finish.ensures)

pub returns : goal.returns
returns c =
    let same = ap texts c.deref-line-items.ensures.value ∙ c.in_ok-lines.ensures in
    lines_read _ _ _ c.loop-i.invariant c.args.text.now same c.len.result c.in_ok-finish.field-0 c.loop-i-test.false (omega (arith, c.len.ensures, c.deref-line-items.ensures.len)) c.in_ok-finish.ensures

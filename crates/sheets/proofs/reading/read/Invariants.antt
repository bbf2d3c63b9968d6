use Rattle.sheets.specs.Words.{texts}
use Rattle.sheets.proofs.Sofar.{Sofar}
use Rattle.sheets.proofs.reading.read.Given as goal

abbrev pub invariant-loop-i : goal.invariant-loop-i
invariant-loop-i l = Sofar (texts l.line-items) l.i l.draft

use Rattle.scan_rows.specs.Laws.Code.{Covered}
use Rattle.scan_rows.proofs.Rows.code_is.Given as goal

abbrev pub invariant-loop-i : goal.invariant-loop-i
invariant-loop-i l = Covered l.self.words.now l.count l.i l.left

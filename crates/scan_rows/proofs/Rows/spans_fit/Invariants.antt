use mathlib.Core.Path.{◌≡◌}
use Prim.Native.Nat.{◌*◌}
use lib.ListN.{drop}
use Rattle.payload.specs.Sound.{spans_of}
use Rattle.payload.specs.Spans.{small_spans}
use Rattle.scan_rows.proofs.Rows.spans_fit.Given as goal

abbrev pub invariant-loop-i : goal.invariant-loop-i
invariant-loop-i l = small_spans (spans_of l.spans) ≡ small_spans (spans_of (drop (2 * l.i) l.spans))

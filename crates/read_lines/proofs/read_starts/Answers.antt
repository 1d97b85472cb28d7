-- `read_starts` meets its contract. The invariant: the starts so far stand in the table, and with what the rest of the definition reads they are the whole.
use Rattle.std.specs.Prelude.{◌≡◌, ◌%◌, ◌^◌}
use Rattle.std.specs.Int.{w64}
use Rattle.std.proofs.Common.{ap, ◌∙◌, arith, to_z, of_z}
use Rattle.std.proofs.lemmas.Int.{ints, to_z-of_z}
use Rattle.signed.specs.Signed.{word_of}
use Rattle.refusal.specs.Laws.Errors.{same_error}
use Rattle.read_lines.proofs.Starts.{storing_none, storing_full, storing_stop, storing_more, storing_all}
use Rattle.read_lines.proofs.read_starts.Goals as goal

pub loop-k-init : goal.loop-k-init
loop-k-init c = storing_none

pub returns-then-most-k : goal.returns-then-most-k
returns-then-most-k c = rw c.at.ensures (record { outcome = storing_full c.loop-k.invariant c.loop-k-test.true c.if-most-k.true })

pub returns-in_err-sum : goal.returns-in_err-sum
returns-in_err-sum c = rw (same_error c.from_residual.result _ c.from_residual.ensures.1) (record {
  outcome = storing_stop c.loop-k.invariant c.loop-k-test.true c.if-most-k.false c.in_err-sum.ensures;
})

pub loop-k-preserved : goal.loop-k-preserved
loop-k-preserved c =
    let same : to_z w64 (of_z w64 c.in_ok-sum.sum) ≡ c.in_ok-sum.sum = grind (arith, ints, to_z-of_z) in
    rw same (storing_more c.loop-k.invariant c.loop-k-test.true c.if-most-k.false c.in_ok-sum.ensures (ap (λ x. x % 2 ^ 32) (c.to_word.ensures ∙ ap word_of same)))

pub returns : goal.returns
returns c = record { outcome = storing_all c.loop-k.invariant c.loop-k-test.false }

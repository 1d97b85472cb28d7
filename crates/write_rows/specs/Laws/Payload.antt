-- What is left of the line starts, and what a whole payload leaves in an output.
use Rattle.std.specs.Prelude.{false, List, [], ◌++◌, ◌≡◌, ℕ, ◌+◌, ◌≤◌, ◌<◌, length, get_or, drop}
use Rattle.std.proofs.Common.{◌∙◌, add-one, drop_of_length-le, drop-cons}
use Rattle.payload.specs.Spans.{write_delta}
use Rattle.payload.specs.Writing.{write_starts}
use Rattle.emit.specs.Emit.{limit, Emitted}
use Rattle.emit.specs.Laws.Whole.{measured, stored, whole_length}
use Rattle.write_rows.specs.Payload.{WrittenOut}

pub starts_next : (ss : List ℕ) (k last s : ℕ) → k < length ss → s ≡ get_or ss k 0 → write_starts last (drop k ss) ≡ write_delta last s ++ write_starts s (drop (k + 1) ss)
unfolding write_starts
starts_next ss k last s h e = rw (e, add-one k, drop-cons ss k 0 h)

pub starts_end : (ss : List ℕ) (k last : ℕ) → length ss ≤ k → write_starts last (drop k ss) ≡ []
unfolding write_starts
starts_end ss k last h = rw (drop_of_length-le ss h)

pub written_out : {p o o' b : List ℕ} {r : ℕ} → length b ≤ length o → length o ≤ limit → Emitted false p o o' 0 r b → WrittenOut b o o' r
written_out {o = o} {b = b} h g s = record { length_is = measured s ∙ whole_length b o h g; output_is = stored h s }

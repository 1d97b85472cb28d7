-- `agreed_records` ends, and counts no more records than bytes: each record that agrees has at least one.
use Rattle.std.proofs.Common.{◌-◌, ◌≤◌, length}
use Rattle.replay.proofs.agreed_records.Given as goal

abbrev pub invariant-loop-used : goal.invariant-loop-used
invariant-loop-used l = (l.count ≤ l.end) × (l.end ≤ length l.records)

abbrev pub decreases-loop-used : goal.decreases-loop-used
decreases-loop-used l = length l.records - l.end

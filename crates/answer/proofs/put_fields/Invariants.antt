use mathlib.Core.Path.{◌≡◌}
use lib.ListN.{drop}
use Rattle.slices.specs.Put.{put}
use Rattle.answer.proofs.put_fields.Given as goal

-- the fields that are left, put where the next goes, make the whole
abbrev pub invariant-loop-i : goal.invariant-loop-i
invariant-loop-i l = put l.answer l.i (drop l.i l.fields) ≡ put l.initial.answer 0 l.fields

-- `put_fields` meets its contract: the fields that are left, put where the next goes, make the whole.
use mathlib.Core.Path.{◌≡◌, refl, sym, ap, ◌∙◌}
use mathlib.Core.List.{List}
use Prim.Native.Nat.{ℕ, ◌+◌, ◌<◌}
use native.Mathlib.Numerals.{add-one}
use native.Mathlib.Omega.{arith}
use lib.ListN.{drop, get_or, length, set}
use Rattle.std.proofs.Common.{drop_of_length-le, drop-cons}
use Rattle.slices.specs.Put.{put}
use Rattle.slices.specs.Laws.Put.{put_none, put_cons}
use Rattle.answer.specs.Laws.PutIfRoom.{put_room, put_no_room}
use Rattle.answer.proofs.put_fields.Goals as goal

pub returns-then-answer-fields : goal.returns-then-answer-fields
returns-then-answer-fields c = sym (put_no_room c.args.answer.now 0 c.args.fields.now (omega arith))

next : (t fields : List ℕ) (i : ℕ) → i < length fields → put (set t i (get_or fields i 0)) (i + 1) (drop (i + 1) fields) ≡ put t i (drop i fields)
next t fields i h = put_cons t i (get_or fields i 0) (drop (i + 1) fields) ∙ ap (put t i) (rw (add-one i) (sym (drop-cons fields i 0 h)))

pub loop-i-init : goal.loop-i-init
loop-i-init c = refl

pub loop-i-preserved : goal.loop-i-preserved
loop-i-preserved c = next c.loop-i.answer c.args.fields.now c.loop-i.i (omega arith) ∙ c.loop-i.invariant

pub returns : goal.returns
returns c =
    let answer = c.loop-i.answer in
    let end : drop c.loop-i.i c.args.fields.now ≡ _ = drop_of_length-le c.args.fields.now (omega arith) in
    sym (put_none answer c.loop-i.i) ∙ ap (put answer c.loop-i.i) (sym end) ∙ c.loop-i.invariant ∙ sym (put_room c.args.answer.now 0 c.args.fields.now (omega arith))

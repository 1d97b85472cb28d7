-- `house::are_positions` meets its contract: at each turn `ok` says whether the words passed are positions.
use mathlib.Core.Bool.{Bool, false, true, ◌&&◌}
use mathlib.Core.List.{List}
use mathlib.Core.Path.{◌≡◌, refl, sym, ap, ◌∙◌}
use Prim.Native.Nat.{ℕ, ◌+◌, ◌^◌, ◌≤◌, ◌<◌}
use native.Mathlib.Numerals.{add-one}
use lib.Dec.{ltb}
use lib.ListN.{length, get_or, drop, drop_of_length-le}
use lib.Seq.{drop-cons}
use Rattle.payload.specs.Choice.{◌and◌}
use Rattle.house.specs.Written.{all_positions}
use Rattle.house.proofs.are_positions.Goals as goal

step : (a b r : Bool) → (a and (b and r)) ≡ ((a && b) and r)
unfolding ◌and◌
step true b r = refl
step false b r = refl

next : (ws : List ℕ) (k : ℕ) → k < length ws → all_positions (drop k ws) ≡ (ltb (get_or ws k 0) (2 ^ 63) and all_positions (drop (k + 1) ws))
unfolding all_positions
next ws k h = rw (add-one k, drop-cons ws k 0 h)

none_left : (ok : Bool) (ws : List ℕ) (k : ℕ) → length ws ≤ k → (ok and all_positions (drop k ws)) ≡ ok
unfolding all_positions ◌and◌
none_left true ws k h = rw (drop_of_length-le ws h)
none_left false ws k h = refl

pub loop-word-init : goal.loop-word-init
unfolding ◌and◌
loop-word-init c = refl

pub loop-word-preserved : goal.loop-word-preserved
loop-word-preserved c =
    let loop = c.loop-word in
    let ws = c.args.words.now in
    let k = loop.word-index in
    loop.invariant ∙ ap (λ (r : Bool). loop.ok and r) (next ws k c.loop-word-test.true) ∙ step loop.ok (ltb (get_or ws k 0) (2 ^ 63)) (all_positions (drop (k + 1) ws))

pub returns : goal.returns
returns c = sym (c.loop-word.invariant ∙ none_left c.loop-word.ok c.args.words.now c.loop-word.word-index c.loop-word-test.false)

-- `take_away` meets its contract: the words passed are plain, the others are as they were.
use Prim.Native.Nat.{◌%◌}
use native.Mathlib.Omega.{arith}
use lib.ListN.{get_or}
use Rattle.std.proofs.lemmas.List.{get_or_default}
use Rattle.std.proofs.lemmas.Grind.{common_steps}
use Rattle.std.proofs.lemmas.List.Edits.{map_over_more}
use Rattle.read_items.specs.Context.{hint_base}
use Rattle.deserialize.proofs.PlainWords.{plain_words-map}
use Rattle.deserialize.proofs.hints.take_away.Goals as goal

pub loop-word-preserved : goal.loop-word-preserved
loop-word-preserved c =
    let same = get_or_default c.loop-word.word-items c.loop-word.word-index 0 (get_or c.loop-word.word-items c.loop-word.word-index 0) (omega arith) in
    map_over_more (λ word. word % hint_base) _ _ _ _ (omega arith) c.loop-word.invariant same

pub returns : goal.returns
returns c = grind (arith, common_steps, plain_words-map)

-- A block of ASCII is whole characters.
use mathlib.Core.Path.{refl}
use Rattle.utf8.proofs.Skips.{part_ascii}
use Rattle.utf8.proofs.skip_blocks.Goals as goal

pub skip_while-requires-clause-whole : goal.skip_while-requires-clause-whole
skip_while-requires-clause-whole c = λ i h p. part_ascii _ _ i 32 p.shows h (p.says.met refl)

-- What passes is a character of the width.
use borrow.Author.Rules.{rules}
use Rattle.std.proofs.iter.Serving.{serving}
use Rattle.utf8.proofs.Skips.{part_two, part_three, part_four}
use Rattle.utf8.proofs.skip_run.Goals as goal

pub skip_while-requires-clause-whole : goal.skip_while-requires-clause-whole
skip_while-requires-clause-whole c = λ i h p.
    let said = p.says.met in
    part_two _ _ i p.shows h (search rules)

pub skip_while-requires-in-3-clause-whole : goal.skip_while-requires-in-3-clause-whole
skip_while-requires-in-3-clause-whole c = λ i h p.
    let said = p.says.met in
    part_three _ _ i p.shows h (grind serving)

pub skip_while-requires-in-4-clause-whole : goal.skip_while-requires-in-4-clause-whole
skip_while-requires-in-4-clause-whole c = λ i h p.
    let said = p.says.met in
    part_four _ _ i p.shows h (search rules)

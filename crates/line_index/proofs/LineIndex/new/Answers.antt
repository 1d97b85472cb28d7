-- The front of the table is kept, and the rest is cleared.
use mathlib.Core.Path.{◌≡◌}
use borrow.Author.Rules.{rules}
use native.Mathlib.Omega.{arith}
use Rattle.refusal.specs.Answer.{answer_of}
use Rattle.line_index.specs.LineIndex.{count_of}
use Rattle.line_index.proofs.Table.{cleared}
use Rattle.line_index.proofs.LineIndex.new.Goals as goal

pub returns-clause-starts_after : goal.returns-clause-starts_after
returns-clause-starts_after c =
    let after = c.line_starts-index.ensures.starts_after in
    let used : c.map_or-used.result ≡ count_of (answer_of c.line_starts-index.result) = search rules in
    cleared c.line_starts-index.new.starts _ _ c.map_or-used.result _ (c.fill.ensures.after (λ y e. e)) (omega arith) (rw used after.0) c.line_starts-index.auto.starts

-- `is_name` meets its contract: the string is no name that ends at an index passed.
use mathlib.Core.Path.{refl, sym}
use native.Mathlib.Omega.{arith}
use Rattle.native_names.proofs.Listed.{listed_if, listed_none, listed_is}
use Rattle.native_names.proofs.is_name.Goals.{then-ends_at_hint-via-then-ends_at_hint, then-ends_at_hint-via-else-ends_at_hint+then-ends_at}
use Rattle.native_names.proofs.is_name.Goals as goal

pub returns-then-names-name : goal.returns-then-names-name
returns-then-names-name c = sym (listed_none _ _ _ refl (λ k h w. omega (arith, w.long)))

pub returns-then-ends_at_hint : goal.returns-then-ends_at_hint
returns-then-ends_at_hint c =
    elim c.then-ends_at_hint.branch [
      | then-ends_at_hint-via-then-ends_at_hint w ↦ let hint = c.ends_at_hint.ensures w.if-ends_at_hint.true in sym (listed_if _ _ _ _ hint.0 hint.1)
      | then-ends_at_hint-via-else-ends_at_hint+then-ends_at w ↦ sym (listed_if _ _ _ _ (omega arith) (w.ends_at.ensures.yes w.if-ends_at.true))
    ]

pub returns-then-ends_in_block : goal.returns-then-ends_in_block
returns-then-ends_in_block c =
    let w = c.ends_in_block.ensures.yes c.if-ends_in_block.true in
    sym (listed_if _ _ _ w.0 (omega (arith, w.2)) w.3)

pub returns : goal.returns
returns c =
    listed_is _ _ _ _ _ refl (λ k h. c.loop-block.invariant k (omega arith)) c.ends_between.ensures

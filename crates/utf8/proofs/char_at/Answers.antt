-- The first byte leaves one rule of the grammar, and the code tests that one.
use mathlib.Core.Path.{◌≡◌, sym, ap, ◌∙◌}
use mathlib.Core.Bool.{Bool, true, false, cond}
use Prim.Native.Nat.{ℕ, suc}
use native.Mathlib.Omega.{arith}
use Rattle.std.specs.Bool.{then_some}
use Rattle.utf8.specs.Utf8.{some_width}
use Rattle.utf8.specs.Laws.Utf8.{char_one, char_none, char_two, char_three, char_four}
use Rattle.utf8.proofs.char_at.Goals as goal

-- a width that a test decides
decided : (t : Bool) (w : ℕ) {n : ℕ} → n ≡ cond t (suc w) 0 → then_some t (suc w) ≡ some_width n
unfolding some_width
decided true w e = sym (ap some_width e)
decided false w e = sym (ap some_width e)

pub returns-then-a-lt128 : goal.returns-then-a-lt128
unfolding some_width
returns-then-a-lt128 c = sym (ap some_width (char_one _ _ _ _ (omega arith)))

pub returns-then-a-lt194 : goal.returns-then-a-lt194
unfolding some_width
returns-then-a-lt194 c = sym (ap some_width (char_none _ _ _ _ (omega arith) (omega arith)))

pub returns-then-a-lt224 : goal.returns-then-a-lt224
returns-then-a-lt224 c = c.then_some.ensures ∙ decided _ 1 (char_two _ _ _ _ (omega arith) (omega arith) c.tail.result (cc))

pub returns-then-a-lt240 : goal.returns-then-a-lt240
returns-then-a-lt240 c = c.then_some-then-a-lt240.ensures ∙ decided _ 2 (char_three _ _ _ _ (omega arith) (omega arith) c.three.result (cc))

pub returns : goal.returns
returns c = c.then_some-2.ensures ∙ decided _ 3 (char_four _ _ _ _ (omega arith) c.four.result (cc))

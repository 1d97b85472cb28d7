-- `row_layout::digit` meets its contract: each branch shifts the word that has the entry. Assumes nothing.
use mathlib.Core.Path.{sym}
use native.Mathlib.Omega.{arith}
use Rattle.row_layout.specs.Laws.Digits.{entry_low, entry_middle, entry_high, entry_none}
use Rattle.row_layout.proofs.digit.Goals as goal

pub returns-then-tag-lt16 : goal.returns-then-tag-lt16
returns-then-tag-lt16 c = sym (entry_low _ _ _ _ (omega arith))

pub returns-then-tag-lt32 : goal.returns-then-tag-lt32
returns-then-tag-lt32 c = sym (entry_middle _ _ _ _ (omega arith) (omega arith))

pub returns-then-tag-lt34 : goal.returns-then-tag-lt34
returns-then-tag-lt34 c = sym (entry_high _ _ _ _ (omega arith) (omega arith))

pub returns : goal.returns
returns c = sym (entry_none _ _ _ _ (omega arith))

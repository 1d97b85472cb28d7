-- `ends_in_block` meets its contract: a name that ends in the block passes its test.
use mathlib.Core.Bool.{false≢true}
use mathlib.Core.Path.{◌≡◌, sym, ◌∙◌}
use native.Mathlib.Omega.{arith}
use lib.ListN.{length, take, drop}
use lib.Seq.{take_all}
use Rattle.native_names.proofs.Listed.{may_end}
use Rattle.native_names.proofs.ends_in_block.Goals as goal

pub returns-else-may_end : goal.returns-else-may_end
returns-else-may_end c =
    let no = c.if-may_end.false in
    let x = c.args.name.now in
    let whole : take (length x) (drop 0 x) ≡ x = take_all (length x) x (omega arith) in
    record {
      yes = λ e. absurd (false≢true (sym no ∙ e));
      no = λ e w. c.may_end.ensures no w.0 w.1 w.2 (may_end _ x 0 _ _ _ c.requires.2 (omega (arith, w.1)) (rw whole w.3));
    }

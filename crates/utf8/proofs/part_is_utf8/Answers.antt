-- The two tests leave exactly the parts that lie in the slice.
use Prim.Native.Nat.{ℕ, ◌+◌, ◌-◌}
use mathlib.Core.Path.{◌≡◌, sym, ap, ◌∙◌}
use native.Mathlib.Omega.{arith}
use lib.ListN.{take, drop}
use Rattle.utf8.specs.Utf8.{is_utf8}
use Rattle.utf8.specs.Laws.Utf8.{part_inside, part_outside}
use Rattle.utf8.proofs.part_is_utf8.Goals as goal

pub returns-then-s-from : goal.returns-then-s-from
returns-then-s-from c = sym (part_outside _ _ _ (omega arith))

pub returns-then-s-from-2 : goal.returns-then-s-from-2
returns-then-s-from-2 c = sym (part_outside _ _ _ (omega arith))

pub returns : goal.returns
returns c =
    let a = c.args in
    let n : a.from + a.len - a.from ≡ a.len = omega arith in
    c.is_utf8.ensures ∙ ap (λ (n : ℕ). is_utf8 (take n (drop a.from a.s.now))) n ∙ sym (part_inside _ _ _ (omega arith))

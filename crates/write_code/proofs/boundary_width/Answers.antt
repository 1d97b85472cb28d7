-- `write_code::boundary_width` meets its contract: three numbers below 128 have a byte each.
use Rattle.std.proofs.Common.{◌≡◌, ℕ, ◌+◌, ◌*◌, Bool, true, false, cond, ◌&&◌, ltb, length, ap, ◌∙◌, arith, ltb-true}
use mathlib.Core.Bool.{and-eq-true_iff}
use mir.Val.{bool_byte}
use Rattle.varint.specs.Laws.Uleb128.{uleb_small}
use Rattle.varint.specs.Uleb128.{uleb128}
use Rattle.write_code.proofs.Tests.{at_most_one}
use Rattle.write_code.proofs.boundary_width.Goals as goal

three : (ends p q : Bool) (n x y : ℕ) → ((p && q) && ltb n 128) ≡ true → (p ≡ true → x ≡ 1) → (q ≡ true → y ≡ 1) → 3 * bool_byte ends ≡ cond ends (length (uleb128 n) + (x + y)) 0
three ends p q n x y e f g =
    let all = (and-eq-true_iff (p && q) (ltb n 128)).0 e in
    let both = (and-eq-true_iff p q).0 all.0 in
    go ends (ap length (uleb_small n (ltb-true n 128 all.1))) (f both.0) (g both.1)
  where
    go : (ends : Bool) → length (uleb128 n) ≡ 1 → x ≡ 1 → y ≡ 1 → 3 * bool_byte ends ≡ cond ends (length (uleb128 n) + (x + y)) 0
    go true h k l = omega arith
    go false h k l = omega arith

pub returns-then-is_near-n : goal.returns-then-is_near-n
returns-then-is_near-n c =
    let args = c.args in (
      ap (λ (k : ℕ). 3 * k) c.from.ensures
          ∙ three args.ends _ _ args.n _ _ c.if-is_near-n.true c.is_near.ensures c.is_near-2.ensures,
      omega (arith, at_most_one),
    )

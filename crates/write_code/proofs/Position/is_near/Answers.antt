-- `write_code::Position::is_near` meets its contract: the zigzag of a delta from -64 to 63 is below 128.
use Rattle.std.proofs.Common.{◌≡◌, ℕ, zero, suc, ◌+◌, ◌%◌, ◌^◌, ◌<◌, ◌≤◌, Bool, true, false, ltb, length, refl, ap, arith, ltb-false, ltb-true}
use lib.IntN.{sub_ℕ}
use Rattle.varint.specs.Laws.Uleb128.{uleb_small}
use Rattle.signed.specs.Signed.{zigzag_of}
use Rattle.payload.specs.Spans.{write_delta}
use Rattle.write_code.proofs.Position.is_near.Goals as goal

below : (o n : ℕ) → o ≤ n + 64 → n < o + 64 → zigzag_of (sub_ℕ n o) < 128
below o n h l = go (ltb n o) refl
  where
    go : (t : Bool) → ltb n o ≡ t → zigzag_of (sub_ℕ n o) < 128
    go true e = rw e (omega (arith, ltb-true n o e))
    go false e = rw e (omega (arith, ltb-false n o e))

near : (o n : ℕ) → o ≤ n + 64 → n < o + 64 → length (write_delta o n) ≡ 1
unfolding write_delta
near zero n h l = ap length (uleb_small _ (omega arith))
near (suc o) n h l = ap length (uleb_small _ (below (suc o) n h l))

wrapped : (o n w : ℕ) → o < 2 ^ 63 → n < 2 ^ 63 → (w + o) % 2 ^ 64 ≡ n + 64 → w < 128 → (o ≤ n + 64) × (n < o + 64)
wrapped o n w h l e g = (omega arith, omega arith)

pub returns : goal.returns
returns c e =
    let a = c.args in
    let h = wrapped a.self.offset a.new.offset c.wrapping_sub_u64.result a.self.small a.new.small c.wrapping_sub_u64.ensures.value (ltb-true _ _ e) in
    near a.self.offset a.new.offset h.0 h.1

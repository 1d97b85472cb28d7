-- `house::house_check` meets its contract: the read's refusal, or what the read left where the payload passes, or zeros and 19.
use Rattle.std.proofs.Common.{arith, ap, length, refl, ◌∙◌}
use Rattle.refusal.specs.Laws.Errors.{same_error}
use Rattle.slices.specs.Laws.LittleEndian.{Bytes}
use Rattle.slices.specs.Zeros.{zeros}
use Rattle.house.specs.Laws.Leaves.{refused_leaves, accepted_read, passed_leaves, failed_leaves}
use Rattle.house.specs.Laws.Written.{was_read}
use Rattle.house.proofs.house_check.Goals as goal

pub is_house_written-requires : goal.is_house_written-requires
is_house_written-requires c =
    let d = c.deserialize_payload.auto in
    accepted_read _ _ _ _ _ _ c.in_ok-counts.ensures d.rows d.spans d.starts d.pool _ refl

pub returns-then-is_house_written : goal.returns-then-is_house_written
returns-then-is_house_written c =
    let d = c.deserialize_payload.auto in
    let bytes : Bytes c.args.payload.now = λ k. omega (arith, c.type_inv.payload k) in
    let left = accepted_read _ _ _ _ _ _ c.in_ok-counts.ensures d.rows d.spans d.starts d.pool _ refl in
    rw c.is_house_written.ensures.pool_unchanged
    (passed_leaves _ _ _ _ _ _ c.in_ok-counts.ensures d.rows d.spans d.starts d.pool _ refl (was_read left bytes) c.if-is_house_written.ensures.value)

pub returns : goal.returns
returns c =
    let d = c.deserialize_payload.auto in
    let bytes : Bytes c.args.payload.now = λ k. omega (arith, c.type_inv.payload k) in
    let left = accepted_read _ _ _ _ _ _ c.in_ok-counts.ensures d.rows d.spans d.starts d.pool _ refl in
    rw c.at.ensures
    (failed_leaves _ _ _ _ _ _ c.in_ok-counts.ensures d.rows d.spans d.starts d.pool _ refl (was_read left bytes) c.if-is_house_written.ensures.value
    (c.fill.ensures.after (λ y e. e)) (c.fill-2.ensures.after (λ y e. e)) (c.fill-3.ensures.after (λ y e. e))
    (c.fill-4.ensures.after (λ y e. e) ∙ ap (λ l. zeros (length l)) c.is_house_written.ensures.pool_unchanged))

pub returns-in_err-counts : goal.returns-in_err-counts
returns-in_err-counts c =
    let d = c.deserialize_payload.auto in
    rw (same_error c.from_residual.result _ c.from_residual.ensures.1)
    (refused_leaves _ _ _ _ _ _ c.in_err-counts.ensures d.rows d.spans d.starts d.pool _ _ refl)

-- `deserialize_payload` meets its contract: the size, the pool, then what stands after it, and zeros behind the strings.
use Rattle.std.specs.Prelude.{◌≡◌, ◌*◌, cond}
use Rattle.std.specs.Result.{is_ok}
use Rattle.std.proofs.Common.{arith, rules, sym, ap}
use lib.Seq.{length-take-le}
use Rattle.slices.specs.Laws.LittleEndian.{Bytes}
use Rattle.deserialize.proofs.Script.{leaves_in}
use Rattle.deserialize.proofs.Tables.{has_room, strings_fit, strings_few, pool_at_begin, pool_room, pool_plain, pool_inside, too_large, no_pool_read, payload_leaves, pool_padded, refused_payload}
use Rattle.deserialize.proofs.deserialize_payload.Goals.{then-is_ok, else-is_ok}
use Rattle.deserialize.proofs.deserialize_payload.Goals as goal

pub invariant_of-tables : goal.invariant_of-tables
invariant_of-tables c = record { room = has_room _ c.of-capacities.ensures }

pub invariant_of-tables-in-Err : goal.invariant_of-tables-in-Err
invariant_of-tables-in-Err c = record { room = has_room _ c.of-capacities.ensures }

pub invariant_of-tables-2 : goal.invariant_of-tables-2
invariant_of-tables-2 c = record { room = has_room _ c.of-capacities.ensures }

pub returns-then-bytes-gt-SIZE : goal.returns-then-bytes-gt-SIZE
returns-then-bytes-gt-SIZE c =
    rw c.at.ensures (refused_payload (too_large _ _ _ c.if-bytes-gt-SIZE.true) (search rules) (search rules) (search rules) (c.fill.ensures.after (λ y e. e)))

pub read_pool-requires : goal.read_pool-requires
read_pool-requires c = strings_fit _ _ _ _ c.of-capacities.ensures

pub overflow_mul-end : goal.overflow_mul-end
overflow_mul-end c =
    let pool = rw c.in-Ok.is at c.read_pool.ensures.outcome in
    omega (arith, pool.fits, strings_few _ _ _ _ c.of-capacities.ensures)

pub slice_bounds-read_hinted-end : goal.slice_bounds-read_hinted-end
slice_bounds-read_hinted-end c =
    let begin = c.new-cursor.ensures in
    let pool = rw c.in-Ok.is at c.read_pool.ensures.outcome in
    pool_room (ap (λ b. b.now) begin.0) pool (strings_fit _ _ _ _ c.of-capacities.ensures)

pub slice_bounds-read_hinted-end-2 : goal.slice_bounds-read_hinted-end-2
slice_bounds-read_hinted-end-2 c =
    let over = ap (λ b. b.now) c.new-cursor.ensures.0 in
    let pool = rw c.in-Ok.is at c.read_pool.ensures.outcome in
    sym (length-take-le (2 * c.in-Ok.count) c.read_pool.new.pool (pool_room over pool (strings_fit _ _ _ _ c.of-capacities.ensures)))

pub read_hinted-counts-requires-clause-pool_fits : goal.read_hinted-counts-requires-clause-pool_fits
read_hinted-counts-requires-clause-pool_fits c =
    let over = ap (λ b. b.now) c.new-cursor.ensures.0 in
    let pool = rw c.in-Ok.is at c.read_pool.ensures.outcome in
    pool_inside over pool (strings_fit _ _ _ _ c.of-capacities.ensures) c.if-bytes-gt-SIZE.false

pub read_hinted-counts-requires-clause-pool_value : goal.read_hinted-counts-requires-clause-pool_value
read_hinted-counts-requires-clause-pool_value c =
    let over = ap (λ b. b.now) c.new-cursor.ensures.0 in
    let pool = rw c.in-Ok.is at c.read_pool.ensures.outcome in
    pool_plain over pool (strings_fit _ _ _ _ c.of-capacities.ensures) c.if-bytes-gt-SIZE.false

pub returns-in-Err : goal.returns-in-Err
returns-in-Err c =
    let begin = c.new-cursor.ensures in
    let pool = rw c.in-Err.is at c.read_pool.ensures in
    rw (← c.of-capacities.ensures)
    (refused_payload (no_pool_read c.of-capacities.result _ _ c.if-bytes-gt-SIZE.false (pool_at_begin _ (ap (λ b. b.now) begin.0) begin.1 pool.outcome))
    (search rules) (search rules) (search rules) pool.cleared)

pub returns : goal.returns
returns c =
    let x = c.args in
    let begin = c.new-cursor.ensures in
    let over = ap (λ b. b.now) begin.0 in
    let n = c.in-Ok.count in
    let pool = rw c.in-Ok.is at c.read_pool.ensures.outcome in
    let room = strings_fit _ _ _ _ c.of-capacities.ensures in
    let small = c.if-bytes-gt-SIZE.false in
    let bytes : Bytes x.bytes.now = λ k. omega (arith, c.type_inv.bytes k) in
    let read = c.read_hinted-counts.ensures in
    let used : c.if-is_ok.used ≡ cond (is_ok c.read_hinted-counts.result) (2 * n) 0 =
    elim c.if-is_ok.branch [ then-is_ok w ↦ rw (← w.if-is_ok.ensures.value) w.used-is | else-is_ok w ↦ rw (← w.if-is_ok.ensures.value) w.used-is ] in
    rw (← c.of-capacities.ensures)
    (payload_leaves c.of-capacities.result x.names.now x.bytes.now small over begin.1 room pool bytes (leaves_in read.reads_script.leaves (search rules) (search rules) (search rules))
    (pool_padded c.of-capacities.result x.names.now x.bytes.now small over begin.1 room pool c.read_hinted-counts.result read.pool_unchanged used c.zero_from.ensures))

-- `house::is_house_written` meets its contract: each test is one that a house-written payload passes, of the tables that were read.
use Rattle.std.proofs.Common.{refl, take-append-drop, ◌≡◌, List, ℕ, ◌*◌, ◌++◌, get_or, take, drop, length-take-le, Fits, w8, sym, ap, ◌∙◌, arith}
use Rattle.slices.specs.Laws.LittleEndian.{Bytes}
use Rattle.payload.specs.declared.Counts.{Counts}
use Rattle.house.specs.Written.{AcceptedRead}
use Rattle.house.specs.Laws.Written.{WasRead, was_read, not_consumed, not_positions, others_met, all_met, not_once, pool_parts, is_sound, store_short, table_gathered, writing_is}
use Rattle.house.proofs.is_house_written.Goals as goal

in_bytes : (p : List ℕ) → ((i : ℕ) → Fits w8 (get_or p i 0)) → Bytes p
in_bytes p f k = omega (arith, f k)

payload_read : {names p rows spans starts pool : List ℕ} {n : Counts} → AcceptedRead names p rows spans starts pool n → ((i : ℕ) → Fits w8 (get_or p i 0)) → WasRead names p rows spans starts pool n
payload_read h f = was_read h (in_bytes _ f)

-- the pool table is as it was read
restored : (k : ℕ) (pool : List ℕ) {l : List ℕ} → l ≡ take k pool → l ++ drop k pool ≡ pool
restored k pool e = rw e (take-append-drop k pool)

pub returns-then-counts-payload-clause-value : goal.returns-then-counts-payload-clause-value
returns-then-counts-payload-clause-value c =
    let bytes = in_bytes c.args.payload.now c.type_inv.payload in not_consumed (was_read c.requires bytes) bytes (λ q. omega arith)

pub in_tables-tables-requires : goal.in_tables-tables-requires
in_tables-tables-requires c = let left = payload_read c.requires c.type_inv.payload in rw c.from.ensures (left.rows_fit, left.spans_fit, left.starts_fit)

pub overflow_mul-pool_end : goal.overflow_mul-pool_end
overflow_mul-pool_end c = omega (arith, (payload_read c.requires c.type_inv.payload).strings_fit)

pub returns-then-not-are_positions-clause-value : goal.returns-then-not-are_positions-clause-value
returns-then-not-are_positions-clause-value c =
    let bytes = in_bytes c.args.payload.now c.type_inv.payload in not_positions (was_read c.requires bytes) bytes c.from.ensures c.in_tables-tables.ensures c.if-not-are_positions.ensures

pub slice_bounds-strings_met-end : goal.slice_bounds-strings_met-end
slice_bounds-strings_met-end c = (payload_read c.requires c.type_inv.payload).strings_fit

pub slice_bounds-strings_met-end-2 : goal.slice_bounds-strings_met-end-2
slice_bounds-strings_met-end-2 c = sym (length-take-le _ c.args.pool.now (payload_read c.requires c.type_inv.payload).strings_fit)

pub returns-then-ne-clause-value : goal.returns-then-ne-clause-value
returns-then-ne-clause-value c =
    let bytes = in_bytes c.args.payload.now c.type_inv.payload in
    others_met (was_read c.requires bytes) bytes c.from.ensures c.in_tables-tables.ensures (sym c.if-not-are_positions.ensures) _ c.strings_met.ensures c.if-ne.ensures

pub are_distinct-requires : goal.are_distinct-requires
are_distinct-requires c = let bytes = in_bytes c.args.payload.now c.type_inv.payload in pool_parts (was_read c.requires bytes) bytes

pub returns-then-not-are_distinct-clause-value : goal.returns-then-not-are_distinct-clause-value
returns-then-not-are_distinct-clause-value c =
    let bytes = in_bytes c.args.payload.now c.type_inv.payload in not_once (was_read c.requires bytes) bytes c.if-not-are_distinct.ensures.value

pub returns-then-not-are_distinct-clause-pool_unchanged : goal.returns-then-not-are_distinct-clause-pool_unchanged
returns-then-not-are_distinct-clause-pool_unchanged c = restored _ _ c.are_distinct.ensures.pool_unchanged

pub is_writing-requires-clause-payload_len_bound : goal.is_writing-requires-clause-payload_len_bound
is_writing-requires-clause-payload_len_bound c =
    let bytes = in_bytes c.args.payload.now c.type_inv.payload in store_short (was_read c.requires bytes) bytes c.from.ensures c.in_tables-tables.ensures

pub is_writing-requires-clause-script : goal.is_writing-requires-clause-script
is_writing-requires-clause-script c =
    let bytes = in_bytes c.args.payload.now c.type_inv.payload in is_sound (was_read c.requires bytes) bytes c.from.ensures c.in_tables-tables.ensures (sym c.if-not-are_positions.ensures)

pub is_writing-requires-clause-pool_value : goal.is_writing-requires-clause-pool_value
is_writing-requires-clause-pool_value c =
    let bytes = in_bytes c.args.payload.now c.type_inv.payload in
    let left = was_read c.requires bytes in
    let sound = sym c.if-not-are_positions.ensures in
    ap (take (2 * c.args.counts.strings)) (restored _ _ c.are_distinct.ensures.pool_unchanged)
    ∙ table_gathered left bytes c.from.ensures c.in_tables-tables.ensures sound
    (all_met left bytes c.from.ensures c.in_tables-tables.ensures sound _ c.strings_met.ensures c.if-ne.ensures) refl (sym c.if-not-are_distinct.ensures.value)

pub returns-clause-value : goal.returns-clause-value
returns-clause-value c =
    let bytes = in_bytes c.args.payload.now c.type_inv.payload in
    c.is_writing.ensures ∙ writing_is (was_read c.requires bytes) bytes c.from.ensures c.in_tables-tables.ensures (sym c.if-not-are_positions.ensures) (omega arith)

pub returns-clause-pool_unchanged : goal.returns-clause-pool_unchanged
returns-clause-pool_unchanged c = restored _ _ c.are_distinct.ensures.pool_unchanged

-- `read_head` meets its contract: each class has its law.
use Rattle.std.specs.Prelude.{[], ◌≡◌, refl}
use Rattle.std.proofs.Common.{◌⊎◌, ⊎_elim, arith}
use Rattle.payload.specs.Numbers.{bool, char, f32, f64, read_number, u8}
use Rattle.payload.specs.Shapes.{kinds_of}
use Rattle.refusal.specs.Laws.Errors.{same_error}
use Rattle.scalar.specs.Scalar.{const_of, row_of, words_of}
use Rattle.read_items.specs.Laws.Over.{fits_still, over_by}
use Rattle.read_heads.specs.Class.{shape_of}
use Rattle.read_heads.specs.Laws.Heads.{Counts, counts_keys, counts_pairs, counts_values, follows_none, follows_one, head_bare, head_count, head_keeps_payload, head_named, head_string}
use Rattle.read_heads.specs.Laws.Heads.{named_function, named_record, no_count, no_named, no_string, number_not_read, number_read}
use Rattle.read_heads.specs.Laws.Scalars.{fits_bool, fits_byte, fits_char, fits_cut, fits_float, fits_sfloat}
use Rattle.read_heads.specs.declared.Class.{Class}
use Rattle.read_heads.specs.declared.Class.TheVariants.{Values, Keys, Pairs}
use Rattle.read_heads.proofs.read_head.Goals as goal

counts : {class : Class} → (class ≡ Values) ⊎ ((class ≡ Keys) ⊎ (class ≡ Pairs)) → Counts (shape_of class)
unfolding shape_of
counts = ⊎_elim (λ e. rw e counts_values) (⊎_elim (λ e. rw e counts_keys) (λ e. rw e counts_pairs))

pub scalar_head-requires : goal.scalar_head-requires
unfolding const_of row_of words_of
scalar_head-requires c = refl

pub returns-in-Empty : goal.returns-in-Empty
unfolding shape_of
returns-in-Empty c = rw (c.in-Empty.is, c.scalar_head.ensures) (record { same_pool = refl; moves = head_bare follows_none })

pub returns-in_err-read_cut-in-Varint : goal.returns-in_err-read_cut-in-Varint
unfolding shape_of
returns-in_err-read_cut-in-Varint c = number_not_read _ (rw c.in-Varint.is refl) refl _ c.from_residual.ensures.1 c.in_err-read_cut-in-Varint.ensures

pub cut_head-requires : goal.cut_head-requires
cut_head-requires c = fits_cut c.in-Varint.cut c.in_ok-read_cut-in-Varint.ensures

pub returns-in_ok-read_cut-in-Varint : goal.returns-in_ok-read_cut-in-Varint
unfolding shape_of
returns-in_ok-read_cut-in-Varint c = rw c.cut_head.ensures (number_read _ (rw c.in-Varint.is refl) refl c.in_ok-read_cut-in-Varint.ensures)

pub returns-in_err-byte-in-Byte : goal.returns-in_err-byte-in-Byte
unfolding shape_of read_number
returns-in_err-byte-in-Byte c = number_not_read u8 (rw c.in-Byte.is refl) refl _ c.from_residual-in_err-byte-in-Byte.ensures.1 c.in_err-byte-in-Byte.ensures.advances

pub scalar_head-requires-in-Byte : goal.scalar_head-requires-in-Byte
scalar_head-requires-in-Byte c = fits_byte (omega (arith, c.from.ensures))

pub returns-in_ok-byte-in-Byte : goal.returns-in_ok-byte-in-Byte
unfolding shape_of read_number
returns-in_ok-byte-in-Byte c = rw (c.scalar_head-in-Byte.ensures, c.from.ensures) (number_read u8 (rw c.in-Byte.is refl) refl c.in_ok-byte-in-Byte.ensures.advances)

pub returns-in_err-read_bool-in-Bool : goal.returns-in_err-read_bool-in-Bool
unfolding shape_of
returns-in_err-read_bool-in-Bool c = number_not_read bool (rw c.in-Bool.is refl) refl _ c.from_residual-in_err-read_bool-in-Bool.ensures.1 c.in_err-read_bool-in-Bool.ensures

pub scalar_head-requires-in-Bool : goal.scalar_head-requires-in-Bool
scalar_head-requires-in-Bool c = fits_bool c.in_ok-read_bool-in-Bool.ensures

pub returns-in_ok-read_bool-in-Bool : goal.returns-in_ok-read_bool-in-Bool
unfolding shape_of
returns-in_ok-read_bool-in-Bool c = rw c.scalar_head-in-Bool.ensures (number_read bool (rw c.in-Bool.is refl) refl c.in_ok-read_bool-in-Bool.ensures)

pub returns-in_err-read_char-in-Char : goal.returns-in_err-read_char-in-Char
unfolding shape_of
returns-in_err-read_char-in-Char c = number_not_read char (rw c.in-Char.is refl) refl _ c.from_residual-in_err-read_char-in-Char.ensures.1 c.in_err-read_char-in-Char.ensures

pub scalar_head-requires-in-Char : goal.scalar_head-requires-in-Char
scalar_head-requires-in-Char c = fits_char c.in_ok-read_char-in-Char.ensures

pub returns-in_ok-read_char-in-Char : goal.returns-in_ok-read_char-in-Char
unfolding shape_of
returns-in_ok-read_char-in-Char c = rw c.scalar_head-in-Char.ensures (number_read char (rw c.in-Char.is refl) refl c.in_ok-read_char-in-Char.ensures)

pub returns-in_err-read_float-in-Float : goal.returns-in_err-read_float-in-Float
unfolding shape_of read_number
returns-in_err-read_float-in-Float c = number_not_read f64 (rw c.in-Float.is refl) refl _ c.from_residual-in_err-read_float-in-Float.ensures.1 c.in_err-read_float-in-Float.ensures.advances

pub scalar_head-requires-in-Float : goal.scalar_head-requires-in-Float
scalar_head-requires-in-Float c = fits_float (omega arith)

pub returns-in_ok-read_float-in-Float : goal.returns-in_ok-read_float-in-Float
unfolding shape_of read_number
returns-in_ok-read_float-in-Float c = rw c.scalar_head-in-Float.ensures (number_read f64 (rw c.in-Float.is refl) refl c.in_ok-read_float-in-Float.ensures.advances)

pub returns-in_err-read_float-in-SFloat : goal.returns-in_err-read_float-in-SFloat
unfolding shape_of read_number
returns-in_err-read_float-in-SFloat c = number_not_read f32 (rw c.in-SFloat.is refl) refl _ c.from_residual-in_err-read_float-in-SFloat.ensures.1 c.in_err-read_float-in-SFloat.ensures.advances

pub scalar_head-requires-in-SFloat : goal.scalar_head-requires-in-SFloat
scalar_head-requires-in-SFloat c = fits_sfloat c.in_ok-read_float-in-SFloat.ensures.small

pub returns-in_ok-read_float-in-SFloat : goal.returns-in_ok-read_float-in-SFloat
unfolding shape_of read_number
returns-in_ok-read_float-in-SFloat c = rw c.scalar_head-in-SFloat.ensures (number_read f32 (rw c.in-SFloat.is refl) refl c.in_ok-read_float-in-SFloat.ensures.advances)

pub returns-in_err-string-in-Str : goal.returns-in_err-string-in-Str
unfolding shape_of kinds_of
returns-in_err-string-in-Str c =
    let r = c.from_residual-in_err-string-in-Str in
    rw (c.in-Str.is, same_error r.result _ r.ensures.1) (over_by (no_string refl) c.in_err-string-in-Str.ensures)

pub returns-in_ok-string-in-Str : goal.returns-in_ok-string-in-Str
unfolding shape_of
returns-in_ok-string-in-Str c = rw (c.in-Str.is, c.of_part.ensures) (over_by (head_string follows_none) c.in_ok-string-in-Str.ensures)

pub returns-in_err-name-in-Function : goal.returns-in_err-name-in-Function
returns-in_err-name-in-Function c =
    let r = c.from_residual-in_err-name-in-Function in
    rw (c.in-Function.is, same_error r.result _ r.ensures.1) (over_by (no_named named_function) c.in_err-name-in-Function.ensures)

pub returns-in_ok-name-in-Function : goal.returns-in_ok-name-in-Function
returns-in_ok-name-in-Function c = rw (c.in-Function.is, c.of_named.ensures) (over_by (head_named named_function) c.in_ok-name-in-Function.ensures)

pub returns-in-OneValue : goal.returns-in-OneValue
unfolding shape_of
returns-in-OneValue c =
    let d = c.default.ensures in
    rw (c.in-OneValue.is, d.0, d.1.0, d.1.1.0, d.1.1.1.0) (record { same_pool = refl; moves = head_bare follows_one })

pub returns-in_err-uvarint-in-Values : goal.returns-in_err-uvarint-in-Values
returns-in_err-uvarint-in-Values c =
    let r = c.from_residual-in_err-uvarint-in-Values in
    rw (same_error r.result _ r.ensures.1) (record { same_pool = refl; moves = no_count (counts c.in-Values.is) c.in_err-uvarint-in-Values.ensures.advances })

pub returns-in_ok-uvarint-in-Values : goal.returns-in_ok-uvarint-in-Values
returns-in_ok-uvarint-in-Values c = rw c.of_count.ensures (record { same_pool = refl; moves = head_count (counts c.in-Values.is) c.in_ok-uvarint-in-Values.ensures.advances })

pub returns-in_err-name-in-Record : goal.returns-in_err-name-in-Record
returns-in_err-name-in-Record c =
    let r = c.from_residual-in_err-name-in-Record in
    rw (c.in-Record.is, same_error r.result _ r.ensures.1) (over_by (no_named named_record) c.in_err-name-in-Record.ensures)

pub returns-in_ok-name-in-Record : goal.returns-in_ok-name-in-Record
returns-in_ok-name-in-Record c = rw (c.in-Record.is, c.of_named-in-Record.ensures) (over_by (head_named named_record) c.in_ok-name-in-Record.ensures)

pub returns-in-Tag : goal.returns-in-Tag
returns-in-Tag c = rw c.in-Tag.is (c.read_tag_head.ensures c.args.names.now)

pub invariant_of-items-in-Closure : goal.invariant_of-items-in-Closure
invariant_of-items-in-Closure c =
    let s = c.args.items.now in
    record { pool_fits = fits_still s.pool.now (head_keeps_payload (c.read_closure_head.ensures [] [])) s.pool_fits }

pub invariant_of-items-in-Handle : goal.invariant_of-items-in-Handle
invariant_of-items-in-Handle c =
    let s = c.args.items.now in
    record { pool_fits = fits_still s.pool.now (head_keeps_payload (c.read_handle_head.ensures [] [])) s.pool_fits }

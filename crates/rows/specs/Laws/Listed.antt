-- What is listed is the listing of what a read leaves, of at most as many rows as its tables hold.
use Rattle.std.specs.Prelude.{List, ◌≡◌, refl, ℕ, ◌+◌, ◌-◌, ◌*◌, ◌/◌, ◌<◌, ◌≤◌, get_or, length}
use Rattle.std.proofs.Common.{◌∙◌, ap, ap₂, sym, arith, length-append, le-ltb, lt-ltb}
use Rattle.std.proofs.lemmas.List.{length-replicate}
use Rattle.slices.specs.Zeros.{pad_to}
use Rattle.payload.specs.Answers.{read_fields}
use Rattle.payload.specs.Choice.{when◌then◌else◌}
use Rattle.payload.specs.Reader.{Result, ok, refused}
use Rattle.payload.specs.Reading.{Payload}
use Rattle.payload.specs.Rows.{row_width}
use Rattle.payload.specs.Tables.{Leaves, fields_of, read_answer, used_rows}
use Rattle.payload.specs.Answers.{Read}
use Rattle.refusal.specs.Answer as read
use Rattle.listing.specs.Laws.Listing.{listing_padded}
use Rattle.listing.specs.Listing.{listed_rows, listing, row_lines}
use Rattle.rows.specs.Listed.{listed, listed_limit, table_reading}

-- the rows of an answer are the third of its fields
listed_field : (r : Read) → listed_rows r ≡ get_or (read_fields r) 2 0
unfolding listed_rows
listed_field (read.accepted c) = refl
listed_field (read.refused number place) = refl

used_field : (x : Result Payload) → get_or (fields_of x) 2 0 ≡ length (used_rows x) / row_width
unfolding fields_of used_rows
used_field (ok u s) = refl
used_field (refused n q) = refl

-- the rows that a read says are used stand in its table
pub listed_rows_lem : {x : Result Payload} {rows spans starts pool rows' spans' starts' pool' : List ℕ} {r : Read}
    → Leaves x rows spans starts pool rows' spans' starts' pool' r → length rows' ≡ length rows → row_width * listed_rows r ≤ length rows
listed_rows_lem {x} {rows} {r = r} l kept =
    let used : listed_rows r ≡ length (used_rows x) / row_width = listed_field r ∙ ap (λ (f : List ℕ). get_or f 2 0) l.fields ∙ used_field x in
    let padded : length (pad_to (length rows) (used_rows x)) ≡ length rows = ap length (sym l.rows_are) ∙ kept in
    let words : length (pad_to (length rows) (used_rows x)) ≡ length (used_rows x) + (length rows - length (used_rows x)) = simp (length-append, length-replicate) in
    omega arith

-- a payload that is read
pub listed_read : (bytes : List ℕ) {rows spans starts pool rows' spans' starts' pool' : List ℕ} {r : Read} → length bytes ≤ listed_limit
    → Leaves (table_reading bytes) rows spans starts pool rows' spans' starts' pool' r → listing r rows' ≡ listed bytes
unfolding listed when◌then◌else◌
listed_read bytes {rows} h l = rw (le-ltb listed_limit (length bytes) h)
    (ap₂ listing l.answer l.rows_are ∙ listing_padded (read_answer (table_reading bytes)) (used_rows (table_reading bytes)) (length rows))

-- one that is too long
pub listed_long : (bytes rows : List ℕ) → listed_limit < length bytes → listing (read.refused 16 0) rows ≡ listed bytes
unfolding listed when◌then◌else◌ listing listed_rows row_lines
listed_long bytes rows h = rw (lt-ltb listed_limit (length bytes) h)

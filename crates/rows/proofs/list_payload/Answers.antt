-- `list_payload` meets its contract: its text is the listing of what the read leaves.
use Rattle.std.proofs.Common.{◌≡◌, ℕ, ◌*◌, ◌≤◌, List, length, sym, ap, ◌∙◌, arith}
use lib.ListN.{length-replicate}
use lib.Seq.{length-take-le}
use Rattle.std.specs.Counts.{IsPrefixLen}
use Rattle.slices.specs.Put.{put}
use Rattle.payload.specs.Rows.{row_width}
use Rattle.listing.specs.Listing.{listed_rows}
use Rattle.rows.specs.Listed.{table_reading}
use Rattle.rows.specs.Laws.Listed.{listed_long, listed_read, listed_rows_lem}
use Rattle.rows.proofs.list_payload.Goals as goal

-- what the contract says of a text
record Says (out text : List ℕ) (r : ℕ) (out' : List ℕ) : Type 0 where
  value : r ≡ length text
  out_after : out' ≡ put out 0 text
  prefix_len : IsPrefixLen r out'

-- a text, under the name of the contract
says : (out : List ℕ) {out' text text' : List ℕ} {r : ℕ} → text ≡ text' → r ≡ length text → out' ≡ put out 0 text → r ≤ length out' → Says out text' r out'
says out {out'} {r = r} e p q h = record { value = p ∙ ap length e; out_after = q ∙ ap (put out 0) e; prefix_len = (h, sym (length-take-le r out' h)) }

pub put_listing-requires : goal.put_listing-requires
unfolding listed_rows
put_listing-requires c = omega arith

pub returns-then-bytes-gt-PAYLOAD : goal.returns-then-bytes-gt-PAYLOAD
returns-then-bytes-gt-PAYLOAD c =
    let told = rw c.at.ensures at c.put_listing.ensures in
    let s = says c.args.out.now (listed_long _ _ c.if-bytes-gt-PAYLOAD.true) told.value told.out_after told.upper_bound in
    record { value = s.value; out_after = s.out_after; prefix_len = s.prefix_len }

pub put_listing-requires-2 : goal.put_listing-requires-2
put_listing-requires-2 c =
    let read = c.deserialize_payload-answer in
    omega (arith, listed_rows_lem read.ensures read.auto.rows, read.auto.rows, length-replicate {A = ℕ} (row_width * 512) 0, c.told-out)

pub returns : goal.returns
unfolding table_reading
returns c =
    let told = c.put_listing-2.ensures in
    let s = says c.args.out.now (listed_read c.args.bytes.now c.if-bytes-gt-PAYLOAD.false c.deserialize_payload-answer.ensures) told.value told.out_after told.upper_bound in
    record { value = s.value; out_after = s.out_after; prefix_len = s.prefix_len }

-- Document 01's proof table, whole: each line is computed from the definitions.
use Rattle.std.specs.Prelude.{true, List, [], ◌++◌, ◌∷◌, ◌≡◌, refl, ◌-◌, ◌^◌, ℕ, negsuc, replicate}
use Rattle.slices.specs.LittleEndian.{from_le_bytes, to_le_bytes}
use Rattle.slices.specs.Same.{same}
use Rattle.utf8.specs.Utf8.{char_of, is_four, is_one, is_three, is_two, passes}
use Rattle.signed.specs.Signed.{zigzag_of}
use Rattle.varint.specs.Uleb128.{groups, uleb128}
use Rattle.varint.specs.Varint.{scan, varint_of}
use Rattle.payload.specs.Choice.{◌and◌, when◌then◌else◌}
use Rattle.payload.specs.House.{all_named, checked, house, house_written, is_ok}
use Rattle.payload.specs.Names.{is_listed, names_of, onto}
use Rattle.payload.specs.Numbers.{after_varint, char, cut_tested, cut_to, cut_to_signed, fits_kind, fits_signed, handle, is_scalar, read_float, read_number, varint, write_number}
use Rattle.payload.specs.Pool.{index_of, interned, is_in}
use Rattle.payload.specs.Reader.{Part, Result, ◌>>=◌, ◌>>◌, and_then, body, byte, first_byte, here, must, new_row, new_spans, ok, pure, refused, start}
use Rattle.payload.specs.Reading.{Context, Payload, node_key, read_chunk, read_flagged, read_item, read_items, read_keys, read_kids, read_line_index, read_many, read_one, read_pairs}
use Rattle.payload.specs.Reading.{read_payload, read_pool, read_pool_index, read_shape, read_starts, read_string, read_strings, read_untagged, read_value, test_key}
use Rattle.payload.specs.declared.Capacities.{Capacities}
use Rattle.payload.specs.Rows.{count_words, item_words, items_spans, items_words, kids_count_words, kind_width, kinds_width, part_words, root_count, row_table, row_words, span_table, unused_words}
use Rattle.payload.specs.Scan.{end_row, finish_row, first_word, is_function, next_word, row_must, scan_count, scan_item, scan_items, scan_keys, scan_kids, scan_outer, scan_pairs}
use Rattle.payload.specs.Scan.{scan_part, scan_shape, scan_string, scan_untagged, scan_value, scan_with_kids, zero_words}
use Rattle.payload.specs.Shapes.{is_key_tag, kinds_of, shape, shapes}
use Rattle.payload.specs.Sound.{all_starts, give, give_item, give_items, give_node, is_nil, line_of, line_sound, no_more_rows, script_of, sound_script, spans_of, spans_sound}
use Rattle.payload.specs.Spans.{expand, join, read_code, read_position, read_runs, runs_of, same_span, small_spans, total, write_code, write_delta, write_deltas, write_runs}
use Rattle.payload.specs.Tables.{capacities_of, line_flag, line_name, line_starts, parts_words, reading, span_words, tables_of}
use Rattle.payload.specs.Trees.{cons, forget_item, forget_items, forget_line, forget_node, forget_script, forget_trees, item_value, items_value, key_of, kind_of, node_of, single, size, span_count, span_item, span_items, start_count}
use Rattle.payload.specs.Write.{item_named, items_named, named_rows}
use Rattle.payload.specs.Writing.{concat, gathered, item_strings, items_strings, line_strings, pool_of, tag_byte, trees_strings, write_item, write_items, write_kids, write_line_index}
use Rattle.payload.specs.Writing.{write_row, write_starts, write_string, write_strings, write_trees, writing}

-- tables of 512 rows, 1,024 spans, 256 strings and 512 starts
abbrev pub table_sizes : Capacities
table_sizes = record { rows = 512; spans = 1024; strings = 256; starts = 512 }

abbrev hi : Context
hi = record { capacities = table_sizes; pool = record { offset = 2; bytes = 0x48 ∷ 0x69 ∷ [] } ∷ []; listed = is_listed [] }

abbrev listing : List ℕ
listing = 0x01 ∷ 0x02 ∷ 0x48 ∷ 0x69 ∷ 0x01 ∷ 0x00 ∷ 0x01 ∷ 0x00 ∷ 0x0A ∷ 0x01 ∷ 0x01 ∷ 0x06 ∷ 0x00 ∷ 0x01 ∷ 0x00 ∷ 0x01 ∷ 0x00 ∷ []

-- what a result says: its number and place, and the value read
unfoldable pub number_read : Result ℕ → List ℕ
number_read (ok n s) = 0 ∷ s.place ∷ n ∷ []
number_read (refused n p) = n ∷ p ∷ []

unfoldable pub part_read : Result Part → List ℕ
part_read (ok b s) = 0 ∷ s.place ∷ b.offset ∷ []
part_read (refused n p) = n ∷ p ∷ []

unfoldable pub payload_read : Result Payload → List ℕ
payload_read (ok u s) = 0 ∷ s.place ∷ row_table (single u.script.outer)
payload_read (refused n p) = n ∷ p ∷ []

pub record ProofTable : Type 0 where
  pub zero_is : uleb128 0 ≡ 0x00 ∷ []
  pub one_byte : uleb128 127 ≡ 0x7F ∷ []
  pub two_bytes : uleb128 128 ≡ 0x80 ∷ 0x01 ∷ []
  pub minus_one : uleb128 (zigzag_of (negsuc 0)) ≡ 0x01 ∷ []
  pub minus_two : uleb128 (zigzag_of (negsuc 1)) ≡ 0x03 ∷ []
  pub largest : uleb128 (2 ^ 64 - 1) ≡ replicate 9 0xFF ++ (0x01 ∷ [])
  pub padded : number_read (varint (start (0x80 ∷ 0x00 ∷ []))) ≡ 0 ∷ 2 ∷ 0 ∷ []
  pub dropped : number_read (varint (start (replicate 9 0x80 ++ (0x02 ∷ [])))) ≡ 0 ∷ 10 ∷ 0 ∷ []
  pub too_long : number_read (varint (start (replicate 10 0xFF))) ≡ 2 ∷ 0 ∷ []
  -- the cut comes before the test
  pub index_cut : part_read (read_pool_index hi (start (0x80 ∷ 0x80 ∷ 0x80 ∷ 0x80 ∷ 0x10 ∷ []))) ≡ 0 ∷ 5 ∷ 2 ∷ []
  pub surrogate : number_read (read_number char (start (0x80 ∷ 0xB0 ∷ 0x03 ∷ []))) ≡ 6 ∷ 0 ∷ []
  pub handle_cut : number_read (read_number handle (start (0x80 ∷ 0x02 ∷ []))) ≡ 0 ∷ 2 ∷ 0 ∷ []
  pub empty_is_house : is_ok (house table_sizes [] (0x00 ∷ 0x00 ∷ 0x00 ∷ 0x00 ∷ 0x00 ∷ [])) ≡ true
  -- the listing's payload: 0, 17 bytes consumed, two rows
  pub listing_rows : payload_read (reading table_sizes [] listing) ≡ 0 ∷ 17 ∷ 32 ∷ 5 ∷ 1 ∷ 1 ∷ 0 ∷ 6 ∷ 2 ∷ 2 ∷ 0 ∷ 0 ∷ []

pub proof_table : ProofTable
unfolding when◌then◌else◌ ◌and◌ and_then ◌>>=◌ ◌>>◌ pure here must first_byte byte body new_row new_spans is_in index_of interned onto names_of is_listed after_varint varint is_scalar
    fits_signed fits_kind write_number cut_to cut_tested cut_to_signed read_float read_number same_span join runs_of expand total write_delta write_deltas write_runs write_code read_position
    read_runs read_code small_spans shapes shape is_key_tag kinds_of kind_of cons node_of single item_value items_value key_of forget_item forget_items forget_trees forget_node size
    span_item span_items span_count forget_line forget_script start_count part_words item_words items_words root_count kids_count_words count_words kind_width kinds_width unused_words
    row_words row_table items_spans span_table write_item write_items concat write_kids write_row tag_byte write_trees write_string write_strings write_starts write_line_index item_strings
    items_strings trees_strings line_strings gathered pool_of writing read_string read_strings read_pool read_pool_index read_item read_items read_many node_key test_key read_keys read_pairs
    read_one read_kids read_untagged read_shape read_value read_chunk read_starts read_flagged read_line_index read_payload first_word next_word row_must end_row zero_words scan_keys
    scan_pairs scan_count scan_kids finish_row is_function scan_part scan_string scan_item scan_items scan_with_kids scan_untagged scan_shape scan_value scan_outer spans_of give_item
    give_items give give_node spans_sound is_nil all_starts line_sound line_of no_more_rows sound_script script_of span_words parts_words line_flag line_name line_starts tables_of
    capacities_of reading item_named items_named named_rows is_ok all_named house_written checked house uleb128 groups varint_of scan same from_le_bytes to_le_bytes passes char_of is_one
    is_two is_three is_four number_read part_read payload_read
proof_table = record {
  zero_is = refl;
  one_byte = refl;
  two_bytes = refl;
  minus_one = refl;
  minus_two = refl;
  largest = refl;
  padded = refl;
  dropped = refl;
  too_long = refl;
  index_cut = refl;
  surrogate = refl;
  handle_cut = refl;
  empty_is_house = refl;
  listing_rows = refl;
}

-- Document 01's mistakes to rule out, each excluded by an example that is computed from the definitions. (A pool index cut after its test is excluded by the
-- proof table's `index_cut`.)
use Rattle.std.specs.Prelude.{true, List, [], ◌∷◌, ◌≡◌, refl, ◌^◌, ℕ}
use Rattle.slices.specs.LittleEndian.{from_le_bytes, to_le_bytes}
use Rattle.slices.specs.Same.{same}
use Rattle.utf8.specs.Utf8.{char_of, is_four, is_one, is_three, is_two, passes}
use Rattle.varint.specs.Uleb128.{groups, uleb128}
use Rattle.varint.specs.Varint.{scan, varint_of}
use Rattle.payload.specs.Choice.{◌and◌, when◌then◌else◌}
use Rattle.payload.specs.Equal.{is_part, singles, view_one, view_row, view_words}
use Rattle.payload.specs.House.{all_named, checked, house, house_written, is_ok}
use Rattle.payload.proofs.Laws.ProofTable.{number_read, part_read, payload_read, table_sizes}
use Rattle.payload.specs.Names.{is_listed, names_of, onto}
use Rattle.payload.specs.Numbers.{after_varint, cut_tested, cut_to, cut_to_signed, fits_kind, fits_signed, is_scalar, read_float, read_number, varint, write_number}
use Rattle.payload.specs.Pool.{index_of, interned, is_in}
use Rattle.payload.specs.Reader.{◌>>=◌, ◌>>◌, and_then, body, byte, first_byte, here, must, new_row, new_spans, pure}
use Rattle.payload.specs.Reading.{node_key, read_chunk, read_flagged, read_item, read_items, read_keys, read_kids, read_line_index, read_many, read_one, read_pairs, read_payload}
use Rattle.payload.specs.Reading.{read_pool, read_pool_index, read_shape, read_starts, read_string, read_strings, read_untagged, read_value, test_key}
use Rattle.payload.specs.Rows.{count_words, item_words, items_spans, items_words, kids_count_words, kind_width, kinds_width, part_words, root_count, row_table, row_words, span_table, unused_words}
use Rattle.payload.specs.Scan.{end_row, finish_row, first_word, is_function, next_word, row_must, scan_count, scan_item, scan_items, scan_keys, scan_kids, scan_outer, scan_pairs}
use Rattle.payload.specs.Scan.{scan_part, scan_shape, scan_string, scan_untagged, scan_value, scan_with_kids, zero_words}
use Rattle.payload.specs.Shapes.{is_key_tag, kinds_of, shape, shapes}
use Rattle.payload.specs.Sound.{all_starts, give, give_item, give_items, give_node, is_nil, line_of, line_sound, no_more_rows, script_of, sound_script, spans_of, spans_sound}
use Rattle.payload.specs.Spans.{expand, join, read_code, read_position, read_runs, runs_of, same_span, small_spans, total, write_code, write_delta, write_deltas, write_runs}
use Rattle.payload.specs.Tables.{capacities_of, line_flag, line_name, line_starts, parts_words, reading, span_words, tables_of}
use Rattle.payload.specs.Trees.{cons, forget_item, forget_items, forget_line, forget_node, forget_script, forget_trees, item_value, items_value, key_of, kind_of, node_of, single, size, span_count, span_item, span_items, start_count}
use Rattle.payload.specs.Write.{item_named, items_named, named_rows}
use Rattle.payload.specs.Writing.{concat, gathered, item_strings, items_strings, line_strings, pool_of, tag_byte, trees_strings, write_item, write_items, write_kids, write_line_index}
use Rattle.payload.specs.Writing.{write_row, write_starts, write_string, write_strings, write_trees, writing}

-- one byte of code and three runs, of which the second passes it and the third is missing
abbrev missing_run : List ℕ
missing_run = 0x00 ∷ 0x01 ∷ 0x0A ∷ 0x03 ∷ 0x00 ∷ 0x00 ∷ 0x01 ∷ 0x00 ∷ 0x00 ∷ 0x01 ∷ []

-- a record named b with one field, named a, that is the string b: the pool is a, b
abbrev record_payload : List ℕ
record_payload = 0x02 ∷ 0x01 ∷ 0x61 ∷ 0x01 ∷ 0x62 ∷ 0x00 ∷ 0x00 ∷ 0x01 ∷ 0x10 ∷ 0x01 ∷ 0x01 ∷ 0x00 ∷ 0x06 ∷ 0x01 ∷ 0x00 ∷ []

pub record Mistakes : Type 0 where
  -- all runs are read before 7 is tested: the missing one meets 1
  pub runs_read_on : payload_read (reading table_sizes [] missing_run) ≡ 1 ∷ 10 ∷ []
  -- record names do not number the pool
  pub names_not_pooled : is_ok (house table_sizes [] record_payload) ≡ true
  -- a padded varint reads, and is not house-written
  pub padded_reads : is_ok (reading table_sizes [] (0x80 ∷ 0x00 ∷ 0x00 ∷ 0x00 ∷ 0x00 ∷ 0x00 ∷ [])) ≡ true
  pub padded_fails : payload_read (house table_sizes [] (0x80 ∷ 0x00 ∷ 0x00 ∷ 0x00 ∷ 0x00 ∷ 0x00 ∷ [])) ≡ 19 ∷ 0 ∷ []
  -- floats are compared by their bits: rows of 0 and minus 0 differ
  pub minus_zero : view_row [] (2 ∷ 2 ^ 63 ∷ 0 ∷ 0 ∷ 0 ∷ []) ≡ (2 ∷ []) ∷ (2 ^ 63 ∷ []) ∷ (0 ∷ []) ∷ (0 ∷ []) ∷ (0 ∷ []) ∷ []

pub mistakes : Mistakes
unfolding when◌then◌else◌ ◌and◌ and_then ◌>>=◌ ◌>>◌ pure here must first_byte byte body new_row new_spans is_in index_of interned onto names_of is_listed after_varint varint is_scalar
    fits_signed fits_kind write_number cut_to cut_tested cut_to_signed read_float read_number same_span join runs_of expand total write_delta write_deltas write_runs write_code read_position
    read_runs read_code small_spans shapes shape is_key_tag kinds_of kind_of cons node_of single item_value items_value key_of forget_item forget_items forget_trees forget_node size
    span_item span_items span_count forget_line forget_script start_count part_words item_words items_words root_count kids_count_words count_words kind_width kinds_width unused_words
    row_words row_table items_spans span_table write_item write_items concat write_kids write_row tag_byte write_trees write_string write_strings write_starts write_line_index item_strings
    items_strings trees_strings line_strings gathered pool_of writing read_string read_strings read_pool read_pool_index read_item read_items read_many node_key test_key read_keys read_pairs
    read_one read_kids read_untagged read_shape read_value read_chunk read_starts read_flagged read_line_index read_payload first_word next_word row_must end_row zero_words scan_keys
    scan_pairs scan_count scan_kids finish_row is_function scan_part scan_string scan_item scan_items scan_with_kids scan_untagged scan_shape scan_value scan_outer spans_of give_item
    give_items give give_node spans_sound is_nil all_starts line_sound line_of no_more_rows sound_script script_of span_words parts_words line_flag line_name line_starts tables_of
    capacities_of reading item_named items_named named_rows is_ok all_named house_written checked house uleb128 groups varint_of scan same from_le_bytes to_le_bytes passes char_of is_one
    is_two is_three is_four number_read part_read payload_read view_row view_words view_one is_part singles
mistakes = record {
  runs_read_on = refl;
  names_not_pooled = refl;
  padded_reads = refl;
  padded_fails = refl;
  minus_zero = refl;
}

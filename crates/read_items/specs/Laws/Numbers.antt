-- Numbers of each kind, from the varint, the byte or the body that they are read from.
use Rattle.std.specs.Prelude.{Bool, true, false, List, ◌≡◌, ℕ, ◌+◌, ◌%◌, ◌≤◌, ◌<◌, eqb, drop, length, take}
use Rattle.slices.specs.LittleEndian.{from_le_bytes}
use Rattle.payload.specs.Choice.{when◌then◌else◌}
use Rattle.payload.specs.Numbers.{varint, read_number, bool, cut_to, cut_tested, cut_to_signed, read_float}
use Rattle.payload.specs.Reader.{byte}
use Rattle.cursor.specs.Reads.{read, stopped, Reads}
use Rattle.read_items.specs.Numbers.{kind_of, cut_word}
use Rattle.cursor.specs.Laws.Reads.{reads_pure, reads_then, reads_stop, reads_here, reads_must, reads_must_not, reads_body, reads_body_end}
use Rattle.read_items.specs.declared.Cut.{Cut}
use Rattle.read_items.specs.declared.Cut.TheVariants.{U64, U32, U16, I64, I32, I16, I8}

module _ {p : List ℕ} {at : ℕ} where
  module _ {v next : ℕ} (g : Reads p at varint (read v next)) where
    pub reads_cut : (cut : Cut) → Reads p at (read_number (kind_of cut)) (read (cut_word cut v) next)
    unfolding read_number kind_of cut_to cut_to_signed
    reads_cut U64 = g
    reads_cut U32 = reads_then _ g (reads_pure _ g.inside)
    reads_cut U16 = reads_then _ g (reads_pure _ g.inside)
    reads_cut I64 = reads_then _ g (reads_pure _ g.inside)
    reads_cut I32 = reads_then _ g (reads_pure _ g.inside)
    reads_cut I16 = reads_then _ g (reads_pure _ g.inside)
    reads_cut I8 = reads_then _ g (reads_pure _ g.inside)

    pub reads_cut_to : (m : ℕ) → Reads p at (cut_to m) (read (v % m) next)
    unfolding cut_to
    reads_cut_to m = reads_then _ g (reads_pure _ g.inside)

    pub reads_tested : (m : ℕ) (test : ℕ → Bool) (k : ℕ) → test (v % m) ≡ true → Reads p at (cut_tested m test k) (read (v % m) next)
    unfolding cut_tested
    reads_tested m test k e = reads_here _ (reads_then _ (reads_cut_to m) (reads_must _ _ e (reads_pure _ g.inside)))

    pub reads_tested_not : (m : ℕ) (test : ℕ → Bool) (k : ℕ) → test (v % m) ≡ false → Reads p at (cut_tested m test k) (stopped k at)
    unfolding cut_tested
    reads_tested_not m test k e = reads_here _ (reads_then _ (reads_cut_to m) (reads_must_not _ e))

  module _ {n q : ℕ} (g : Reads p at varint (stopped n q)) where
    pub reads_cut_stop : (cut : Cut) → Reads p at (read_number (kind_of cut)) (stopped n q)
    unfolding read_number kind_of cut_to cut_to_signed
    reads_cut_stop U64 = g
    reads_cut_stop U32 = reads_stop _ g
    reads_cut_stop U16 = reads_stop _ g
    reads_cut_stop I64 = reads_stop _ g
    reads_cut_stop I32 = reads_stop _ g
    reads_cut_stop I16 = reads_stop _ g
    reads_cut_stop I8 = reads_stop _ g

    pub reads_cut_to_stop : (m : ℕ) → Reads p at (cut_to m) (stopped n q)
    unfolding cut_to
    reads_cut_to_stop m = reads_stop _ g

    pub reads_tested_stop : (m : ℕ) (test : ℕ → Bool) (k : ℕ) → Reads p at (cut_tested m test k) (stopped n q)
    unfolding cut_tested
    reads_tested_stop m test k = reads_here _ (reads_stop _ (reads_cut_to_stop m))

  pub reads_bool : {b next : ℕ} → Reads p at byte (read b next) → Reads p at (read_number bool) (read (when eqb b 0 then 0 else 1) next)
  unfolding read_number
  reads_bool g = reads_then _ g (reads_pure _ g.inside)

  pub reads_float : (n : ℕ) → at + n ≤ length p → Reads p at (read_float n) (read (from_le_bytes (take n (drop at p))) (at + n))
  unfolding read_float
  reads_float n h = reads_then _ (reads_body p at n h) (reads_pure _ h)

  pub reads_float_end : (n : ℕ) → length p < at + n → at ≤ length p → Reads p at (read_float n) (stopped 1 at)
  unfolding read_float
  reads_float_end n h k = reads_stop _ (reads_body_end p at n h k)

-- The first tests of a value and of a row without a tag, and the row that is read where they pass.
use mathlib.Core.List.{List, [], ◌∷◌}
use mathlib.Core.Path.{◌≡◌, refl, sym}
use Prim.Native.Nat.{ℕ, zero, suc, ◌≤◌, ◌<◌, ◌+◌, ◌-◌}
use native.Mathlib.Numerals.{add-one}
use native.Mathlib.Omega.{arith}
use lib.ListN.{length, get_or, drop_of_length-le}
use lib.Seq.{drop-cons}
use borrow.Author.Tests.{le-leb, lt-ltb, le-ltb, lt-leb}
use Rattle.payload.specs.Reader.{Part, Reader, ◌>>=◌, ◌>>◌, and_then, byte, first_byte, here, must, new_row, ok, refused}
use Rattle.payload.specs.Choice.{when◌then◌else◌}
use Rattle.payload.specs.Reading.{Context, read_shape, read_untagged, read_value}
use Rattle.payload.specs.Shapes.{ItemKind, Kids, Shape, one_value, shape, with_kids, with_template}
use Rattle.payload.specs.Trees.{Node}
use Rattle.cursor.specs.Reads.{state_at}
use Rattle.read_items.specs.Context.{context_of}
use Rattle.read_heads.specs.Class.{shape_of}
use Rattle.read_heads.specs.Following.{read_field_row}
use Rattle.read_heads.specs.declared.Class.{Class}
use Rattle.read_heads.specs.declared.Class.TheVariants.{Closure}
use Rattle.read_values.specs.Did.{context_in}
use Rattle.read_values.specs.Does.{reading_at}
use Rattle.read_values.specs.State.{state_of}
use Rattle.read_values.specs.declared.values.Decoder.{Decoder}
use Rattle.read_values.proofs.Classes.{no_template}

module _ (s : Decoder) where
  abbrev p : List ℕ
  p = s.source.payload.now

  abbrev at : ℕ
  at = s.state.at

  ---- a chunk or field row: room for it, then its shape

  module _ (below : Context → Reader (Node Part)) (t : ℕ) (kinds : List ItemKind) (kids : Kids) where
    pub row_full : s.source.capacities.rows ≤ s.state.rows → reading_at s (λ e. read_untagged e (below e) t kinds kids) ≡ refused 22 at
    unfolding read_untagged ◌>>◌ and_then new_row must context_of
    row_full h = rw (le-ltb _ _ h)

    pub row_room : s.state.rows < s.source.capacities.rows → reading_at s (λ e. read_untagged e (below e) t kinds kids)
        ≡ read_shape (context_in s.source) (below (context_in s.source)) t (with_kids kinds kids) (state_at p at (s.state.rows + 1) s.state.spans)
    unfolding read_untagged read_shape ◌>>◌ and_then new_row must context_of
    row_room h = rw (lt-ltb _ _ h, add-one s.state.rows)

  ---- a value

  byte_in : at < length p → byte (state_of p s.state) ≡ ok (get_or p at 0) (state_at p (at + 1) s.state.rows s.state.spans)
  unfolding byte first_byte
  byte_in h = rw (drop-cons p at 0 h, ← add-one at)

  byte_out : length p ≤ at → byte (state_of p s.state) ≡ refused 1 at
  unfolding byte first_byte
  byte_out h = rw (drop_of_length-le p h)

  pub value_end : (d : ℕ) → length p ≤ at → reading_at s (λ e. read_value e d) ≡ refused 1 at
  unfolding read_value ◌>>=◌ ◌>>◌ and_then here
  value_end zero h = rw (byte_out h)
  value_end (suc d) h = rw (byte_out h)

  module _ (h : at < length p) where
    pub value_tag_bad : (d : ℕ) → 26 < get_or p at 0 → reading_at s (λ e. read_value e d) ≡ refused 5 at
    unfolding read_value ◌>>=◌ ◌>>◌ and_then here must
    value_tag_bad zero g = rw (byte_in h, lt-leb _ _ g)
    value_tag_bad (suc d) g = rw (byte_in h, lt-leb _ _ g)

    module _ (g : get_or p at 0 ≤ 26) where
      pub value_deep : (d : ℕ) → d ≡ 0 → reading_at s (λ e. read_value e d) ≡ refused 15 at
      unfolding read_value ◌>>=◌ ◌>>◌ and_then here must
      value_deep zero z = rw (byte_in h, le-leb _ _ g)
      value_deep (suc d) z = absurd (omega arith)

      pub value_full : (d : ℕ) → (d ≡ 0 → ⊥) → s.source.capacities.rows ≤ s.state.rows → reading_at s (λ e. read_value e d) ≡ refused 22 (at + 1)
      unfolding read_value ◌>>=◌ ◌>>◌ and_then here must new_row context_of
      value_full zero z f = absurd (z refl)
      value_full (suc d) z f = rw (byte_in h, le-leb _ _ g, le-ltb _ _ f)

      pub value_shape :
          (d : ℕ) → (d ≡ 0 → ⊥) → s.state.rows < s.source.capacities.rows → {sh : Shape} → sh ≡ shape (get_or p at 0) →
          reading_at s (λ e. read_value e d)
          ≡ read_shape (context_in s.source) (read_value (context_in s.source) (d - 1)) (get_or p at 0) sh (state_at p (at + 1) (s.state.rows + 1) s.state.spans)
      unfolding read_value ◌>>=◌ ◌>>◌ and_then here must new_row context_of
      value_shape zero z f q = absurd (z refl)
      value_shape (suc d) z f q =
          let y : suc d - 1 ≡ d = omega arith in rw (byte_in h, le-leb _ _ g, lt-ltb _ _ f, y, add-one s.state.rows, q)

---- a row whose first tests passed

-- Where s stands, a reader reads a row of this tag and shape, whose head stands at a place; `below` reads the values that follow the head.
pub record ReadsRow (s : Decoder) (reader below : Context → Reader (Node Part)) (t : ℕ) (sh : Shape) (at : ℕ) : Type 0 where
  pub its_shape : shape t ≡ sh
  pub plain : (kinds : List ItemKind) → sh ≡ with_template kinds → ⊥
  pub is : reading_at s reader
      ≡ read_shape (context_in s.source) (below (context_in s.source)) t sh (state_at s.source.payload.now at (s.state.rows + 1) s.state.spans)

pub value_row :
    (s : Decoder) (left : ℕ) (k : Class) → s.state.at < length s.source.payload.now → get_or s.source.payload.now s.state.at 0 ≤ 26 → (left ≡ 0 → ⊥) →
    s.state.rows < s.source.capacities.rows → shape_of k ≡ shape (get_or s.source.payload.now s.state.at 0) → (k ≡ Closure → ⊥) →
    ReadsRow s (λ e. read_value e left) (λ e. read_value e (left - 1)) (get_or s.source.payload.now s.state.at 0) (shape_of k) (s.state.at + 1)
value_row s left k h g z f e n = record { its_shape = sym e; plain = no_template k n; is = value_shape s h g left z f e }

pub field_row : (s : Decoder) (below : Context → Reader (Node Part)) → s.state.rows < s.source.capacities.rows →
    ReadsRow s (λ e. read_field_row e (below e)) below 33 (shape 33) s.state.at
unfolding shape when◌then◌else◌
field_row s below h = record {
  its_shape = refl;
  plain = λ kinds e. cc;
  is = row_room s below 33 (ItemKind.string ∷ []) one_value h;
}

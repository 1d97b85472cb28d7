-- A number read for a scalar's row fits it, so the row's scalar gives the number back.
use Rattle.std.specs.Prelude.{Bool, true, false, List, [], ◌∷◌, ◌≡◌, refl, ℕ, ◌^◌, ◌<◌, ◌≤◌, eqb, leb, ltb, length}
use Rattle.std.proofs.Common.{zero-le, mod-lt, lit<, lit≤, lt-ltb}
use Rattle.slices.specs.Laws.LittleEndian.{Bytes}
use Rattle.payload.specs.Choice.{when◌then◌else◌}
use Rattle.payload.proofs.Laws.Keeps.{Keeps, Plain, keeps_at, keeps_byte, keeps_check, keeps_free, keeps_value, keeps_varint, plain_so}
use Rattle.payload.proofs.Laws.Kept.{kept_number}
use Rattle.payload.proofs.Laws.Numbers.{cut_fits, word_small}
use Rattle.payload.specs.Numbers.{NumberKind, bool, char, cut_tested, cut_to, cut_to_signed, f32, f64, fits_kind, fits_signed, handle, i16, i32, i64, i8, is_scalar, read_number, u16, u32, u64, u8}
use Rattle.payload.specs.Reader.{Reader}
use Rattle.payload.specs.Shapes.{ItemKind, kinds_of, shape, shapes}
use Rattle.payload.specs.Tables.{limits}
use Rattle.scalar.specs.Scalar.{const_of, is_scalar_tag, row, row_of}
use Rattle.scalar.specs.Laws.Scalar.{number_row, scalar_row}
use Rattle.cursor.specs.Advances.{Advances}
use Rattle.cursor.specs.Reads.{Reads, read, state_at}
use Rattle.cursor.specs.declared.Cursor.{Cursor}
use Rattle.read_items.specs.Numbers.{kind_of}
use Rattle.read_heads.specs.Scalars.{scalar_tag}
use Rattle.read_items.specs.declared.Cut.{Cut}
use Rattle.read_items.specs.declared.Cut.TheVariants.{U64, U32, U16, I64, I32, I16, I8}

module _ {p : List ℕ} where
  -- what a reader keeps holds of what was read
  read_keeps : {r : Reader ℕ} {P : ℕ → Type 0} → Keeps limits p r (Plain limits p P) → {at w next : ℕ} → at ≤ length p → Reads p at r (read w next) → P w
  read_keeps keeps {at} {w} {next} h g =
      (keeps.run (state_at p at 0 0) w (state_at p next 0 0) (record { inv_rest = refl; inv_place = h; inv_rows = zero-le; inv_spans = zero-le }) (g.is 0 0)).holds.1

  pub read_fits : Bytes p → {at : ℕ} (k : NumberKind) {w next : ℕ} → at ≤ length p → Reads p at (read_number k) (read w next) → fits_kind k w ≡ true
  read_fits small k = read_keeps (kept_number limits p small k)

---- numbers that are varints, or a bit: they fit whatever the payload has

module _ (p : List ℕ) where
  abbrev Fits : Reader ℕ → NumberKind → Type 0
  Fits r k = Keeps limits p r (Plain limits p (λ w. fits_kind k w ≡ true))

  cut_below : (n : ℕ) → 0 < n → Keeps limits p (cut_to n) (Plain limits p (λ w. w < n))
  unfolding cut_to
  cut_below n h = keeps_free limits p (keeps_varint limits p) (λ v z. keeps_value limits p _ (λ w. w < n) (mod-lt v h))

  tested_passes : (n : ℕ) (test : ℕ → Bool) (z : ℕ) → 0 < n → Keeps limits p (cut_tested n test z) (Plain limits p (λ w. test w ≡ true))
  unfolding cut_tested
  tested_passes n test z h =
      keeps_at limits p (λ q. keeps_free limits p (cut_below n h) (λ v y. keeps_check limits p _ z q _ (λ e. keeps_value limits p v (λ w. test w ≡ true) e)))

  signed_fits : (k : ℕ) → k ≤ 64 → Keeps limits p (cut_to_signed k) (Plain limits p (λ w. fits_signed k w ≡ true))
  unfolding cut_to_signed
  signed_fits k h = keeps_free limits p (keeps_varint limits p) (λ v z. keeps_value limits p _ (λ w. fits_signed k w ≡ true) (cut_fits k _ h))

  cut_fits_kind : (cut : Cut) → Fits (read_number (kind_of cut)) (kind_of cut)
  unfolding read_number fits_kind kind_of
  cut_fits_kind U64 = plain_so limits p (λ w z. lt-ltb w (2 ^ 64) z) (keeps_varint limits p)
  cut_fits_kind U32 = plain_so limits p (λ w z. lt-ltb w (2 ^ 32) z) (cut_below (2 ^ 32) (lit< tt))
  cut_fits_kind U16 = plain_so limits p (λ w z. lt-ltb w (2 ^ 16) z) (cut_below (2 ^ 16) (lit< tt))
  cut_fits_kind I64 = keeps_free limits p (keeps_varint limits p) (λ v z. keeps_value limits p _ (λ w. ltb w (2 ^ 64) ≡ true) (lt-ltb _ (2 ^ 64) (word_small _)))
  cut_fits_kind I32 = signed_fits 32 (lit≤ tt)
  cut_fits_kind I16 = signed_fits 16 (lit≤ tt)
  cut_fits_kind I8 = signed_fits 8 (lit≤ tt)

  bool_fits : Fits (read_number bool) bool
  unfolding read_number fits_kind
  bool_fits = keeps_free limits p (keeps_byte limits p) (λ v z. keeps_value limits p _ (λ w. ltb w 2 ≡ true) (go (eqb v 0)))
    where
      go : (t : Bool) → ltb (when◌then◌else◌ t 0 1) 2 ≡ true
      go true = unfold when◌then◌else◌ in refl
      go false = unfold when◌then◌else◌ in refl

  char_fits : Fits (read_number char) char
  unfolding read_number fits_kind
  char_fits = tested_passes (2 ^ 32) is_scalar 6 (lit< tt)

  handle_fits : Fits (read_number handle) handle
  unfolding read_number fits_kind
  handle_fits = tested_passes (2 ^ 8) (λ v. leb v 5) 12 (lit< tt)

---- so the scalar of its row gives it back

module _ {c c' : Cursor} where
  pub fits_scalar : Bytes c.payload.now → (t : ℕ) (k : NumberKind) {w : ℕ} → is_scalar_tag t ≡ true → kinds_of (shape t) ≡ ItemKind.number k ∷ []
      → Advances c c' (read_number k) (read w c'.at) → row_of (const_of t w 0) ≡ row t w 0
  fits_scalar small t k {w} e is g = number_row t k w e is (read_fits small k c.inside g.reads)

  scalar_fits : (t : ℕ) (k : NumberKind) {w : ℕ} → is_scalar_tag t ≡ true → kinds_of (shape t) ≡ ItemKind.number k ∷ [] → Fits c.payload.now (read_number k) k
      → Advances c c' (read_number k) (read w c'.at) → row_of (const_of t w 0) ≡ row t w 0
  scalar_fits t k {w} e is f g = number_row t k w e is (read_keeps f c.inside g.reads)

  pub fits_cut : (cut : Cut) {w : ℕ} → Advances c c' (read_number (kind_of cut)) (read w c'.at) → row_of (const_of (scalar_tag cut) w 0) ≡ row (scalar_tag cut) w 0
  unfolding shape shapes kinds_of kind_of is_scalar_tag when◌then◌else◌
  fits_cut U64 = scalar_fits 19 u64 refl refl (cut_fits_kind _ U64)
  fits_cut U32 = scalar_fits 21 u32 refl refl (cut_fits_kind _ U32)
  fits_cut U16 = scalar_fits 22 u16 refl refl (cut_fits_kind _ U16)
  fits_cut I64 = scalar_fits 1 i64 refl refl (cut_fits_kind _ I64)
  fits_cut I32 = scalar_fits 20 i32 refl refl (cut_fits_kind _ I32)
  fits_cut I16 = scalar_fits 23 i16 refl refl (cut_fits_kind _ I16)
  fits_cut I8 = scalar_fits 24 i8 refl refl (cut_fits_kind _ I8)

  pub fits_bool : {w : ℕ} → Advances c c' (read_number bool) (read w c'.at) → row_of (const_of 3 w 0) ≡ row 3 w 0
  unfolding shape shapes kinds_of is_scalar_tag when◌then◌else◌
  fits_bool = scalar_fits 3 bool refl refl (bool_fits _)

  pub fits_char : {w : ℕ} → Advances c c' (read_number char) (read w c'.at) → row_of (const_of 5 w 0) ≡ row 5 w 0
  unfolding shape shapes kinds_of is_scalar_tag when◌then◌else◌
  fits_char = scalar_fits 5 char refl refl (char_fits _)

  pub fits_handle : {c'' : Cursor} {kind id : ℕ} → Advances c c' (read_number handle) (read kind c'.at) → Advances c' c'' (read_number u64) (read id c''.at)
      → row_of (const_of 26 kind id) ≡ row 26 kind id
  unfolding shape shapes kinds_of is_scalar_tag when◌then◌else◌ kind_of
  fits_handle {kind = kind} {id} f g =
      scalar_row 26 kind id refl (read_keeps (handle_fits _) c.inside f.reads, (read_keeps (cut_fits_kind _ U64) c'.inside g.reads, tt))

-- bytes, and floats by their bits, fit where they are small
module _ {w : ℕ} where
  pub fits_byte : w < 2 ^ 8 → row_of (const_of 4 w 0) ≡ row 4 w 0
  unfolding shape shapes kinds_of is_scalar_tag when◌then◌else◌ fits_kind
  fits_byte h = number_row 4 u8 w refl refl (lt-ltb w (2 ^ 8) h)

  pub fits_float : w < 2 ^ 64 → row_of (const_of 2 w 0) ≡ row 2 w 0
  unfolding shape shapes kinds_of is_scalar_tag when◌then◌else◌ fits_kind
  fits_float h = number_row 2 f64 w refl refl (lt-ltb w (2 ^ 64) h)

  pub fits_sfloat : w < 2 ^ 32 → row_of (const_of 25 w 0) ≡ row 25 w 0
  unfolding shape shapes kinds_of is_scalar_tag when◌then◌else◌ fits_kind
  fits_sfloat h = number_row 25 f32 w refl refl (lt-ltb w (2 ^ 32) h)

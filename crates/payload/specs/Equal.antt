-- When two programs in tables are equal: row by row in every word, parts by their bytes and not by their offsets; spans, flags, names by bytes, and starts.
use Rattle.std.specs.Prelude.{Bool, false, true, List, [], ◌∷◌, ◌≡◌, ◌/◌, suc, zero, ℕ, drop, length, take}
use Rattle.payload.specs.Rows.{row_width}
use Rattle.payload.specs.Shapes.{ItemKind, kinds_of, shape}
use Rattle.payload.specs.Sound.{Tables}

-- whether two words, offset and length, name a part
unfoldable pub is_part : ItemKind → Bool
is_part (ItemKind.number k) = false
is_part ItemKind.string = true
is_part ItemKind.native_name = true
is_part ItemKind.record_name = true
is_part ItemKind.code = true

unfoldable pub singles : List ℕ → List (List ℕ)
singles [] = []
singles (w ∷ ws) = (w ∷ []) ∷ singles ws

-- one word, or the bytes of the part that two words name
unfoldable pub view_one : List ℕ → Bool → (List ℕ → List (List ℕ)) → List ℕ → List (List ℕ)
view_one store b f [] = []
view_one store false f (w ∷ ws) = (w ∷ []) ∷ f ws
view_one store true f (o ∷ []) = []
view_one store true f (o ∷ n ∷ ws) = take n (drop o store) ∷ f ws

unfoldable pub view_words : List ℕ → List ItemKind → List ℕ → List (List ℕ)
view_words store [] ws = singles ws
view_words store (k ∷ ks) ws = view_one store (is_part k) (λ vs. view_words store ks vs) ws

unfoldable pub view_row : List ℕ → List ℕ → List (List ℕ)
view_row store [] = []
view_row store (t ∷ ws) = (t ∷ []) ∷ view_words store (kinds_of (shape t)) ws

-- the first n rows of a row table
unfoldable pub view_rows : List ℕ → ℕ → List ℕ → List (List (List ℕ))
view_rows store zero ws = []
view_rows store (suc n) ws = view_row store (take row_width ws) ∷ view_rows store n (drop row_width ws)

pub record View : Type 0 where
  pub rows : List (List (List ℕ))
  pub spans : List ℕ
  pub starts : List ℕ
  pub flag : ℕ
  pub name : List ℕ

unfoldable pub view : Tables → View
view T = record {
  rows = view_rows T.store (length T.rows / row_width) T.rows;
  spans = T.spans;
  starts = T.starts;
  flag = T.flag;
  name = take T.name_length (drop T.name_offset T.store);
}

unfoldable pub Equal : Tables → Tables → Type 0
Equal T U = view T ≡ view U

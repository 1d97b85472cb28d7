-- What follows the head of a value, by its class.
use mathlib.Core.Bool.{Bool as bool, true, false, not, ◌||◌}
use mathlib.Core.List.{List, []}
use mathlib.Core.Path.{◌≡◌, refl, sym}
use Prim.Native.Nat.{ℕ, ◌≤◌}
use lib.Dec.{eqb}
use borrow.Author.Tests.{eqb-true}
use Rattle.payload.specs.Choice.{when◌then◌else◌}
use Rattle.payload.specs.Reader.{Part, Reader, ok, pure}
use Rattle.payload.specs.Reader as reader
use Rattle.payload.specs.Reading.{Context, read_keys, read_many, read_pairs}
use Rattle.payload.specs.Shapes.{ItemKind, Shape, shape, shapes, no_value, one_value, values, keys, pairs, with_kids, with_chunk, with_fields, with_template}
use Rattle.payload.specs.Trees.{Node, nil}
use Rattle.key_test.specs.Laws.Tags.{by_table, every}
use Rattle.row_layout.specs.Under.{count_in}
use Rattle.read_heads.specs.Class.{shape_of}
use Rattle.read_heads.specs.Following.{read_chunk_row, read_field_row, read_following}
use Rattle.read_heads.specs.declared.Class.{Class}
use Rattle.read_heads.specs.declared.Class.TheVariants.{Empty, Varint, Byte, Bool, Char, Float, SFloat, Str, Native, Function, OneValue, Values, Keys, Pairs, Record, Tag, Closure, Handle}
use Rattle.read_values.specs.Entries.{read_entries}
use Rattle.read_values.specs.Laws.Entries.{keys_are, pairs_are}

-- a closure alone has a template
pub no_template : (k : Class) → (k ≡ Closure → ⊥) → (kinds : List ItemKind) → shape_of k ≡ with_template kinds → ⊥
unfolding shape_of
no_template Empty h kinds e = cc
no_template (Varint cut) h kinds e = cc
no_template Byte h kinds e = cc
no_template Bool h kinds e = cc
no_template Char h kinds e = cc
no_template Float h kinds e = cc
no_template SFloat h kinds e = cc
no_template Str h kinds e = cc
no_template Native h kinds e = cc
no_template Function h kinds e = cc
no_template OneValue h kinds e = cc
no_template Values h kinds e = cc
no_template Keys h kinds e = cc
no_template Pairs h kinds e = cc
no_template Record h kinds e = cc
no_template Tag h kinds e = cc
no_template Closure h kinds e = h refl
no_template Handle h kinds e = cc

-- and its tag is 18
unfoldable has_template : Shape → bool
has_template (with_kids kinds kids) = false
has_template (with_chunk kinds) = false
has_template (with_fields kinds) = false
has_template (with_template kinds) = true

pub closure_tag : (t : ℕ) → t ≤ 26 → shape_of Closure ≡ shape t → t ≡ 18
unfolding every has_template shapes shape_of
closure_tag t h e = eqb-true t 18 (rw (← e) at (by_table (λ i sh. not (has_template sh) || eqb i 18) refl t h))

-- a function has one chunk row
pub function_count : (n : ℕ) (ws : List ℕ) (k : Class) → count_in (shape_of k) ws ≡ n → k ≡ Function → n ≡ 1
unfolding shape_of count_in
function_count n ws k e h = sym (rw h at e)

module _ (e : Context) (r : Reader (Node Part)) (k : Class) (n : ℕ) where
  pub chunk_follows : k ≡ Function → n ≡ 1 → (s : reader.State) → read_following e r (shape_of k) n s ≡ read_many 1 (read_chunk_row e r) s
  unfolding read_following shape_of
  chunk_follows h one s = rw (h, one)

  pub keys_follow : k ≡ Keys → (s : reader.State) → read_following e r (shape_of k) n s ≡ read_entries 0 n [] r s
  unfolding read_following shape_of
  keys_follow h s = rw h (keys_are r n [] s)

  pub pairs_follow : k ≡ Pairs → (s : reader.State) → read_following e r (shape_of k) n s ≡ read_entries 1 n [] r s
  unfolding read_following shape_of
  pairs_follow h s = rw h (pairs_are r n [] s)

  pub fields_follow : k ≡ Record → (s : reader.State) → read_following e r (shape_of k) n s ≡ read_many n (read_field_row e r) s
  unfolding read_following shape_of
  fields_follow h s = rw h

-- after any other head, values; so also after a field's
pub values_follow :
    (e : Context) (r : Reader (Node Part)) (n : ℕ) (k : Class) → (k ≡ Function → ⊥) → (k ≡ Keys → ⊥) → (k ≡ Pairs → ⊥) → (k ≡ Record → ⊥) →
    (s : reader.State) → read_following e r (shape_of k) n s ≡ read_many n r s
unfolding read_following shape_of
values_follow e r n Empty a b c d s = refl
values_follow e r n (Varint cut) a b c d s = refl
values_follow e r n Byte a b c d s = refl
values_follow e r n Bool a b c d s = refl
values_follow e r n Char a b c d s = refl
values_follow e r n Float a b c d s = refl
values_follow e r n SFloat a b c d s = refl
values_follow e r n Str a b c d s = refl
values_follow e r n Native a b c d s = refl
values_follow e r n Function a b c d s = absurd (a refl)
values_follow e r n OneValue a b c d s = refl
values_follow e r n Values a b c d s = refl
values_follow e r n Keys a b c d s = absurd (b refl)
values_follow e r n Pairs a b c d s = absurd (c refl)
values_follow e r n Record a b c d s = absurd (d refl)
values_follow e r n Tag a b c d s = refl
values_follow e r n Closure a b c d s = refl
values_follow e r n Handle a b c d s = refl

pub field_follows : (e : Context) (r : Reader (Node Part)) (n : ℕ) (s : reader.State) → read_following e r (shape 33) n s ≡ read_many n r s
unfolding read_following shape when◌then◌else◌
field_follows e r n s = refl

-- and nothing where the count is zero
pub nothing_follows : (e : Context) (r : Reader (Node Part)) (sh : Shape) (s : reader.State) → read_following e r sh 0 s ≡ ok nil s
unfolding read_following read_many read_keys read_pairs pure
nothing_follows e r (with_kids kinds no_value) s = refl
nothing_follows e r (with_kids kinds one_value) s = refl
nothing_follows e r (with_kids kinds values) s = refl
nothing_follows e r (with_kids kinds keys) s = refl
nothing_follows e r (with_kids kinds pairs) s = refl
nothing_follows e r (with_chunk kinds) s = refl
nothing_follows e r (with_fields kinds) s = refl
nothing_follows e r (with_template kinds) s = refl

-- Where the gathered strings of a program stand, by the words of its rows, and the parts of the store at those places.
use Rattle.std.specs.Prelude.{List, [], ◌∷◌, ℕ, ◌+◌, Option, Some, None, eqb, get_or}
use Rattle.payload.specs.Choice.{when◌then◌else◌}
use Rattle.payload.specs.Reader.{Part}
use Rattle.payload.specs.declared.Tables.{Tables}
use Rattle.row_layout.specs.Layout.{first_form, second_form, second_word}
use Rattle.gather.specs.Gather.{part_in, string_form, record_tag, pooled_parts}
use Rattle.gather.specs.declared.Place.{Place}
use Rattle.gather.specs.declared.RowPlaces.{RowPlaces}

unfoldable pub item_place : ℕ → ℕ → ℕ → Option Place
item_place form o n = when eqb form string_form then Some (record { offset = o; size = n }) else None

-- the row whose words stand first: not a record's name
unfoldable pub row_places : List ℕ → RowPlaces
row_places words =
    let tag = get_or words 0 0 in
    when eqb tag record_tag then record { first = None; second = None }
    else record {
      first = item_place (first_form tag) (get_or words 1 0) (get_or words 2 0);
      second = item_place (second_form tag) (get_or words (second_word tag) 0) (get_or words (second_word tag + 1) 0);
    }

unfoldable pub name_place : ℕ → ℕ → ℕ → Option Place
name_place flag o n = when eqb flag 0 then None else Some (record { offset = o; size = n })

-- the part at a place, where there is one
unfoldable pub parts_of : List ℕ → Option Place → List Part
parts_of store None = []
parts_of store (Some at) = part_in store at.offset at.size ∷ []

-- the gathered strings of a program in tables, each at its first place
abbrev pub pooled_in : Tables → List Part
pooled_in t = pooled_parts t.store.now t.rows.now t.flag t.name_o t.name_n

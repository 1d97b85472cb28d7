-- `gather::item_place` meets its contract: an item has a place where its form is a string's, and its words are the row's.
use Rattle.std.specs.Prelude.{None}
use mathlib.Core.Path.{◌≡◌, refl}
use Prim.Native.Nat.{ℕ}
use Rattle.gather.specs.Places.{item_place}
use Rattle.payload.specs.Choice.{when◌then◌else◌}
use Rattle.row_layout.specs.Number.{form_number}
use Rattle.row_layout.specs.declared.Form.{Form}
use Rattle.row_layout.specs.declared.Form.TheVariants as form
use Rattle.gather.proofs.item_place.Goals as goal

pub returns-in-Text : goal.returns-in-Text
unfolding item_place when◌then◌else◌
returns-in-Text c = rw (c.in-Text.is, ← c.word.ensures, ← c.word-in-Text.ensures) refl

-- an item of any other form has none
no_place : (f : Form) (o n : ℕ) → (f ≡ form.Text → ⊥) → None ≡ item_place (form_number f) o n
unfolding item_place when◌then◌else◌
no_place form.NoItem o n other = refl
no_place form.Varint o n other = refl
no_place form.Zigzag o n other = refl
no_place form.Byte o n other = refl
no_place form.EightBytes o n other = refl
no_place form.FourBytes o n other = refl
no_place form.Text o n other = absurd (other refl)
no_place form.Code o n other = refl

pub returns-in_default : goal.returns-in_default
returns-in_default c = no_place c.args.form _ _ c.in_default.not-Text

-- What the code's tests of a row's forms say of their numbers, and what its count is.
use Rattle.std.specs.Prelude.{Bool, true, false, List, ◌≡◌, ◌⊎◌, refl, ℕ, leb, eqb}
use Rattle.std.proofs.Common.{inl, inr, ap, ◌∙◌}
use denote.Enum.Declared.{tag_of}
use Rattle.payload.specs.Choice.{when◌then◌else◌}
use Rattle.row_layout.specs.Layout.{under_form, count_word}
use Rattle.row_layout.specs.Number.{form_number, under_number}
use Rattle.row_layout.specs.Row.{row_word}
use Rattle.row_layout.specs.contracts.Form as form-contracts
use Rattle.row_layout.specs.contracts.Under as under-contracts
use Rattle.row_layout.specs.declared.Form.{Form}
use Rattle.row_layout.specs.declared.Form.TheVariants as form
use Rattle.row_layout.specs.declared.Under.{Under}
use Rattle.row_layout.specs.declared.Under.TheVariants as under
use Rattle.write_rows.specs.Walk.{tag_at, count_at}

-- `==` compares the variants' places, which are their numbers
under_place : (u : Under) → tag_of under-contracts.the_type u ≡ under_number u
under_place under.Nothing = refl
under_place under.OneRow = refl
under_place under.Counted = refl
under_place under.CountedPairs = refl
under_place under.Template = refl

form_place : (f : Form) → tag_of form-contracts.the_type f ≡ form_number f
form_place form.NoItem = refl
form_place form.Varint = refl
form_place form.Zigzag = refl
form_place form.Byte = refl
form_place form.EightBytes = refl
form_place form.FourBytes = refl
form_place form.Text = refl
form_place form.Code = refl

-- a test of what is under a row with this tag
pub under_test : (k : ℕ) (u : Under) {tag w : ℕ} {test : Bool} → test ≡ eqb (tag_of under-contracts.the_type u) k → under_number u ≡ under_form tag → tag ≡ w → test ≡ eqb (under_form w) k
under_test k u e f g = e ∙ ap (λ (m : ℕ). eqb m k) (under_place u ∙ f ∙ ap under_form g)

pub form_test : (k : ℕ) (f : Form) {n : ℕ} {test : Bool} → test ≡ eqb (tag_of form-contracts.the_type f) k → form_number f ≡ n → test ≡ eqb n k
form_test k f e g = e ∙ ap (λ (m : ℕ). eqb m k) (form_place f ∙ g)

-- which rows have a count
pub uncounted : (u : Under) {tag w : ℕ} → (u ≡ under.Nothing) ⊎ (u ≡ under.OneRow) → under_number u ≡ under_form tag → tag ≡ w → false ≡ leb 2 (under_form w)
uncounted u {w = w} (inl e) f g = let z : 0 ≡ under_form w = rw e at f ∙ ap under_form g in ap (leb 2) z
uncounted u {w = w} (inr e) f g = let z : 1 ≡ under_form w = rw e at f ∙ ap under_form g in ap (leb 2) z

pub counted : (u : Under) {tag w : ℕ} → (u ≡ under.Counted) ⊎ ((u ≡ under.CountedPairs) ⊎ (u ≡ under.Template)) → under_number u ≡ under_form tag → tag ≡ w → true ≡ leb 2 (under_form w)
counted u {w = w} (inl e) f g = let z : 2 ≡ under_form w = rw e at f ∙ ap under_form g in ap (leb 2) z
counted u {w = w} (inr (inl e)) f g = let z : 3 ≡ under_form w = rw e at f ∙ ap under_form g in ap (leb 2) z
counted u {w = w} (inr (inr e)) f g = let z : 4 ≡ under_form w = rw e at f ∙ ap under_form g in ap (leb 2) z

-- the count, where the row has one
pub count_is : (rows : List ℕ) (i : ℕ) {tag k w : ℕ} → w ≡ row_word rows i k → k ≡ count_word tag → tag ≡ tag_at rows i → w ≡ count_at rows i
count_is rows i ew ek et = ew ∙ ap (row_word rows i) (ek ∙ ap count_word et)

-- a choice by such a test
pub when_yes : {A : Type 0} (a b : A) {test x : Bool} → test ≡ x → test ≡ true → a ≡ when◌then◌else◌ x a b
unfolding when◌then◌else◌
when_yes a b e h = rw (← e, h)

pub when_no : {A : Type 0} (a b : A) {test x : Bool} → test ≡ x → test ≡ false → b ≡ when◌then◌else◌ x a b
unfolding when◌then◌else◌
when_no a b e h = rw (← e, h)

-- What a names list holds: each name up to its 0A; what follows the last 0A counts for nothing.
use Rattle.std.specs.Prelude.{false, List, [], ◌++◌, ◌∷◌, ◌≡◌, refl, ℕ, eqb}
use Rattle.slices.specs.Same.{same}
use Rattle.payload.specs.Choice.{◌or◌, when◌then◌else◌}
use Rattle.payload.specs.Names.{is_listed, names_of, onto}
use Rattle.payload.specs.Pool.{is_in}

-- bytes that are no 0A
unfoldable pub NoEnd : List ℕ → Type 0
NoEnd [] = Unit {0}
NoEnd (b ∷ bs) = (eqb b 0x0A ≡ false) × NoEnd bs

pub first_name : (name rest : List ℕ) → NoEnd name → names_of (name ++ 0x0A ∷ rest) ≡ name ∷ names_of rest
unfolding NoEnd names_of when◌then◌else◌
first_name [] rest h = refl
first_name (b ∷ bs) rest h = rw (h.0, first_name bs rest h.1) (unfold onto in refl)

pub no_name : (bytes : List ℕ) → NoEnd bytes → names_of bytes ≡ []
unfolding NoEnd names_of when◌then◌else◌
no_name [] h = refl
no_name (b ∷ bs) h = rw (h.0, no_name bs h.1) (unfold onto in refl)

-- a name is in the list if it is the first or in the rest, and in no list that has no 0A
pub listed_first : (list-name rest name : List ℕ) → NoEnd list-name → is_listed (list-name ++ 0x0A ∷ rest) name ≡ (same name list-name or is_listed rest name)
unfolding is_listed is_in
listed_first n rest name h = rw (first_name n rest h)

pub none_listed : (bytes name : List ℕ) → NoEnd bytes → is_listed bytes name ≡ false
unfolding is_listed is_in
none_listed bytes name h = rw (no_name bytes h)

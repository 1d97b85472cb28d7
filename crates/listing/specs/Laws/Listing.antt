-- Zeros past the used rows of a table change nothing in its listing.
use Rattle.std.specs.Prelude.{◌≡◌, refl, List, [], ◌∷◌, ◌++◌, ℕ, zero, suc, ◌-◌, get_or, length}
use Rattle.std.proofs.Common.{ap, ap₂}
use Rattle.payload.specs.Answers.{Read}
use Rattle.slices.specs.Zeros.{pad_to, zeros}
use Rattle.listing.specs.Listing.{last_line, listed_rows, listing, row_line, row_lines}

zero_at : (n i : ℕ) → get_or (zeros n) i 0 ≡ 0
zero_at zero i = refl
zero_at (suc n) zero = refl
zero_at (suc n) (suc i) = zero_at n i

word_at_lem : (used : List ℕ) (n i : ℕ) → get_or (used ++ zeros n) i 0 ≡ get_or used i 0
word_at_lem [] n i = zero_at n i
word_at_lem (w ∷ ws) n zero = refl
word_at_lem (w ∷ ws) n (suc i) = word_at_lem ws n i

row_line_lem : (i : ℕ) (used : List ℕ) (n : ℕ) → row_line i (used ++ zeros n) ≡ row_line i used
unfolding row_line
row_line_lem i used n = simp (word_at_lem used n)

row_lines_lem : (k : ℕ) (used : List ℕ) (n : ℕ) → row_lines k (used ++ zeros n) ≡ row_lines k used
unfolding row_lines
row_lines_lem zero used n = refl
row_lines_lem (suc k) used n = ap₂ ◌++◌ (row_lines_lem k used n) (row_line_lem k used n)

pub listing_padded : (answer : Read) (used : List ℕ) (words : ℕ) → listing answer (pad_to words used) ≡ listing answer used
unfolding listing
listing_padded answer used words = ap (λ (l : List ℕ). l ++ last_line answer) (row_lines_lem (listed_rows answer) used (words - length used))

-- Laws of `scan` and `varint_of`: what a proof cites in the place of the definitions' text. Assumes nothing.
use Rattle.std.specs.Prelude.{◌≡◌, List, [], ◌∷◌, ℕ, zero, suc, ◌+◌, ◌*◌, ◌%◌, ◌≤◌, ◌<◌, length, drop, get_or}
use Rattle.std.proofs.Math.Path.{refl}
use Rattle.std.proofs.Common.{sym, ap, ◌∙◌, mod-eq_of_lt, arith, add-one, lt-ltb, le-ltb, drop_of_length-le, drop-cons}
use Rattle.varint.specs.Varint.{Varint}
use Rattle.varint.specs.Varint.{Number, Refused}
use Rattle.varint.specs.Varint.{under, scan, cut, varint_of}

module _ (first : ℕ) where
  -- ---- one byte of a scan

  pub scan_none : (bytes : List ℕ) (next : ℕ) → scan first zero bytes next ≡ Refused 2 first
  unfolding scan
  scan_none bytes next = refl

  pub scan_end : (m next : ℕ) → scan first (suc m) [] next ≡ Refused 1 first
  unfolding scan
  scan_end m next = refl

  pub scan_last : (m b : ℕ) (bytes : List ℕ) (next : ℕ) → b < 128 → scan first (suc m) (b ∷ bytes) next ≡ Number b (next + 1)
  unfolding scan
  scan_last m b bytes next h = simp (lt-ltb b 128 h)

  pub scan_more : (m b : ℕ) (bytes : List ℕ) (next : ℕ) → 128 ≤ b → scan first (suc m) (b ∷ bytes) next ≡ under (b % 128) (scan first m bytes (next + 1))
  unfolding scan
  scan_more m b bytes next h = simp (le-ltb b 128 h)

  -- ---- the same at a place of a list

  module _ (m : ℕ) (s : List ℕ) (i : ℕ) where
    pub at_end : length s ≤ i → scan first (suc m) (drop i s) i ≡ Refused 1 first
    at_end h = ap (λ (l : List ℕ). scan first (suc m) l i) (drop_of_length-le s h) ∙ scan_end m i

    pub at_last : i < length s → get_or s i 0 < 128 → scan first (suc m) (drop i s) i ≡ Number (get_or s i 0) (i + 1)
    at_last h l = ap (λ (l : List ℕ). scan first (suc m) l i) (drop-cons s i 0 h) ∙ scan_last m (get_or s i 0) (drop (suc i) s) i l

    pub at_more : i < length s → 128 ≤ get_or s i 0 → scan first (suc m) (drop i s) i ≡ under (get_or s i 0 % 128) (scan first m (drop (i + 1) s) (i + 1))
    at_more h l =
        ap (λ (l : List ℕ). scan first (suc m) l i) (drop-cons s i 0 h) ∙ scan_more m (get_or s i 0) (drop (suc i) s) i l
        ∙ ap (λ (k : ℕ). under (get_or s i 0 % 128) (scan first m (drop k s) (i + 1))) (sym (add-one i))

-- ---- what was read before, below what is read next: the number v in the low digits, and w the weight of the next

abbrev pub onto : ℕ → ℕ → Varint → Varint
onto v w (Number n next) = Number (v + w * n) next
onto v w (Refused number place) = Refused number place

pub onto_none : (x : Varint) → onto 0 1 x ≡ x
onto_none (Number n next) = ap (λ (k : ℕ). Number k next) (omega arith)
onto_none (Refused number place) = refl

pub onto_under : (v w g : ℕ) (x : Varint) → onto v w (under g x) ≡ onto (v + g * w) (w * 128) x
onto_under v w g (Number n next) = ap (λ (k : ℕ). Number k next) (omega arith)
onto_under v w g (Refused number place) = refl

-- ---- the whole

-- nothing there
pub varint_end : (s : List ℕ) (at : ℕ) → length s ≤ at → varint_of s at ≡ Refused 1 at
unfolding varint_of
varint_end s at h = ap cut (at_end at 9 s at h)

-- a number of one byte
pub varint_one : (s : List ℕ) (at : ℕ) → at < length s → get_or s at 0 < 128 → varint_of s at ≡ Number (get_or s at 0) (at + 1)
unfolding varint_of
varint_one s at h l = ap cut (at_last at 9 s at h l) ∙ ap (λ (k : ℕ). Number k (at + 1)) (mod-eq_of_lt (omega arith))

-- The two loops: what is left to read or write, put where the next goes, makes the whole.
use mathlib.Core.Path.{◌≡◌, refl, sym, ap, ◌∙◌}
use mathlib.Core.List.{List, [], ◌∷◌, ◌++◌}
use Prim.Native.Nat.{ℕ, ◌+◌, ◌≤◌, ◌<◌}
use native.Mathlib.Nat.{zero-add}
use native.Mathlib.Omega.{arith}
use lib.ListN.{length, set, length-set, length-append}
use Rattle.slices.specs.Put.{put}
use Rattle.slices.specs.Laws.Put.{put_none, put_cons, put_put, length_put}

-- a run of `total` elements makes `whole` of `before`; the table is now `t`, `used` elements are stored, and `left` are to be
pub record Left (before whole : List ℕ) (total : ℕ) (t : List ℕ) (used : ℕ) (left : List ℕ) : Type 0 where
  pub makes : put t used left ≡ whole
  pub ends : used + length left ≡ total
  pub inside : used ≤ length t
  pub long : length t ≡ length before

module _ (before whole : List ℕ) (total : ℕ) (t : List ℕ) (used : ℕ) (left : List ℕ) (l : Left before whole total t used left) where
  -- nothing is left
  pub left_none : left ≡ [] → (used ≡ total) × (t ≡ whole)
  left_none e = let n = ap length e in (omega (arith, l.ends), sym (put_none t used) ∙ ap (put t used) (sym e) ∙ l.makes)

  -- one element is stored
  pub left_one : (y : ℕ) (rest : List ℕ) → left ≡ y ∷ rest → used < length t → Left before whole total (set t used y) (used + 1) rest
  left_one y rest e h =
      let n = ap length e in
      record {
        makes = put_cons t used y rest ∙ ap (put t used) (sym e) ∙ l.makes;
        ends = omega (arith, l.ends);
        inside = simp length-set (omega arith);
        long = length-set t used y ∙ l.long;
      }

  -- a run is stored
  pub left_run : (ys rest : List ℕ) → left ≡ ys ++ rest → used + length ys ≤ length t → Left before whole total (put t used ys) (used + length ys) rest
  left_run ys rest e h =
      let n = ap length e ∙ length-append ys rest in
      record {
        makes = put_put t used ys rest ∙ ap (put t used) (sym e) ∙ l.makes;
        ends = omega (arith, l.ends);
        inside = simp length_put (omega arith);
        long = length_put t used ys ∙ l.long;
      }

-- the first turn of either
pub left_start : (t left : List ℕ) → Left t (put t 0 left) (length left) t 0 left
left_start t left = record { makes = refl; ends = zero-add (length left); inside = omega arith; long = refl }

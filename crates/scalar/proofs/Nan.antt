-- NaNs, by the code's tests: one comparison of a pattern's bits, and `is_nan` of a float. One law for both formats. Assumes nothing.
use mathlib.Core.Path.{◌≡◌, refl, ◌∙◌}
use mathlib.Core.Bool.{true, false}
use Prim.Native.Nat.{ℕ, ◌%◌, ◌*◌, ◌<◌, ◌≤◌}
use lib.Ieee.{Float, Format, nan, inf, fin, top, ones, hid, nan_bits, is_nan}
use lib.Ieee.Bits.{nan_bits_above}
use borrow.Author.Tests.{le-ltb, lt-ltb}

module _ (f : Format) (n : ℕ) where
  pub no_nan_bits : n % top f ≤ ones f * hid f → nan_bits f n ≡ false
  no_nan_bits h = nan_bits_above f n ∙ le-ltb _ _ h

  pub nan_bits_lem : ones f * hid f < n % top f → nan_bits f n ≡ true
  nan_bits_lem h = nan_bits_above f n ∙ lt-ltb _ _ h

pub is_nan_lem : (x : Float) → is_nan x ≡ true → x ≡ nan
unfolding is_nan
is_nan_lem nan h = refl
is_nan_lem (inf s) h = cc
is_nan_lem (fin s m e) h = cc

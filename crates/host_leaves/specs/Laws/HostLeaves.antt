-- `numbers_of` and `bytes_of` by cases, as a loop meets them.
use Rattle.std.specs.Prelude.{◌≡◌, List, [], ◌∷◌, ◌++◌, length, drop, get_or}
use Rattle.std.proofs.Math.Path.{refl, ap}
use Prim.Native.Nat.{ℕ, zero, suc, ◌+◌, ◌-◌, ◌≤◌, ◌<◌}
use Rattle.std.proofs.Common.{add-one, drop_of_length-le, le-leb}
use Rattle.std.proofs.Math.Seq.{drop-cons}
use Rattle.std.proofs.lemmas.Bool.{lt-leb}
use Rattle.varint.specs.Varint.{Number, Refused}
use Rattle.varint.specs.Uleb128.{uleb128}
use Rattle.varint.specs.Varint.{varint_of}
use Rattle.host_leaves.specs.HostLeaves.{numbers_of, bytes_of}

-- no room, a number, a refusal
module _ (bytes : List ℕ) (at : ℕ) where
  pub numbers_full : numbers_of 0 bytes at ≡ []
  unfolding numbers_of
  numbers_full = refl

  pub numbers_more : (most n next : ℕ) → varint_of bytes at ≡ Number n next → numbers_of (suc most) bytes at ≡ n ∷ numbers_of most bytes next
  unfolding numbers_of
  numbers_more most n next e = rw e

  pub numbers_refused : (most number place : ℕ) → varint_of bytes at ≡ Refused number place → numbers_of most bytes at ≡ []
  unfolding numbers_of
  numbers_refused zero number place e = refl
  numbers_refused (suc most) number place e = rw e

-- from index i on: no number, one that fits, one that does not
module _ (room : ℕ) (numbers : List ℕ) (i : ℕ) where
  pub bytes_end : length numbers ≤ i → bytes_of room (drop i numbers) ≡ []
  unfolding bytes_of
  bytes_end h = ap (bytes_of room) (drop_of_length-le numbers h)

  pub bytes_more : i < length numbers → length (uleb128 (get_or numbers i 0)) ≤ room
      → bytes_of room (drop i numbers) ≡ uleb128 (get_or numbers i 0) ++ bytes_of (room - length (uleb128 (get_or numbers i 0))) (drop (i + 1) numbers)
  unfolding bytes_of
  bytes_more h fits = rw (add-one i, drop-cons numbers i 0 h) (simp (le-leb (length (uleb128 (get_or numbers i 0))) room fits))

  pub bytes_full : i < length numbers → room < length (uleb128 (get_or numbers i 0)) → bytes_of room (drop i numbers) ≡ []
  unfolding bytes_of
  bytes_full h full = rw (drop-cons numbers i 0 h) (simp (lt-leb (length (uleb128 (get_or numbers i 0))) room full))

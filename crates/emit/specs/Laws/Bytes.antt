-- Laws of `emit` by what the code does: a byte, and many bytes, stored, measured or compared.
use Rattle.std.specs.Prelude.{Bool, ◌&&◌, ◌≡◌, get_or, take, drop, set}
use Rattle.std.proofs.Math.Bool.{true, false, cond}
use mathlib.Core.List.{List, [], ◌∷◌, ◌++◌}
use Rattle.std.proofs.Math.Path.{refl, ap, ap₂}
use Rattle.std.proofs.Common.{sym, ◌∙◌, drop_of_length-le, length-drop, drop-cons}
use Prim.Native.Nat.{ℕ, zero, suc, ◌+◌, ◌-◌, ◌/◌, ◌%◌, ◌≤◌, ◌<◌}
use native.Mathlib.Omega.{arith}
use Rattle.std.proofs.Math.Dec.{leb, eqb}
use Rattle.std.proofs.Math.ListN.{length}
use Rattle.std.proofs.Math.Seq.{take-length}
use borrow.Author.Tests.{le-leb, lt-leb, leb-true, eq-eqb, ne_eqb}
use Rattle.slices.specs.Laws.Put.{put_last}
use Rattle.slices.specs.LittleEndian.{to_le_bytes}
use Rattle.slices.specs.Put.{put}
use Rattle.slices.specs.Same.{same}
use Rattle.emit.specs.Emit.{output, limit, stopped, begins, goes_on, place_after, emit, output_limit, further, Emitted}
use Rattle.emit.specs.Laws.Emit.{put_out, output_limit_lem, emitted}

---- past the output only the length counts

pub emit_past : (p o : List ℕ) (at : ℕ) (b : List ℕ) → length o ≤ at → emit false p (output o at) b ≡ output o (further at (length b))
unfolding emit place_after goes_on further
emit_past p o at b h = ap₂ output (put_out o at b h) (go (leb (at + length b) limit))
  where
    go : (t : Bool) → cond (t && true) (at + length b) stopped ≡ cond t (at + length b) stopped
    go true = refl
    go false = refl

---- one byte

module _ (p o : List ℕ) (at x : ℕ) where
  pub byte_far : (comparing : Bool) → length o ≤ output_limit comparing → limit ≤ at → emit comparing p (output o at) (x ∷ []) ≡ output o stopped
  unfolding emit place_after goes_on
  byte_far comparing h g = ap₂ output (put_out o at (x ∷ []) (omega (arith, output_limit_lem comparing))) (rw (lt-leb (at + 1) limit (omega arith)))

  pub byte_in : at < length o → length o ≤ limit → emit false p (output o at) (x ∷ []) ≡ output (set o at x) (at + 1)
  unfolding emit place_after goes_on
  byte_in h g = ap₂ output (sym (put_last o at x)) (rw (le-leb (at + 1) limit (omega arith)))

  pub byte_past : at < limit → length o ≤ at → emit false p (output o at) (x ∷ []) ≡ output o (at + 1)
  unfolding emit place_after goes_on
  byte_past h g = ap₂ output (put_out o at (x ∷ []) g) (rw (le-leb (at + 1) limit (omega arith)))

  stopped_too : (t : Bool) → cond (t && false) (at + 1) stopped ≡ stopped
  stopped_too true = refl
  stopped_too false = refl

  pub byte_end : length o ≤ 0 → length p ≤ at → emit true p (output o at) (x ∷ []) ≡ output o stopped
  unfolding emit place_after goes_on begins
  byte_end h g = ap₂ output (put_out o at (x ∷ []) (omega arith)) (rw (drop_of_length-le p g) (stopped_too (leb (at + 1) limit)))

  pub byte_differs : length o ≤ 0 → at < length p → (get_or p at 0 ≡ x → ⊥) → emit true p (output o at) (x ∷ []) ≡ output o stopped
  unfolding emit place_after goes_on begins
  byte_differs h g ne = ap₂ output (put_out o at (x ∷ []) (omega arith)) (rw (drop-cons p at 0 g, ne_eqb x (get_or p at 0) (λ e. ne (sym e))) (stopped_too (leb (at + 1) limit)))

  pub byte_same : length o ≤ 0 → at < length p → at < limit → get_or p at 0 ≡ x → emit true p (output o at) (x ∷ []) ≡ output o (at + 1)
  unfolding emit place_after goes_on begins
  byte_same h g k e = ap₂ output (put_out o at (x ∷ []) (omega arith)) (rw (drop-cons p at 0 g, eq-eqb x (get_or p at 0) (sym e), le-leb (at + 1) limit (omega arith)))

-- the same by the test that the code makes
module _ {p o : List ℕ} {at x : ℕ} {comparing : Bool} where
  pub in_byte : comparing ≡ false → length o ≤ output_limit comparing → at < length o → Emitted comparing p o (set o at x) at (at + 1) (x ∷ [])
  unfolding output_limit
  in_byte e h g = emitted (sym (rw e (byte_in p o at x g (rw e at h))))

  pub past_byte : comparing ≡ false → at < limit → length o ≤ at → Emitted comparing p o o at (at + 1) (x ∷ [])
  past_byte e h g = emitted (sym (rw e (byte_past p o at x h g)))

  pub end_byte : comparing ≡ true → length o ≤ output_limit comparing → length p ≤ at → Emitted comparing p o o at stopped (x ∷ [])
  unfolding output_limit
  end_byte e h g = emitted (sym (rw e (byte_end p o at x (rw e at h) g)))

  pub other_byte : comparing ≡ true → length o ≤ output_limit comparing → at < length p → (get_or p at 0 ≡ x → ⊥) → Emitted comparing p o o at stopped (x ∷ [])
  unfolding output_limit
  other_byte e h g ne = emitted (sym (rw e (byte_differs p o at x (rw e at h) g ne)))

  pub same_byte : comparing ≡ true → length o ≤ output_limit comparing → at < length p → at < limit → get_or p at 0 ≡ x → Emitted comparing p o o at (at + 1) (x ∷ [])
  unfolding output_limit
  same_byte e h g k q = emitted (sym (rw e (byte_same p o at x (rw e at h) g k q)))

  pub far_byte : length o ≤ output_limit comparing → limit ≤ at → Emitted comparing p o o at stopped (x ∷ [])
  far_byte h g = emitted (sym (byte_far p o at x comparing h g))

pub past_all : {p o b : List ℕ} {at : ℕ} {comparing : Bool} → comparing ≡ false → length o ≤ at → Emitted comparing p o o at (further at (length b)) b
past_all {p} {o} {b} {at} {comparing} e h = emitted (sym (rw e (emit_past p o at b h)))

---- many bytes

-- in the output
pub emitted_in : {p o o' b : List ℕ} {at r : ℕ} {comparing : Bool} → comparing ≡ false → length o ≤ output_limit comparing → at + length b ≤ length o → o' ≡ put o at b → r ≡ at + length b → Emitted comparing p o o' at r b
unfolding emit place_after goes_on output_limit
emitted_in {b = b} {at = at} e h g q w =
    let n : at + length b ≤ limit = omega (arith, rw e at h) in
    emitted (ap₂ output q (w ∙ rw (e, le-leb (at + length b) limit n)))

-- in the output, or only in part
pub emitted_over : {p o o' b : List ℕ} {at r : ℕ} {comparing : Bool} → comparing ≡ false → o' ≡ put o at b → r ≡ further at (length b) → Emitted comparing p o o' at r b
unfolding emit place_after goes_on further
emitted_over {b = b} {at = at} e q w = emitted (ap₂ output q (w ∙ rw e (go (leb (at + length b) limit))))
  where
    go : (t : Bool) → cond t (at + length b) stopped ≡ cond (t && true) (at + length b) stopped
    go true = refl
    go false = refl

-- a comparison
pub emitted_like : {p o b : List ℕ} {at r : ℕ} {comparing : Bool} → comparing ≡ true → length o ≤ output_limit comparing → r ≡ place_after true p at b → Emitted comparing p o o at r b
unfolding emit output_limit
emitted_like {o = o} {b = b} {at = at} e h q = emitted (rw e (ap₂ output (sym (put_out o at b (omega (arith, rw e at h)))) q))

module _ (p b : List ℕ) (at : ℕ) where
  -- too far
  pub like_far : further at (length b) ≡ stopped → stopped ≡ place_after true p at b
  unfolding further place_after goes_on
  like_far e = go (leb (at + length b) limit) refl
    where
      go : (t : Bool) → leb (at + length b) limit ≡ t → stopped ≡ cond (t && begins b (drop at p)) (at + length b) stopped
      go true q = let h : at + length b ≤ limit = leb-true _ _ q in let f : at + length b ≡ stopped = rw q at e in absurd (omega arith)
      go false q = refl

  -- where it came no further than the limit
  pub further_in : (e : ℕ) → e ≡ further at (length b) → (e ≡ stopped → ⊥) → (at + length b ≤ limit) × (e ≡ at + length b)
  unfolding further
  further_in e q n = go (leb (at + length b) limit) refl
    where
      go : (t : Bool) → leb (at + length b) limit ≡ t → (at + length b ≤ limit) × (e ≡ at + length b)
      go true w = (leb-true _ _ w, rw w at q)
      go false w = absurd (n (rw w at q))

  begins_same : (l : List ℕ) (c : List ℕ) → length c ≤ length l → begins c l ≡ same c (take (length c) l)
  unfolding begins same
  begins_same l [] h = refl
  begins_same [] (x ∷ c) h = absurd (omega arith)
  begins_same (y ∷ l) (x ∷ c) h = ap (λ (t : Bool). eqb x y && t) (begins_same l c (omega arith))

  begins_long : (l : List ℕ) (c : List ℕ) → length l < length c → begins c l ≡ false
  unfolding begins
  begins_long l [] h = absurd (omega arith)
  begins_long [] (x ∷ c) h = refl
  begins_long (y ∷ l) (x ∷ c) h = go (eqb x y) (begins_long l c (omega arith))
    where
      go : (t : Bool) → begins c l ≡ false → (t && begins c l) ≡ false
      go true e = e
      go false e = refl

  -- the payload ends first
  pub like_long : length p < at + length b → (length b ≡ 0 → ⊥) → stopped ≡ place_after true p at b
  unfolding place_after goes_on
  like_long h n = go (leb (at + length b) limit) (begins_long (drop at p) b (rw (length-drop at p) (shorter (length b) h n)))
    where
      shorter : (k : ℕ) → length p < at + k → (k ≡ 0 → ⊥) → length p - at < k
      shorter zero h n = absurd (n refl)
      shorter (suc k) h n = omega arith

      go : (t : Bool) → begins b (drop at p) ≡ false → stopped ≡ cond (t && begins b (drop at p)) (at + length b) stopped
      go true e = rw e
      go false e = refl

  -- no bytes
  pub like_none : at + length b ≤ limit → length b ≡ 0 → at + length b ≡ place_after true p at b
  unfolding place_after goes_on
  like_none h e = rw (le-leb (at + length b) limit h, empty b e)
    where
      empty : (c : List ℕ) → length c ≡ 0 → begins c (drop at p) ≡ true
      empty [] e = unfold begins in refl
      empty (x ∷ c) e = absurd (omega arith)

  -- as the bytes there are the same or not
  like_is : at + length b ≤ limit → at + length b ≤ length p → (t : Bool) → t ≡ same (take (length b) b) (take (length b) (drop at p)) → cond t (at + length b) stopped ≡ place_after true p at b
  unfolding place_after goes_on
  like_is h g t e = rw (le-leb (at + length b) limit h, begins_same (drop at p) b (rw (length-drop at p) (omega arith)), ← (e ∙ ap (λ (c : List ℕ). same c (take (length b) (drop at p))) (take-length b)))

  pub like_yes : at + length b ≤ limit → at + length b ≤ length p → (t : Bool) → t ≡ same (take (length b) b) (take (length b) (drop at p)) → t ≡ true → at + length b ≡ place_after true p at b
  like_yes h g t e y = rw y at (like_is h g t e)

  pub like_no : at + length b ≤ limit → at + length b ≤ length p → (t : Bool) → t ≡ same (take (length b) b) (take (length b) (drop at p)) → t ≡ false → stopped ≡ place_after true p at b
  like_no h g t e y = rw y at (like_is h g t e)

---- what is left of little-endian bytes

pub le_some : (n k w : ℕ) → k < n → to_le_bytes (n - k) w ≡ (w % 256 ∷ []) ++ to_le_bytes (n - (k + 1)) (w / 256)
unfolding to_le_bytes
le_some n k w h = let e : n - k ≡ suc (n - (k + 1)) = omega arith in rw e

pub le_none : (n k w : ℕ) → n ≤ k → to_le_bytes (n - k) w ≡ []
unfolding to_le_bytes
le_none n k w h = let e : n - k ≡ 0 = omega arith in rw e

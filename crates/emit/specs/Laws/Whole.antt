-- What a whole emission gives: its length, the output, or whether it is the payload.
use Rattle.std.specs.Prelude.{Bool, true, cond, ◌&&◌, List, [], ◌∷◌, ◌++◌, ◌≡◌, refl, ℕ, ◌+◌, ◌≤◌, leb, eqb, drop}
use Rattle.std.proofs.Math.Bool.{false, and-eq-true_iff, false≢true}
use Rattle.std.proofs.Math.Path.{sym}
use Rattle.std.proofs.Common.{ap, ◌∙◌, zero-add, le-leb, eq-eqb, ne_eqb}
use native.Mathlib.Omega.{arith}
use Rattle.std.proofs.Math.ListN.{length}
use Rattle.slices.specs.Laws.Put.{put_parts}
use Rattle.slices.specs.Laws.Same.{same_eq}
use Rattle.slices.specs.Same.{same}
use Rattle.emit.specs.Emit.{Output, limit, stopped, begins, goes_on, place_after, emit, further, Emitted}

-- measured
pub measured : {p o o' b : List ℕ} {r : ℕ} → Emitted false p o o' 0 r b → r ≡ further 0 (length b)
unfolding emit place_after goes_on further
measured {b = b} s = ap (λ (k : Output). k.at) s.is ∙ go (leb (0 + length b) limit)
  where
    go : (t : Bool) → cond (t && true) (0 + length b) stopped ≡ cond t (0 + length b) stopped
    go true = refl
    go false = refl

-- stored
pub stored : {p o o' b : List ℕ} {r : ℕ} → length b ≤ length o → Emitted false p o o' 0 r b → o' ≡ b ++ drop (length b) o
unfolding emit
stored {o = o} {b = b} h s = ap (λ (k : Output). k.out) s.is ∙ put_parts o 0 b (omega arith) ∙ ap (λ (n : ℕ). b ++ drop n o) (zero-add (length b))

pub whole_length : (b o : List ℕ) → length b ≤ length o → length o ≤ limit → further 0 (length b) ≡ length b
unfolding further
whole_length b o h g = rw (le-leb (0 + length b) limit (omega arith)) (zero-add (length b))

-- compared
begins_same : (b p : List ℕ) → length b ≡ length p → begins b p ≡ same b p
unfolding begins same
begins_same [] [] h = refl
begins_same [] (y ∷ p) h = absurd (omega arith)
begins_same (x ∷ b) [] h = absurd (omega arith)
begins_same (x ∷ b) (y ∷ p) h = ap (λ (t : Bool). eqb x y && t) (begins_same b p (omega arith))

place_yes : (b p : List ℕ) → length b ≡ length p → begins b p ≡ true → length p ≤ limit → place_after true p 0 b ≡ length p
unfolding place_after goes_on
place_yes b p e g h = let z : 0 + length b ≡ length p = omega arith in rw (z, le-leb (length p) limit h, g)

place_no : (b p : List ℕ) → same b p ≡ false → length p ≤ limit → place_after true p 0 b ≡ length p → ⊥
unfolding place_after
place_no b p q h e = go (goes_on true p 0 b) refl
  where
    go : (t : Bool) → goes_on true p 0 b ≡ t → ⊥
    go true g =
        let e' : 0 + length b ≡ length p = rw g at e in
        let w : begins b p ≡ true = unfold goes_on in ((and-eq-true_iff (leb (0 + length b) limit) _).0 g).1 in
        false≢true (sym q ∙ sym (begins_same b p (omega arith)) ∙ w)
    go false g = let e' : stopped ≡ length p = rw g at e in omega arith

pub compared : {p o o' b : List ℕ} {r : ℕ} → length p ≤ limit → Emitted true p o o' 0 r b → eqb r (length p) ≡ same b p
unfolding emit
compared {p} {o} {o'} {b} {r} h s = ap (λ (n : ℕ). eqb n (length p)) (ap (λ (k : Output). k.at) s.is) ∙ go (same b p) refl
  where
    go : (t : Bool) → same b p ≡ t → eqb (place_after true p 0 b) (length p) ≡ t
    go true q = let e = ap length (same_eq b p q) in eq-eqb _ _ (place_yes b p e (begins_same b p e ∙ q) h)
    go false q = ne_eqb _ _ (place_no b p q h)

-- What a part's writer did to a lent part of the output, said of the whole.
use Rattle.std.specs.Prelude.{Bool, cond, ◌&&◌, List, [], ◌++◌, ◌≡◌, refl, ℕ, ◌+◌, ◌-◌, ◌≤◌, min, leb, length, take, drop}
use Rattle.std.proofs.Math.Bool.{true, false}
use Rattle.std.proofs.Common.{append-nil, ap, ap₂, ◌∙◌, zero-add, arith, drop_of_length-le, length-drop, length-take, take_all}
use Rattle.std.proofs.Math.Path.{sym}
use borrow.Author.Tests.{lt-leb, leb-true, leb-false}
use borrow.Rule.Slice.PartMut.{put_mid, mid_of}
use Rattle.slices.specs.Laws.Put.{put_part}
use Rattle.slices.specs.Put.{put}
use Rattle.emit.specs.Emit.{Output, output, limit, stopped, begins, goes_on, place_after, emit, further, Emitted}
use Rattle.emit.specs.Laws.Emit.{put_out, emitted}

lent_place : (at n : ℕ) (u : Bool) → further at (cond (leb n limit && u) n stopped) ≡ cond (leb (at + n) limit && u) (at + n) stopped
lent_place at n u = go (leb n limit) refl u
  where
    stopped_on : further at stopped ≡ stopped
    stopped_on = unfold further in (rw (lt-leb (at + stopped) limit (omega arith)))

    two : (v : Bool) → cond (v && false) (at + n) stopped ≡ stopped
    two true = refl
    two false = refl

    one : (v : Bool) → cond v (at + n) stopped ≡ cond (v && true) (at + n) stopped
    one true = refl
    one false = refl

    go : (t : Bool) → leb n limit ≡ t → (v : Bool) → further at (cond (t && v) n stopped) ≡ cond (leb (at + n) limit && v) (at + n) stopped
    go true q true = unfold further in (one (leb (at + n) limit))
    go true q false = stopped_on ∙ sym (two (leb (at + n) limit))
    go false q v = stopped_on ∙ rw (lt-leb (at + n) limit (omega (arith, leb-false n limit q)))

place_lent : (comparing : Bool) (p : List ℕ) (at : ℕ) (b : List ℕ) → further at (place_after comparing (drop at p) 0 b) ≡ place_after comparing p at b
unfolding place_after goes_on
place_lent comparing p at b = rw zero-add (lent_place at (length b) (cond comparing (begins b (drop at p)) true))

put_min : (o : List ℕ) (at : ℕ) (b : List ℕ) → put o (min at (length o)) b ≡ put o at b
put_min o at b = go (leb at (length o)) refl
  where
    go : (t : Bool) → leb at (length o) ≡ t → put o (min at (length o)) b ≡ put o at b
    go true q = let g = leb-true at (length o) q in let e : min at (length o) ≡ at = omega arith in ap (λ (n : ℕ). put o n b) e
    go false q = let g = leb-false at (length o) q in put_out o (min at (length o)) b (omega arith) ∙ sym (put_out o at b (omega arith))

-- what a part's writer did to the part that it was lent, said of the whole: `at` is where the part begins, r how far its writer came
pub lent : {comparing : Bool} {p p' o last : List ℕ} {at k r r' : ℕ} {b : List ℕ} → k ≡ min at (length o) → p' ≡ drop at p → r' ≡ further at r
    → Emitted comparing p' (mid_of k (length o - k) o) last 0 r b → Emitted comparing p o (put_mid k (length o - k) o last) at r' b
unfolding emit
lent {comparing} {p} {p'} {o} {last} {at} {k} {r} {r'} {b} ek eq er s =
    let seen : mid_of k (length o - k) o ≡ drop k o = take_all (length o - k) (drop k o) (simp length-drop (omega arith)) in
    let none : drop (length o - k) (drop k o) ≡ [] = drop_of_length-le (drop k o) {i = length o - k} (simp length-drop (omega arith)) in
    let out : last ≡ put (drop k o) 0 b = ap (λ (z : Output). z.out) s.is ∙ ap (λ (l : List ℕ). put l 0 b) seen in
    let to : r ≡ place_after comparing (drop at p) 0 b = ap (λ (z : Output). z.at) s.is ∙ ap (λ (l : List ℕ). place_after comparing l 0 b) eq in
    emitted (ap₂ output
    (ap (λ (l : List ℕ). take k o ++ (last ++ l)) none ∙ ap (λ (l : List ℕ). take k o ++ l) (append-nil last ∙ out) ∙ put_part o k b ∙ ap (λ (n : ℕ). put o n b) ek ∙ put_min o at b)
    (er ∙ ap (further at) to ∙ place_lent comparing p at b))

-- what is lent is no longer than the whole
pub lent_length : (o : List ℕ) (k : ℕ) → length (mid_of k (length o - k) o) ≤ length o
lent_length o k = omega (arith, length-take (length o - k) (drop k o), length-drop k o)

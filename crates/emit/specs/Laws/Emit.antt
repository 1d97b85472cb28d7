-- Laws of `emit`: one run of bytes after another.
use Rattle.std.specs.Prelude.{Bool, ◌&&◌, List, [], ◌∷◌, ◌++◌, ◌≡◌, ℕ, suc, ◌+◌, ◌-◌, ◌≤◌, ◌<◌, min, leb, eqb, take, drop}
use Rattle.std.proofs.Math.Bool.{true, false, cond, and-eq-true_iff}
use Rattle.std.proofs.Math.Path.{refl, sym, ap, ap₂}
use Rattle.std.proofs.Common.{◌∙◌, subst, add-zero, add_assoc, arith, length-append, take-append-drop, drop-drop, take_all, length-take-le, leb-true, leb-false}
use Rattle.std.proofs.Math.ListN.{length}
use Rattle.std.proofs.Math.Seq.{set_out}
use Rattle.std.proofs.lemmas.Bool.{lt-leb}
use Rattle.slices.specs.Laws.Put.{put_put, put_none, length_put}
use Rattle.slices.specs.Put.{put}
use Rattle.emit.specs.Emit.{Output, output, limit, stopped, further, begins, goes_on, place_after, emit, output_limit, Emitted}

---- stores

pub put_out : (l : List ℕ) (i : ℕ) (b : List ℕ) → length l ≤ i → put l i b ≡ l
unfolding put
put_out l i [] h = refl
put_out l i (x ∷ b) h = ap (λ (m : List ℕ). put m (suc i) b) (set_out l i x h) ∙ put_out l (suc i) b (omega arith)

-- only what lies in the list is stored
pub put_cut : (l : List ℕ) (i k : ℕ) (b : List ℕ) → k ≤ length b → length l ≤ i + k → put l i (take k b) ≡ put l i b
put_cut l i k b h g =
    let n : length (take k b) ≡ k = length-take-le k b h in
    sym (put_out (put l i (take k b)) (i + length (take k b)) (drop k b) (omega (arith, length_put l i (take k b))))
    ∙ put_put l i (take k b) (drop k b) ∙ ap (put l i) (take-append-drop k b)

---- comparing

and_right : (a b : Bool) → (a && b) ≡ true → b ≡ true
and_right a b e = ((and-eq-true_iff a b).0 e).1

begins_append : (a b l : List ℕ) → begins (a ++ b) l ≡ (begins a l && begins b (drop (length a) l))
unfolding begins
begins_append [] b l = refl
begins_append (x ∷ a) b [] = refl
begins_append (x ∷ a) b (y ∷ l) = go (eqb x y) (begins_append a b l)
  where
    go : (t : Bool) → begins (a ++ b) l ≡ (begins a l && begins b (drop (length a) l)) → (t && begins (a ++ b) l) ≡ ((t && begins a l) && begins b (drop (length a) l))
    go true e = e
    go false e = refl

---- one after another

goes_on_append : (comparing : Bool) (p : List ℕ) (at : ℕ) (a b : List ℕ) → goes_on comparing p at a ≡ true → goes_on comparing p at (a ++ b) ≡ goes_on comparing p (at + length a) b
unfolding goes_on
goes_on_append comparing p at a b h =
    ap₂ (λ (x y : Bool). x && y) (ap (λ (n : ℕ). leb n limit) (ap (λ (n : ℕ). at + n) (length-append a b) ∙ sym (add_assoc at (length a) (length b)))) (go comparing (and_right (leb (at + length a) limit) _ h))
  where
    go : (t : Bool) → cond t (begins a (drop at p)) true ≡ true → cond t (begins (a ++ b) (drop at p)) true ≡ cond t (begins b (drop (at + length a) p)) true
    go false q = refl
    go true q = begins_append a b (drop at p) ∙ ap (λ (x : Bool). x && begins b (drop (length a) (drop at p))) q ∙ ap (λ (l : List ℕ). begins b l) (drop-drop (length a) at p)

and_false : (a b : Bool) → a ≡ false → (a && b) ≡ false
and_false a b e = rw e

fails_append : (comparing : Bool) (p : List ℕ) (at : ℕ) (a b : List ℕ) → goes_on comparing p at a ≡ false → goes_on comparing p at (a ++ b) ≡ false
unfolding goes_on
fails_append comparing p at a b h = go (leb (at + length a) limit) refl comparing h
  where
    go : (t : Bool) → leb (at + length a) limit ≡ t → (k : Bool) → (t && cond k (begins a (drop at p)) true) ≡ false → (leb (at + length (a ++ b)) limit && cond k (begins (a ++ b) (drop at p)) true) ≡ false
    go false q k r = and_false _ _ (lt-leb (at + length (a ++ b)) limit (omega (arith, leb-false (at + length a) limit q, length-append a b)))
    go true q true r = fin (leb (at + length (a ++ b)) limit) (begins_append a b (drop at p) ∙ and_false _ _ r)
      where
        fin : (u : Bool) {v : Bool} → v ≡ false → (u && v) ≡ false
        fin true e = e
        fin false e = refl
    go true q false r = let z : ◌≡◌ {A = ℕ} 0 1 = cc in absurd (omega arith)

pub place_stopped : (comparing : Bool) (p : List ℕ) (b : List ℕ) → place_after comparing p stopped b ≡ stopped
unfolding place_after goes_on
place_stopped comparing p b = rw (lt-leb (stopped + length b) limit (omega arith))

far : (k : Bool) (p o : List ℕ) (at : ℕ) (a : List ℕ) → length o ≤ output_limit k → goes_on k p at a ≡ false → length o ≤ at + length a
unfolding output_limit goes_on
far true p o at a g q = omega arith
far false p o at a g q = go (leb (at + length a) limit) refl q
  where
    go : (t : Bool) → leb (at + length a) limit ≡ t → (t && true) ≡ false → length o ≤ at + length a
    go true r e = let z : ◌≡◌ {A = ℕ} 0 1 = cc in absurd (omega arith)
    go false r e = omega (arith, leb-false (at + length a) limit r)

pub output_limit_lem : (k : Bool) → output_limit k ≤ limit
unfolding output_limit
output_limit_lem true = omega arith
output_limit_lem false = omega arith

module _ (comparing : Bool) (p : List ℕ) (at : ℕ) (a b : List ℕ) where
  pub place_append : place_after comparing p at (a ++ b) ≡ place_after comparing p (place_after comparing p at a) b
  unfolding place_after
  place_append = go (goes_on comparing p at a) refl
    where
      go : (t : Bool) → goes_on comparing p at a ≡ t → cond (goes_on comparing p at (a ++ b)) (at + length (a ++ b)) stopped ≡ place_after comparing p (cond (goes_on comparing p at a) (at + length a) stopped) b
      go true q = rw (q, goes_on_append comparing p at a b q) (ap (λ (n : ℕ). cond (goes_on comparing p (at + length a) b) n stopped) (ap (λ (n : ℕ). at + n) (length-append a b) ∙ sym (add_assoc at (length a) (length b))))
      go false q = rw (q, fails_append comparing p at a b q) (sym (place_stopped comparing p b))

  pub emit_append : (o : List ℕ) → length o ≤ output_limit comparing → emit comparing p (output o at) (a ++ b) ≡ emit comparing p (emit comparing p (output o at) a) b
  unfolding emit place_after
  emit_append o h = ap₂ output (sym (put_put o at a b) ∙ stored) place_append
    where
      beyond : (k : ℕ) → length o ≤ k → put (put o at a) k b ≡ put o at a
      beyond k g = put_out (put o at a) k b (omega (arith, length_put o at a))

      stored : put (put o at a) (at + length a) b ≡ put (put o at a) (place_after comparing p at a) b
      stored = go (goes_on comparing p at a) refl
        where
          go : (t : Bool) → goes_on comparing p at a ≡ t → put (put o at a) (at + length a) b ≡ put (put o at a) (cond (goes_on comparing p at a) (at + length a) stopped) b
          go true q = rw q
          go false q = rw q (beyond (at + length a) (far comparing p o at a h q) ∙ sym (beyond stopped (omega (arith, h, output_limit_lem comparing))))

pub emit_none : (comparing : Bool) (p o : List ℕ) (at : ℕ) → at ≤ stopped → emit comparing p (output o at) [] ≡ output o at
unfolding emit place_after goes_on begins
emit_none comparing p o at h = ap₂ output (put_none o at) (go (leb (at + 0) limit) refl comparing)
  where
    go : (t : Bool) → leb (at + 0) limit ≡ t → (k : Bool) → cond (t && cond k true true) (at + 0) stopped ≡ at
    go true q true = add-zero at
    go true q false = add-zero at
    go false q k = let g = leb-false (at + 0) limit q in omega arith

pub place_reach : (comparing : Bool) (p : List ℕ) (at : ℕ) (b : List ℕ) → place_after comparing p at b ≤ stopped
unfolding place_after goes_on
place_reach comparing p at b = go (leb (at + length b) limit) refl (cond comparing (begins b (drop at p)) true)
  where
    go : (t : Bool) → leb (at + length b) limit ≡ t → (u : Bool) → cond (t && u) (at + length b) stopped ≤ stopped
    go true q true = let g = leb-true (at + length b) limit q in omega arith
    go true q false = omega arith
    go false q u = omega arith

module _ {comparing : Bool} {p : List ℕ} where
  pub emitted : {o o' : List ℕ} {at at' : ℕ} {b : List ℕ} → output o' at' ≡ emit comparing p (output o at) b → Emitted comparing p o o' at at' b
  unfolding emit
  emitted {o} {o'} {at} {at'} {b} e = record { is = e; reach = let g = place_reach comparing p at b in omega (arith, ap (λ (s : Output). s.at) e) }

  pub emitted_as : {o o' : List ℕ} {at at' : ℕ} {a b : List ℕ} → a ≡ b → Emitted comparing p o o' at at' a → Emitted comparing p o o' at at' b
  emitted_as {o} {o'} {at} {at'} e s = subst (λ (l : List ℕ). Emitted comparing p o o' at at' l) e s

  pub emitted_none : {o : List ℕ} {at : ℕ} → at ≤ stopped → Emitted comparing p o o at at []
  emitted_none {o} {at} h = emitted (sym (emit_none comparing p o at h))

  pub emitted_long : {o o' : List ℕ} {at at' : ℕ} {b : List ℕ} → Emitted comparing p o o' at at' b → length o' ≡ length o
  unfolding emit
  emitted_long {o} {o'} {at} {at'} {b} s = ap (λ (k : Output). length k.out) s.is ∙ length_put o at b

  pub emitted_then : {o o' o'' : List ℕ} {at at' at'' : ℕ} {a b : List ℕ} → length o ≤ output_limit comparing → Emitted comparing p o o' at at' a → Emitted comparing p o' o'' at' at'' b → Emitted comparing p o o'' at at'' (a ++ b)
  emitted_then {o} {o'} {o''} {at} {at'} {at''} {a} {b} h s r = record { is = r.is ∙ ap (λ (k : Output). emit comparing p k b) s.is ∙ sym (emit_append comparing p at a b o h); reach = r.reach }

-- as many bytes as there is room for
pub put_store : (o : List ℕ) (at : ℕ) (b : List ℕ) {k : ℕ} {o' : List ℕ} → at ≤ length o → k ≡ min (length b) (length o - at) → o' ≡ put o at (take k b) → o' ≡ put o at b
put_store o at b {k} h e q = q ∙ go (leb (length b) (length o - at)) refl
  where
    go : (t : Bool) → leb (length b) (length o - at) ≡ t → put o at (take k b) ≡ put o at b
    go true w = let g : length b ≤ length o - at = leb-true _ _ w in ap (put o at) (take_all k b (omega arith))
    go false w = let g : length o - at < length b = leb-false _ _ w in put_cut o at k b (omega arith) (omega arith)

pub further_reach : (at n : ℕ) → further at n ≤ stopped
unfolding further
further_reach at n = go (leb (at + n) limit) refl
  where
    go : (t : Bool) → leb (at + n) limit ≡ t → cond t (at + n) stopped ≤ stopped
    go true q = omega (arith, leb-true (at + n) limit q)
    go false q = omega arith

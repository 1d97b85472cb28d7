-- Byte strings compared, searched and pooled.
use Rattle.std.specs.Prelude.{Bool, true, List, [], ◌++◌, ◌∷◌, ◌≡◌, refl, ◌<◌, suc, ℕ, get_or, length}
use Rattle.std.proofs.Math.Bool.{false}
use Rattle.std.proofs.Common.{sym, arith}
use Rattle.slices.specs.Laws.Same.{same_eq, same_refl}
use Rattle.slices.specs.Same.{same}
use Rattle.payload.specs.Choice.{◌and◌, ◌or◌, when◌then◌else◌}
use Rattle.payload.specs.Pool.{index_of, interned, is_in}

pub false≢true : {A : Type 0} → false ≡ true → A
false≢true e = let z : ◌≡◌ {A = ℕ} 0 1 = cc in absurd (omega arith)

pub and_left : (a b : Bool) → (a and b) ≡ true → a ≡ true
unfolding ◌and◌
and_left true b e = refl
and_left false b e = e

pub and_right : (a b : Bool) → (a and b) ≡ true → b ≡ true
unfolding ◌and◌
and_right true b e = e
and_right false b e = false≢true e

pub and_both : {a b : Bool} → a ≡ true → b ≡ true → (a and b) ≡ true
unfolding ◌and◌
and_both e f = rw (e, f)

pub index_of_lt : (x : List ℕ) (l : List (List ℕ)) → is_in x l ≡ true → index_of x l < length l
unfolding index_of is_in when◌then◌else◌
index_of_lt x [] e = false≢true e
index_of_lt x (y ∷ ys) e = go (same x y) refl (index_of_lt x ys)
  where
    go : (t : Bool) → same x y ≡ t → (is_in x ys ≡ true → index_of x ys < length ys) → when◌then◌else◌ (same x y) 0 (suc (index_of x ys)) < suc (length ys)
    go true q ih = rw q (omega arith)
    go false q ih = rw q (let h = ih (rw q at e) in omega arith)

pub index_of_at : (x : List ℕ) (l : List (List ℕ)) (d : List ℕ) → is_in x l ≡ true → get_or l (index_of x l) d ≡ x
unfolding index_of is_in when◌then◌else◌
index_of_at x [] d e = false≢true e
index_of_at x (y ∷ ys) d e = go (same x y) refl (index_of_at x ys d)
  where
    go : (t : Bool) → same x y ≡ t → (is_in x ys ≡ true → get_or ys (index_of x ys) d ≡ x) → get_or (y ∷ ys) (when◌then◌else◌ (same x y) 0 (suc (index_of x ys))) d ≡ x
    go true q ih = rw q (sym (same_eq x y q))
    go false q ih = rw q (ih (rw q at e))

pub is_in_append : (x : List ℕ) (l m : List (List ℕ)) → is_in x l ≡ true → is_in x (l ++ m) ≡ true
unfolding is_in
is_in_append x [] m e = false≢true e
is_in_append x (y ∷ ys) m e = go (same x y) refl (is_in_append x ys m)
  where
    go : (t : Bool) → same x y ≡ t → (is_in x ys ≡ true → is_in x (ys ++ m) ≡ true) → (same x y or is_in x (ys ++ m)) ≡ true
    go true q ih = rw q
    go false q ih = rw q (ih (rw q at e))

pub is_in_last : (x : List ℕ) (l : List (List ℕ)) → is_in x (l ++ (x ∷ [])) ≡ true
unfolding is_in
is_in_last x [] = rw (same_refl x)
is_in_last x (y ∷ ys) = go (same x y) (is_in_last x ys)
  where
    go : (t : Bool) → is_in x (ys ++ (x ∷ [])) ≡ true → (t or is_in x (ys ++ (x ∷ []))) ≡ true
    go true q = refl
    go false q = q

-- the pool holds what it held, and every string of the list
pub interned_keeps : (x : List ℕ) (xs l : List (List ℕ)) → is_in x l ≡ true → is_in x (interned l xs) ≡ true
unfolding interned
interned_keeps x [] l e = e
interned_keeps x (y ∷ ys) l e = interned_keeps x ys (when◌then◌else◌ (is_in y l) l (l ++ (y ∷ []))) (go (is_in y l))
  where
    go : (t : Bool) → is_in x (when◌then◌else◌ t l (l ++ (y ∷ []))) ≡ true
    go true = unfold when◌then◌else◌ in e
    go false = unfold when◌then◌else◌ in (is_in_append x l (y ∷ []) e)

pub interned_in : (x : List ℕ) (xs l : List (List ℕ)) → is_in x xs ≡ true → is_in x (interned l xs) ≡ true
unfolding interned is_in when◌then◌else◌
interned_in x [] l e = false≢true e
interned_in x (y ∷ ys) l e = go (same x y) refl (is_in y l) refl (λ k. interned_in x ys k)
  where
    here' : (t : Bool) → is_in y l ≡ t → is_in y (when◌then◌else◌ (is_in y l) l (l ++ (y ∷ []))) ≡ true
    here' true q = rw q q
    here' false q = rw q (is_in_last y l)

    go : (t : Bool) → same x y ≡ t → (u : Bool) → is_in y l ≡ u → ((k : List (List ℕ)) → is_in x ys ≡ true → is_in x (interned k ys) ≡ true) → is_in x (interned (when◌then◌else◌ (is_in y l) l (l ++ (y ∷ []))) ys) ≡ true
    go true q u r ih = interned_keeps x ys _ (rw (same_eq x y q) (here' u r))
    go false q u r ih = ih _ (rw q at e)

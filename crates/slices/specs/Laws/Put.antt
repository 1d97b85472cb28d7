-- Laws of `put`, over any element type.
use Rattle.std.specs.Prelude.{◌≡◌, ℕ, suc, ◌+◌, ◌≤◌, ◌<◌, get_or, set, take, replicate}
use Rattle.std.proofs.Math.Path.{refl, ap}
use Rattle.std.proofs.Common.{sym, ◌∙◌, add-suc, suc-add, arith, add-one, take-append-drop, length-take-le, take_at, drop_at}
use mathlib.Core.List.{List, [], ◌∷◌, ◌++◌, append_assoc}
use Rattle.std.proofs.Math.Nat.{add-zero}
use Rattle.std.proofs.Math.ListN.{length, drop}
use Rattle.std.proofs.lemmas.List.{length-replicate, replicate-append-replicate, set_comm, drop-set-add}
use Rattle.std.proofs.Math.Seq.{sets-eq, length-sets, get_or-set_same, get_or-set_other, take-set-le, drop-set-lt}
use Rattle.slices.specs.Put.{put}

shift : (i n : ℕ) → i + suc n ≡ suc i + n
shift i n = add-suc i n ∙ sym (suc-add i n)

module _ {A : Type 0} where
  -- the part before the run, the run, the part after it
  pub put_parts : (xs : List A) (i : ℕ) (ys : List A) → i + length ys ≤ length xs → put xs i ys ≡ take i xs ++ (ys ++ drop (i + length ys) xs)
  unfolding put
  put_parts xs i ys h = sets-eq ys xs i h ∙ append_assoc (take i xs) ys (drop (i + length ys) xs)

  pub length_put : (xs : List A) (i : ℕ) (ys : List A) → length (put xs i ys) ≡ length xs
  unfolding put
  length_put xs i ys = length-sets xs i ys

  pub put_none : (xs : List A) (i : ℕ) → put xs i [] ≡ xs
  unfolding put
  put_none xs i = refl

  -- one element at a time, from the front
  pub put_cons : (xs : List A) (i : ℕ) (y : A) (ys : List A) → put (set xs i y) (i + 1) ys ≡ put xs i (y ∷ ys)
  unfolding put
  put_cons xs i y ys = rw (add-one i)

  pub put_last : (xs : List A) (i : ℕ) (y : A) → set xs i y ≡ put xs i (y ∷ [])
  unfolding put
  put_last xs i y = refl

  -- one run after another
  pub put_put : (xs : List A) (i : ℕ) (ys zs : List A) → put (put xs i ys) (i + length ys) zs ≡ put xs i (ys ++ zs)
  unfolding put
  put_put xs i [] zs = rw add-zero
  put_put xs i (y ∷ ys) zs = rw (shift i (length ys)) (put_put (set xs i y) (suc i) ys zs)

  -- a run grows by one element at its end
  pub put_snoc : (xs : List A) (i : ℕ) (ys : List A) (y : A) → set (put xs i ys) (i + length ys) y ≡ put xs i (ys ++ (y ∷ []))
  put_snoc xs i ys y = put_last (put xs i ys) (i + length ys) y ∙ put_put xs i ys (y ∷ [])

  -- a run of one value grows by one, and by two
  pub fill_one : (xs : List A) (i m : ℕ) (a : A) → set (put xs i (replicate m a)) (i + m) a ≡ put xs i (replicate (m + 1) a)
  fill_one xs i m a =
      ap (λ (n : ℕ). set (put xs i (replicate m a)) (i + n) a) (sym (length-replicate m a))
      ∙ put_snoc xs i (replicate m a) a
      ∙ ap (put xs i) (replicate-append-replicate m 1 a)

  pub fill_two : (xs ys : List A) (i m : ℕ) (a : A) → ys ≡ put xs i (replicate m a) → set (set ys (i + m) a) (i + m + 1) a ≡ put xs i (replicate (m + 2) a)
  fill_two xs ys i m a e =
      let n : i + m + 1 ≡ i + (m + 1) = omega arith in
      let k : m + 2 ≡ m + 1 + 1 = omega arith in
      rw (e, n, k, fill_one xs i m a) (fill_one xs i (m + 1) a)

  -- a store before a run, before or after it
  put_set : (xs : List A) (j : ℕ) (a : A) (i : ℕ) (ys : List A) → j < i → put (set xs j a) i ys ≡ set (put xs i ys) j a
  unfolding put
  put_set xs j a i [] h = refl
  put_set xs j a i (y ∷ ys) h = rw (set_comm xs j i a y (λ e. omega (arith, e))) (put_set (set xs i y) j a (suc i) ys (omega arith))

  -- one run after another, the earlier one stored last
  pub put_under : (xs : List A) (i : ℕ) (ys zs : List A) → put (put xs (i + length ys) zs) i ys ≡ put xs i (ys ++ zs)
  unfolding put
  put_under xs i [] zs = rw add-zero
  put_under xs i (y ∷ ys) zs =
      rw (shift i (length ys), ← (put_set xs i y (suc i + length ys) zs (omega arith))) (put_under (set xs i y) (suc i) ys zs)

  -- what stands before the run
  pub take_put : (n : ℕ) (xs : List A) (i : ℕ) (ys : List A) → n ≤ i → take n (put xs i ys) ≡ take n xs
  unfolding put
  take_put n xs i [] h = refl
  take_put n xs i (y ∷ ys) h = take_put n (set xs i y) (suc i) ys (omega arith) ∙ take-set-le n xs i y h

  pub get_or_put_below : (xs : List A) (i : ℕ) (ys : List A) (j : ℕ) (d : A) → j < i → get_or (put xs i ys) j d ≡ get_or xs j d
  unfolding put
  get_or_put_below xs i [] j d h = refl
  get_or_put_below xs i (y ∷ ys) j d h = get_or_put_below (set xs i y) (suc i) ys j d (omega arith) ∙ get_or-set_other xs i j y d (λ e. omega (arith, e))

  -- the first element of the run
  pub get_or_put_first : (xs : List A) (i : ℕ) (y : A) (ys : List A) (d : A) → i < length xs → get_or (put xs i (y ∷ ys)) i d ≡ y
  unfolding put
  get_or_put_first xs i y ys d h = get_or_put_below (set xs i y) (suc i) ys i d (omega arith) ∙ get_or-set_same xs i y d h

  -- what stands from the place on
  pub drop_put : (xs : List A) (i : ℕ) (ys : List A) → i + length ys ≤ length xs → drop i (put xs i ys) ≡ ys ++ drop (i + length ys) xs
  drop_put xs i ys h = ap (drop i) (put_parts xs i ys h) ∙ drop_at (take i xs) (ys ++ drop (i + length ys) xs) i (length-take-le i xs (omega arith))

  -- the run itself
  pub run_put : (xs : List A) (i : ℕ) (ys : List A) → i + length ys ≤ length xs → take (length ys) (drop i (put xs i ys)) ≡ ys
  run_put xs i ys h = ap (take (length ys)) (drop_put xs i ys h) ∙ take_at ys (drop (i + length ys) xs) (length ys) refl

  -- what stands past the run
  pub drop_put_past : (n : ℕ) (xs : List A) (i : ℕ) (ys : List A) → i + length ys ≤ n → drop n (put xs i ys) ≡ drop n xs
  unfolding put
  drop_put_past n xs i [] h = refl
  drop_put_past n xs i (y ∷ ys) h = drop_put_past n (set xs i y) (suc i) ys (omega arith) ∙ drop-set-lt n xs i y (omega arith)

  -- a tail of the list has the run at a lower index
  pub drop_put_add : (n : ℕ) (xs : List A) (i : ℕ) (ys : List A) → drop n (put xs (n + i) ys) ≡ put (drop n xs) i ys
  unfolding put
  drop_put_add n xs i [] = refl
  drop_put_add n xs i (y ∷ ys) =
      ap (λ (k : ℕ). drop n (put (set xs (n + i) y) k ys)) (sym (add-suc n i))
      ∙ drop_put_add n (set xs (n + i) y) (suc i) ys
      ∙ ap (λ (l : List A). put l (suc i) ys) (drop-set-add n xs i y)

  -- into a tail that was lent from `at` on
  pub put_part : (xs : List A) (at : ℕ) (ys : List A) → take at xs ++ put (drop at xs) 0 ys ≡ put xs at ys
  put_part xs at ys =
      let z : at + 0 ≡ at = add-zero at in
      rw (← drop_put_add at xs 0 ys, z, ← take_put at xs at ys (omega arith)) (take-append-drop at (put xs at ys))

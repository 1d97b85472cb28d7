-- What holds of every index of two runs that meet holds of every index of both together.
use mathlib.Core.Path.{◌≡◌, subst}
use mathlib.Core.Bool.{Bool, true, ◌&&◌, and-eq-true_iff}
use mathlib.Core.Logic.{⊎_elim}
use Prim.Native.Nat.{ℕ, ◌+◌, ◌≤◌, ◌<◌}
use native.Mathlib.Omega.{arith}
use Rattle.utf8.specs.Laws.Utf8.{le_or_lt}

module _ (P : ℕ → Type 0) where
  abbrev Run : ℕ → ℕ → Type 0
  Run i j = (k : ℕ) → i ≤ k → k < j → P k

  pub run_one : (i : ℕ) → P i → Run i (i + 1)
  run_one i p k a b =
      let e : i ≡ k = omega arith in
      subst P e p

  -- two runs, of which the second begins where the first ends, or before
  pub run_join : (f i h j : ℕ) → h ≤ i → Run f i → Run h j → Run f j
  run_join f i h j l p q k a b = ⊎_elim (λ c. q k (omega arith) b) (λ c. p k a c) (le_or_lt i k)

  -- two tests of runs, end to end
  pub run_and : (f i j : ℕ) (p q : Bool) → (p ≡ true → Run f i) → (q ≡ true → Run i j) → p && q ≡ true → Run f j
  run_and f i j p q a b e =
      let both = (and-eq-true_iff p q).0 e in
      run_join f i i j (omega arith) (a both.0) (b both.1)

-- A rule of tag and shape that holds in the table of shapes, by one test that is computed over its entries.
use Rattle.std.specs.Prelude.{Bool, true, ◌&&◌, List, [], ◌∷◌, ◌≡◌, ℕ, zero, suc, ◌+◌, ◌≤◌, ◌<◌, get_or, length}
use Rattle.std.proofs.Math.Bool.{and-eq-true_iff}
use Rattle.std.proofs.Common.{add-zero, zero-add, arith, ne_eqb}
use Rattle.payload.specs.Choice.{when◌then◌else◌}
use Rattle.payload.specs.Shapes.{Shape, no_value, with_kids, shape, shapes}

-- the test passes at each entry of the list and its index, counted from i
unfoldable pub every : {A : Type 0} → (ℕ → A → Bool) → ℕ → List A → Bool
every f i [] = true
every f i (x ∷ xs) = f i x && every f (suc i) xs

every_at : {A : Type 0} (f : ℕ → A → Bool) (xs : List A) (i : ℕ) → every f i xs ≡ true → (k : ℕ) (d : A) → k < length xs → f (i + k) (get_or xs k d) ≡ true
unfolding every
every_at f [] i t k d h = absurd (omega arith)
every_at f (x ∷ xs) i t zero d h = rw (add-zero i) ((and-eq-true_iff (f i x) (every f (suc i) xs)).0 t).0
every_at f (x ∷ xs) i t (suc k) d h =
    let e : i + suc k ≡ suc i + k = omega arith in
    rw e (every_at f xs (suc i) ((and-eq-true_iff (f i x) (every f (suc i) xs)).0 t).1 k d (omega arith))

-- a rule of tag and shape that holds in the table
pub by_table : (f : ℕ → Shape → Bool) → every f 0 shapes ≡ true → (t : ℕ) → t ≤ 26 → f t (shape t) ≡ true
unfolding shape shapes when◌then◌else◌
by_table f e t h = rw (ne_eqb t 32 (λ q. omega (arith, q)), ne_eqb t 33 (λ q. omega (arith, q)))
    (rw (zero-add t) at (every_at f shapes 0 e t (with_kids [] no_value) (omega arith)))

-- A rule of a table, proved at all of its entries by one test that antt computes, one entry after the other.
use mathlib.Core.Bool.{Bool, true, false, ◌&&◌}
use mathlib.Core.List.{List, [], ◌∷◌}
use mathlib.Core.Path.{◌≡◌, refl, ◌∙◌, subst, sym}
use Prim.Native.Nat.{ℕ, zero, suc, ◌+◌, ◌<◌, ◌≤◌, min}
use native.Mathlib.Nat.{add-zero, zero-add, add-suc, suc-add, le_of_suc-le-suc, not-suc-le-zero}
use native.Mathlib.Omega.{arith}
use lib.Dec.{T, eqb, eqb→eq, leb}
use borrow.Author.Tests.{leb-true}
use lib.ListN.{length, get_or}
use Rattle.row_layout.specs.Digits.{digits, entries}

both_left : (a b : Bool) → T (a && b) → T a
both_left true b t = tt
both_left false b t = t

both_right : (a b : Bool) → T (a && b) → T b
both_right true b t = t
both_right false b t = absurd t

-- the test f passes at each entry of the list and its place, counted from i
abbrev pub every : (ℕ → ℕ → Bool) → ℕ → List ℕ → Bool
every f i [] = true
every f i (x ∷ xs) = f i x && every f (suc i) xs

from : (f : ℕ → ℕ → Bool) (xs : List ℕ) (i : ℕ) → T (every f i xs) → (k : ℕ) → k < length xs → T (f (i + k) (get_or xs k 0))
from f [] i t k h = absurd (not-suc-le-zero h)
from f (x ∷ xs) i t zero h = subst (λ (m : ℕ). T (f m x)) (sym (add-zero i)) (both_left (f i x) (every f (suc i) xs) t)
from f (x ∷ xs) i t (suc k) h =
    subst (λ (m : ℕ). T (f m (get_or xs k 0))) (suc-add i k ∙ sym (add-suc i k))
    (from f xs (suc i) (both_right (f i x) (every f (suc i) xs) t) k (le_of_suc-le-suc h))

pub at : (f : ℕ → ℕ → Bool) (xs : List ℕ) → T (every f 0 xs) → (k : ℕ) → k < length xs → T (f k (get_or xs k 0))
at f xs t k h = subst (λ (m : ℕ). T (f m (get_or xs k 0))) (zero-add k) (from f xs 0 t k h)

-- the digit of a tag, where f has at each of the 35 entries what the table has
pub agrees :
    (f : ℕ → ℕ) (r low middle high t : ℕ) → r ≡ get_or (entries low middle high) (min t 34) 0 → T (every (λ k x. eqb x (f k)) 0 (entries low middle high)) →
    f (min t 34) ≡ f t → r ≡ f t
unfolding entries digits
agrees f r low middle high t e right same = e ∙ eqb→eq _ _ (at (λ k x. eqb x (f k)) (entries low middle high) right (min t 34) (omega arith)) ∙ same

-- no digit of a table is above b
pub at_most :
    (b r low middle high t : ℕ) → r ≡ get_or (entries low middle high) (min t 34) 0 → T (every (λ k x. leb x b) 0 (entries low middle high)) → r ≤ b
unfolding entries digits
at_most b r low middle high t e right = rw e (leb-true _ _ (is_true _ (at (λ k x. leb x b) (entries low middle high) right (min t 34) (omega arith))))
  where
    is_true : (x : Bool) → T x → x ≡ true
    is_true true t = refl
    is_true false t = absurd t

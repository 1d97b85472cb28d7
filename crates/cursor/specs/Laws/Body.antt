-- What each answer about a body tells of the payload.
use Rattle.std.specs.Prelude.{Bool, true, false, cond, List, ◌≡◌, refl, ℕ, ◌+◌, ◌-◌, ◌≤◌, ◌<◌, leb, length, Result, Ok, Err}
use Rattle.std.proofs.Common.{sym, subst, ◌∙◌, arith, leb-true, leb-false}
use Rattle.refusal.specs.declared.Refusal.{Refusal}
use Rattle.cursor.specs.Body.{body_of, ends_at}

-- a body lies in the payload; where none does, too few bytes are left
abbrev Told : List ℕ → ℕ → ℕ → Result (ℕ × ℕ) Refusal → Type 0
Told p at n (Ok x) = (x.0 ≡ at) × (x.1 ≡ at + n) × (at + n ≤ length p)
Told p at n (Err e) = (e ≡ ends_at at) × (length p < at + n)

told : (p : List ℕ) (at n : ℕ) → Told p at n (body_of p at n)
unfolding body_of
told p at n = go (leb at (length p)) refl (leb n (length p - at)) refl
  where
    go : (x : Bool) → leb at (length p) ≡ x → (y : Bool) → leb n (length p - at) ≡ y → Told p at n (cond x (cond y (Ok (at, at + n)) (Err (ends_at at))) (Err (ends_at at)))
    go true e true f = (refl, refl, omega (arith, leb-true at (length p) e, leb-true n (length p - at) f))
    go true e false f = (refl, omega (arith, leb-true at (length p) e, leb-false n (length p - at) f))
    go false e y f = (refl, omega (arith, leb-false at (length p) e))

module _ (p : List ℕ) (at n : ℕ) {r : Result (ℕ × ℕ) Refusal} (is : r ≡ body_of p at n) where
  pub was_body : {x : ℕ × ℕ} → r ≡ Ok x → (x.0 ≡ at) × (x.1 ≡ at + n) × (at + n ≤ length p)
  was_body e = subst (Told p at n) (sym is ∙ e) (told p at n)

  pub was_short : {e : Refusal} → r ≡ Err e → (e ≡ ends_at at) × (length p < at + n)
  was_short f = subst (Told p at n) (sym is ∙ f) (told p at n)

-- `Gives c r bs k m P`: wherever the bytes bs come next and k rows and m spans fit, the reader r takes exactly bs, uses k rows and m spans, and gives a value with P.
use Rattle.std.specs.Prelude.{Bool, true, ◌≡◌, refl, ◌+◌, ◌≤◌, ℕ}
use mathlib.Core.List.{List, [], ◌++◌, ◌∷◌, append_assoc}
use Rattle.std.proofs.Common.{◌∙◌, subst, sym, add_assoc, add-zero, arith, drop-drop, le-leb, lt-ltb}
use Rattle.std.proofs.Math.Path.{ap}
use Rattle.std.proofs.Math.ListN.{drop, length, length-append, take}
use Rattle.std.proofs.Math.Seq.{drop-append_seam, take-append_seam}
use Rattle.payload.specs.Reader.{Part, Reader, Result, State, ◌>>=◌, ◌>>◌, advanced, and_then, body, byte, first_byte, here, must, new_row, new_spans, ok, pure, set_rows, set_spans, with_row, with_spans}
use Rattle.payload.specs.declared.Capacities.{Capacities}

---- states further on

-- n bytes, k rows and m spans further on
unfoldable pub after : ℕ → ℕ → ℕ → State → State
after n k m s = set_spans (s.spans + m) (set_rows (s.rows + k) (advanced n s))

pub after_none : (s : State) → after 0 0 0 s ≡ s
unfolding after
after_none s = simp (add-zero)

pub after_bytes : (n : ℕ) (s : State) → after n 0 0 s ≡ advanced n s
unfolding after
after_bytes n s = simp (add-zero)

pub after_row_lem : (s : State) → after 0 1 0 s ≡ with_row s
unfolding after
after_row_lem s = simp (add-zero)

pub after_spans_lem : (m : ℕ) (s : State) → after 0 0 m s ≡ with_spans m s
unfolding after
after_spans_lem m s = simp (add-zero)

pub after_after : (n k m n' k' m' : ℕ) (s : State) → after n' k' m' (after n k m s) ≡ after (n + n') (k + k') (m + m') s
unfolding after
after_after n k m n' k' m' s = simp (add_assoc, drop-drop)

---- the calculus

-- a step of a reader, and what follows it
then_is : {A B : Type 0} (x : Result A) (f : A → Reader B) (a : A) (s : State) (y : Result B) → x ≡ ok a s → f a s ≡ y → and_then x f ≡ y
unfolding and_then
then_is x f a s y e g = rw e g

pub record Gives (c : Capacities) {A : Type 0} (r : Reader A) (bs : List ℕ) (k m : ℕ) (P : A → Type 0) : Type 0 where
  pub run : (s : State) (tail : List ℕ) → s.rest ≡ bs ++ tail → s.rows + k ≤ c.rows → s.spans + m ≤ c.spans
      → (a : A) × (r s ≡ ok a (after (length bs) k m s)) × P a

module _ {c : Capacities} where
  pub gives_by : {A : Type 0} {r : Reader A} {bs bs' : List ℕ} {k k' m m' : ℕ} {P : A → Type 0} → bs ≡ bs' → k ≡ k' → m ≡ m' → Gives c r bs k m P → Gives c r bs' k' m' P
  gives_by e f h g = rw (← e, ← f, ← h) g

  pub gives_as : {A : Type 0} {r : Reader A} {bs bs' : List ℕ} {k k' m m' : ℕ} {P : A → Type 0} → Gives c r bs k m P → bs ≡ bs' → k ≡ k' → m ≡ m' → Gives c r bs' k' m' P
  gives_as g e f h = rw (← e, ← f, ← h) g

  -- where the capacities would not do there is nothing to show
  pub gives_fits : {A : Type 0} {r : Reader A} {bs : List ℕ} {k m : ℕ} {P : A → Type 0} → (k ≤ c.rows → m ≤ c.spans → Gives c r bs k m P) → Gives c r bs k m P
  gives_fits f = record { run = λ s t e hr hs. (f (omega arith) (omega arith)).run s t e hr hs }

  pub gives_pure : {A : Type 0} (a : A) (P : A → Type 0) → P a → Gives c (pure a) [] 0 0 P
  unfolding pure
  gives_pure a P p = record { run = λ s t e hr hs. (a, ap (ok a) (sym (after_none s)), p) }

  module _ {A B : Type 0} (r : Reader A) (f : A → Reader B) (bs bs' : List ℕ) (k k' m m' : ℕ) (P : A → Type 0) (Q : B → Type 0) where
    bind_run : Gives c r bs k m P → ((a : A) → P a → Gives c (f a) bs' k' m' Q) → (s : State) (t : List ℕ) → s.rest ≡ (bs ++ bs') ++ t
        → s.rows + (k + k') ≤ c.rows → s.spans + (m + m') ≤ c.spans
        → (b : B) × (and_then (r s) f ≡ ok b (after (length (bs ++ bs')) (k + k') (m + m') s)) × Q b
    unfolding after
    bind_run g h s t e hr hs =
        let e₁ : s.rest ≡ bs ++ (bs' ++ t) = e ∙ append_assoc bs bs' t in
        let w = g.run s (bs' ++ t) e₁ (omega arith) (omega arith) in
        let e₂ : drop (length bs) s.rest ≡ bs' ++ t = ap (drop (length bs)) e₁ ∙ drop-append_seam bs (bs' ++ t) in
        let v = (h w.0 w.2).run (after (length bs) k m s) t e₂ (omega arith) (omega arith) in
        (v.0, then_is (r s) f w.0 _ _ w.1 (v.1 ∙ ap (ok v.0) (after_after (length bs) k m (length bs') k' m' s ∙ rw (length-append bs bs'))), v.2)

  pub gives_bind : {A B : Type 0} {r : Reader A} {f : A → Reader B} {bs bs' : List ℕ} {k k' m m' : ℕ} {P : A → Type 0} {Q : B → Type 0}
      → Gives c r bs k m P → ((a : A) → P a → Gives c (f a) bs' k' m' Q) → Gives c (r >>= f) (bs ++ bs') (k + k') (m + m') Q
  unfolding ◌>>=◌
  gives_bind {r} {f} {bs} {bs'} {k} {k'} {m} {m'} {P} {Q} g h = record { run = bind_run r f bs bs' k k' m m' P Q g h }

  pub gives_then : {A B : Type 0} {r : Reader A} {f : Reader B} {bs bs' : List ℕ} {k k' m m' : ℕ} {P : A → Type 0} {Q : B → Type 0}
      → Gives c r bs k m P → Gives c f bs' k' m' Q → Gives c (r >> f) (bs ++ bs') (k + k') (m + m') Q
  unfolding ◌>>◌ ◌>>=◌
  gives_then {r} {f} {P = P} g h = gives_bind {r = r} {f = λ a. f} {P = P} g (λ a p. h)

  -- the value is known
  pub gives_is : {A B : Type 0} {r : Reader A} (f : A → Reader B) {bs bs' : List ℕ} {k k' m m' : ℕ} {x : A} {Q : B → Type 0}
      → Gives c r bs k m (λ a. a ≡ x) → Gives c (f x) bs' k' m' Q → Gives c (r >>= f) (bs ++ bs') (k + k') (m + m') Q
  gives_is f {bs'} {k'} {m'} {x} {Q} g h = gives_bind g (λ a e. subst (λ z. Gives c (f z) bs' k' m' Q) (sym e) h)

  pub gives_here : Gives c here [] 0 0 (λ p. Unit {0})
  unfolding here
  gives_here = record { run = λ s t e hr hs. (s.place, ap (ok s.place) (sym (after_none s)), tt) }

  pub gives_must : (b : Bool) (n p : ℕ) → b ≡ true → Gives c (must b n p) [] 0 0 (λ u. Unit {0})
  unfolding must
  gives_must b n p e = rw e (record { run = λ s t h hr hs. (tt, ap (ok tt) (sym (after_none s)), tt) })

  pub gives_byte : (b : ℕ) → Gives c byte (b ∷ []) 0 0 (λ a. a ≡ b)
  unfolding byte first_byte
  gives_byte b = record { run = λ s t e hr hs. (b, ap (λ (l : List ℕ). first_byte l s) e ∙ ap (ok b) (sym (after_bytes 1 s)), refl) }

  pub gives_row : Gives c (new_row c.rows) [] 1 0 (λ u. Unit {0})
  unfolding new_row must and_then
  gives_row = record { run = λ s t e hr hs. (tt, rw (lt-ltb s.rows c.rows (omega arith)) (ap (ok tt) (sym (after_row_lem s))), tt) }

  pub gives_spans : (n : ℕ) → Gives c (new_spans c.spans n) [] 0 n (λ u. Unit {0})
  unfolding new_spans must and_then
  gives_spans n = record { run = λ s t e hr hs. (tt, rw (le-leb (s.spans + n) c.spans hs) (ap (ok tt) (sym (after_spans_lem n s))), tt) }

  pub gives_body : (bs : List ℕ) → Gives c (body (length bs)) bs 0 0 (λ l. l.bytes ≡ bs)
  unfolding body must and_then
  gives_body bs = record {
    run = λ s t e hr hs.
        let long : length bs ≤ length s.rest = rw e (simp length-append (omega arith)) in
        let part : Part = record { offset = s.place; bytes = take (length bs) s.rest } in
        (part, rw (le-leb (length bs) (length s.rest) long) (ap (ok part) (sym (after_bytes (length bs) s))), ap (take (length bs)) e ∙ take-append_seam bs t);
  }

  -- the steps that take no bytes
  pub gives_at : {A : Type 0} {f : ℕ → Reader A} {bs : List ℕ} {k m : ℕ} {P : A → Type 0} → ((p : ℕ) → Gives c (f p) bs k m P) → Gives c (here >>= f) bs k m P
  gives_at g = gives_as (gives_bind gives_here (λ p u. g p)) refl (omega arith) (omega arith)

  pub gives_check : {A : Type 0} (b : Bool) (n p : ℕ) (r : Reader A) {bs : List ℕ} {k m : ℕ} {P : A → Type 0} → b ≡ true → Gives c r bs k m P → Gives c (must b n p >> r) bs k m P
  gives_check b n p r e g = gives_as (gives_then (gives_must b n p e) g) refl (omega arith) (omega arith)

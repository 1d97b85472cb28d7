-- What an accepted reading has kept: capacities, the place in the payload, and of the value what P says with the rows and spans used.
use Rattle.std.specs.Prelude.{Bool, ◌≡◌, ◌+◌, ◌-◌, ◌<◌, ◌^◌, ◌≤◌, ℕ, leb, ltb, drop, length}
use Rattle.std.proofs.Math.Bool.{false, true}
use mathlib.Core.List.{List, [], ◌∷◌}
use Rattle.std.proofs.Common.{◌∙◌, subst, sym, zero-add, arith, length-drop, drop-drop, length-take-le}
use Rattle.std.proofs.Math.Path.{ap, refl}
use Rattle.std.proofs.Math.ListN.{get_or, take}
use Rattle.std.proofs.Math.Seq.{get_or-drop}
use borrow.Author.Tests.{leb-true, ltb-true}
use Rattle.slices.specs.Laws.LittleEndian.{Bytes}
use Rattle.varint.specs.Laws.RoundTrip.{reads_within}
use Rattle.varint.specs.Varint.{varint_of}
use Rattle.varint.specs.Varint.{Varint}
use Rattle.varint.specs.Varint.{Number, Refused}
use Rattle.payload.proofs.Laws.ScanWritten.{InStore}
use Rattle.payload.specs.Numbers.{after_varint, varint}
use Rattle.payload.specs.Reader.{Part, Reader, Result, State, ◌>>=◌, ◌>>◌, advanced, and_then, body, byte, first_byte, here, must, new_row, new_spans, ok, pure, refused, with_row, with_spans}
use Rattle.payload.specs.declared.Capacities.{Capacities}

pub not_ok : {A : Type 0} {C : Type 0} (n q : ℕ) (a : A) (s : State) → ◌≡◌ {A = Result A} (refused n q) (ok a s) → C
not_ok n q a s e = let z : ◌≡◌ {A = ℕ} 0 1 = cc in absurd (omega arith)

pub invert : {A B : Type 0} (m : Result A) (f : A → Reader B) (b : B) (s : State) → and_then m f ≡ ok b s → (a : A) × (s' : State) × (m ≡ ok a s') × (f a s' ≡ ok b s)
unfolding and_then
invert (ok a s') f b s e = (a, s', refl, e)
invert (refused n p) f b s e = let z : ◌≡◌ {A = ℕ} 0 1 = cc in absurd (omega arith)

module _ (c : Capacities) (p : List ℕ) where
  -- what holds of the state between two steps
  pub record Inv (s : State) : Type 0 where
    pub inv_rest : s.rest ≡ drop s.place p
    pub inv_place : s.place ≤ length p
    pub inv_rows : s.rows ≤ c.rows
    pub inv_spans : s.spans ≤ c.spans

  pub record Step (s s' : State) (Q : ℕ → ℕ → Type 0) : Type 0 where
    pub k : ℕ
    pub m : ℕ
    pub inv : Inv s'
    pub by_rows : s'.rows ≡ s.rows + k
    pub by_spans : s'.spans ≡ s.spans + m
    pub holds : Q k m

  pub record Keeps {A : Type 0} (r : Reader A) (P : A → ℕ → ℕ → Type 0) : Type 0 where
    pub run : (s : State) (a : A) (s' : State) → Inv s → r s ≡ ok a s' → Step s s' (P a)

  -- no row and no span
  pub record Nothing (k m : ℕ) : Type 0 where
    pub no_rows : k ≡ 0
    pub no_spans : m ≡ 0

  -- no row, no span, and a value with P
  abbrev pub Plain : {A : Type 0} → (A → Type 0) → A → ℕ → ℕ → Type 0
  Plain P a k m = Nothing k m × P a

  pub keeps_so : {A : Type 0} {r : Reader A} {P : A → ℕ → ℕ → Type 0} (Q : A → ℕ → ℕ → Type 0) → ((a : A) (k m : ℕ) → P a k m → Q a k m) → Keeps r P → Keeps r Q
  keeps_so Q f g = record {
    run = λ s a s' i e. let w = g.run s a s' i e in
        record { k = w.k; m = w.m; inv = w.inv; by_rows = w.by_rows; by_spans = w.by_spans; holds = f a w.k w.m w.holds };
  }

  pub plain_so : {A : Type 0} {r : Reader A} {P Q : A → Type 0} → ((a : A) → P a → Q a) → Keeps r (Plain P) → Keeps r (Plain Q)
  plain_so {Q} f g = keeps_so (Plain Q) (λ a k m z. (z.0, f a z.1)) g

  step_two : (s s' s'' : State) (Q : ℕ → ℕ → Type 0) (k m : ℕ) → s'.rows ≡ s.rows + k → s'.spans ≡ s.spans + m → Step s' s'' (λ k' m'. Q (k + k') (m + m')) → Step s s'' Q
  step_two s s' s'' Q k m hr hs w = record { k = k + w.k; m = m + w.m; inv = w.inv; by_rows = omega (arith, w.by_rows); by_spans = omega (arith, w.by_spans); holds = w.holds }

  module _ {A B : Type 0} (r : Reader A) (f : A → Reader B) (P : A → ℕ → ℕ → Type 0) (Q : B → ℕ → ℕ → Type 0) (g : Keeps r P)
      (h : (a : A) (k m : ℕ) → P a k m → Keeps (f a) (λ b k' m'. Q b (k + k') (m + m'))) where
    bind_one : (s : State) (b : B) (s'' : State) (a : A) (s' : State) → Step s s' (P a) → f a s' ≡ ok b s'' → Step s s'' (Q b)
    bind_one s b s'' a s' w e = step_two s s' s'' (Q b) w.k w.m w.by_rows w.by_spans ((h a w.k w.m w.holds).run s' b s'' w.inv e)

    bind_two : (s : State) (b : B) (s'' : State) → Inv s → ((a : A) × (s' : State) × (r s ≡ ok a s') × (f a s' ≡ ok b s'')) → Step s s'' (Q b)
    bind_two s b s'' i w = bind_one s b s'' w.0 w.1 (g.run s w.0 w.1 i w.2) w.3

  pub keeps_bind : {A B : Type 0} {r : Reader A} {f : A → Reader B} {P : A → ℕ → ℕ → Type 0} {Q : B → ℕ → ℕ → Type 0}
      → Keeps r P → ((a : A) (k m : ℕ) → P a k m → Keeps (f a) (λ b k' m'. Q b (k + k') (m + m'))) → Keeps (r >>= f) Q
  unfolding ◌>>=◌
  keeps_bind {r} {f} {P} {Q} g h = record { run = λ s b s'' i e. bind_two r f P Q g h s b s'' i (invert (r s) f b s'' e) }

  -- a step that uses nothing, then the rest
  pub keeps_free : {A B : Type 0} {r : Reader A} {f : A → Reader B} {P : A → Type 0} {Q : B → ℕ → ℕ → Type 0}
      → Keeps r (Plain P) → ((a : A) → P a → Keeps (f a) Q) → Keeps (r >>= f) Q
  keeps_free {f} {Q} g h = keeps_bind g (λ a k m z. subst (λ (x : ℕ). Keeps (f a) (λ b k' m'. Q b (x + k') (m + m'))) (sym z.0.no_rows)
      (subst (λ (y : ℕ). Keeps (f a) (λ b k' m'. Q b (0 + k') (y + m'))) (sym z.0.no_spans)
      (keeps_so _ (λ b k' m' q. rw (zero-add k', zero-add m') q) (h a z.1))))

  step_cast : {A : Type 0} (P : A → ℕ → ℕ → Type 0) (s : State) (a b : A) (s₁ s' : State) → ◌≡◌ {A = Result A} (ok a s₁) (ok b s') → Step s s₁ (P a) → Step s s' (P b)
  step_cast P s a b s₁ s' e w = let ea : a ≡ b = cc in let es : s₁ ≡ s' = cc in subst (λ z. Step s z (P b)) es (subst (λ x. Step s s₁ (P x)) ea w)

  still : (s : State) (Q : ℕ → ℕ → Type 0) → Inv s → Q 0 0 → Step s s Q
  still s Q i h = record { k = 0; m = 0; inv = i; by_rows = omega arith; by_spans = omega arith; holds = h }

  pub nothing : Nothing 0 0
  nothing = record { no_rows = refl; no_spans = refl }

  pub keeps_pure : {A : Type 0} (a : A) (P : A → ℕ → ℕ → Type 0) → P a 0 0 → Keeps (pure a) P
  unfolding pure
  keeps_pure a P h = record { run = λ s b s' i e. step_cast P s a b s s' e (still s (P a) i h) }

  pub keeps_value : {A : Type 0} (a : A) (P : A → Type 0) → P a → Keeps (pure a) (Plain P)
  keeps_value a P h = keeps_pure a (Plain P) (nothing, h)

  pub keeps_here : Keeps here (Plain (λ q. Unit {0}))
  unfolding here
  keeps_here = record { run = λ s b s' i e. step_cast (Plain (λ q. Unit {0})) s s.place b s s' e (still s _ i (nothing, tt)) }

  pub keeps_must : (b : Bool) (n q : ℕ) → Keeps (must b n q) (Plain (λ u. b ≡ true))
  unfolding must
  keeps_must true n q = record { run = λ s b s' i e. step_cast (Plain (λ u. true ≡ true)) s tt b s s' e (still s _ i (nothing, refl)) }
  keeps_must false n q = record { run = λ s b s' i e. not_ok n q b s' e }

  pub keeps_check : {B : Type 0} (b : Bool) (n q : ℕ) (r : Reader B) {Q : B → ℕ → ℕ → Type 0} → (b ≡ true → Keeps r Q) → Keeps (must b n q >> r) Q
  unfolding ◌>>◌ ◌>>=◌
  keeps_check b n q r {Q} h = keeps_free {f = λ u. r} {P = λ u. b ≡ true} {Q = Q} (keeps_must b n q) (λ u e. h e)

  pub keeps_at : {B : Type 0} {f : ℕ → Reader B} {Q : B → ℕ → ℕ → Type 0} → ((q : ℕ) → Keeps (f q) Q) → Keeps (here >>= f) Q
  keeps_at h = keeps_free keeps_here (λ q u. h q)

  -- n bytes further on, where so many are left
  inv_advanced : (s : State) (n : ℕ) → Inv s → n ≤ length s.rest → Inv (advanced n s)
  inv_advanced s n i h =
      let d : length s.rest ≡ length p - s.place = ap length i.inv_rest ∙ length-drop s.place p in
      let l : s.place ≤ length p = i.inv_place in
      record { inv_rest = ap (drop n) i.inv_rest ∙ drop-drop n s.place p; inv_place = omega arith; inv_rows = i.inv_rows; inv_spans = i.inv_spans }

  step_advanced : {A : Type 0} (P : A → ℕ → ℕ → Type 0) (s : State) (n : ℕ) (a b : A) (s' : State) → Inv s → n ≤ length s.rest → P a 0 0
      → ◌≡◌ {A = Result A} (ok a (advanced n s)) (ok b s') → Step s s' (P b)
  step_advanced P s n a b s' i h q e = step_cast P s a b (advanced n s) s' e
      (record { k = 0; m = 0; inv = inv_advanced s n i h; by_rows = omega arith; by_spans = omega arith; holds = q })

  pub keeps_byte : Keeps byte (Plain (λ a. Bytes p → a < 256))
  unfolding byte first_byte
  keeps_byte = record { run = λ s b s' i e. go s b s' i s.rest refl e }
    where
      first : (s : State) → Inv s → (x : ℕ) (xs : List ℕ) → s.rest ≡ x ∷ xs → Bytes p → x < 256
      first s i x xs h small = let z : get_or (drop s.place p) 0 0 ≡ x = ap (λ (l : List ℕ). get_or l 0 0) (sym i.inv_rest ∙ h) in omega (arith, get_or-drop s.place p 0 0, small (s.place + 0))

      go : (s : State) (b : ℕ) (s' : State) → Inv s → (r : List ℕ) → s.rest ≡ r → first_byte r s ≡ ok b s' → Step s s' (Plain (λ a. Bytes p → a < 256) b)
      go s b s' i [] h e = not_ok 1 s.place b s' e
      go s b s' i (x ∷ xs) h e = step_advanced (Plain (λ a. Bytes p → a < 256)) s 1 x b s' i (rw h (omega arith)) (nothing, first s i x xs h) e

  pub keeps_varint : Keeps varint (Plain (λ a. a < 2 ^ 64))
  unfolding varint after_varint
  keeps_varint = record { run = λ s b s' i e. go s b s' i (varint_of s.rest 0) refl e }
    where
      go : (s : State) (b : ℕ) (s' : State) → Inv s → (v : Varint) → varint_of s.rest 0 ≡ v → after_varint v s ≡ ok b s' → Step s s' (Plain (λ a. a < 2 ^ 64) b)
      go s b s' i (Number n used) h e = let w = reads_within s.rest 0 n used h in step_advanced (Plain (λ a. a < 2 ^ 64)) s used n b s' i w.inside (nothing, w.fits) e
      go s b s' i (Refused n q) h e = not_ok n s.place b s' e

  -- after a test on the state
  tested : {A : Type 0} (b : Bool) (n q : ℕ) (s : State) (f : Unit {0} → Reader A) (a : A) (s' : State) → and_then (must b n q s) f ≡ ok a s' → (b ≡ true) × (f tt s ≡ ok a s')
  unfolding must and_then
  tested true n q s f a s' e = (refl, e)
  tested false n q s f a s' e = not_ok n q a s' e

  pub keeps_row : Keeps (new_row c.rows) (λ a k m. (k ≡ 1) × (m ≡ 0))
  unfolding new_row
  keeps_row = record { run = λ s b s' i e. go s b s' i (tested (ltb s.rows c.rows) 22 s.place s _ b s' e) }
    where
      go : (s : State) (b : Unit {0}) (s' : State) → Inv s → (ltb s.rows c.rows ≡ true) × (◌≡◌ {A = Result (Unit {0})} (ok tt (with_row s)) (ok b s')) → Step s s' (λ k m. (k ≡ 1) × (m ≡ 0))
      go s b s' i e = step_cast (λ a k m. (k ≡ 1) × (m ≡ 0)) s tt b _ s' e.1 (record {
        k = 1;
        m = 0;
        inv = record { inv_rest = i.inv_rest; inv_place = i.inv_place; inv_rows = omega (arith, ltb-true s.rows c.rows e.0); inv_spans = i.inv_spans };
        by_rows = omega arith;
        by_spans = omega arith;
        holds = (refl, refl);
      })

  pub keeps_spans : (n : ℕ) → Keeps (new_spans c.spans n) (λ a k m. (k ≡ 0) × (m ≡ n))
  unfolding new_spans
  keeps_spans n = record { run = λ s b s' i e. go s b s' i (tested (leb (s.spans + n) c.spans) 23 s.place s _ b s' e) }
    where
      go : (s : State) (b : Unit {0}) (s' : State) → Inv s → (leb (s.spans + n) c.spans ≡ true) × (◌≡◌ {A = Result (Unit {0})} (ok tt (with_spans n s)) (ok b s')) → Step s s' (λ k m. (k ≡ 0) × (m ≡ n))
      go s b s' i e = step_cast (λ a k m. (k ≡ 0) × (m ≡ n)) s tt b _ s' e.1 (record {
        k = 0;
        m = n;
        inv = record { inv_rest = i.inv_rest; inv_place = i.inv_place; inv_rows = i.inv_rows; inv_spans = leb-true _ _ e.0 };
        by_rows = omega arith;
        by_spans = omega arith;
        holds = (refl, refl);
      })

  abbrev BodyIs : ℕ → Part → Type 0
  BodyIs n l = InStore p l × (length l.bytes ≡ n)

  body_true : (s : State) (n : ℕ) → Inv s → n ≤ length s.rest → BodyIs n (record { offset = s.place; bytes = take n s.rest })
  body_true s n i h = let q : length (take n s.rest) ≡ n = length-take-le n s.rest h in
      let d : length s.rest ≡ length p - s.place = ap length i.inv_rest ∙ length-drop s.place p in
      let b : s.place ≤ length p = i.inv_place in
      (record { in_store = rw q (omega arith); its_bytes = rw q (rw (← i.inv_rest)) }, q)

  pub keeps_body : (n : ℕ) → Keeps (body n) (Plain (BodyIs n))
  unfolding body
  keeps_body n = record { run = λ s b s' i e. go s b s' i (tested (leb n (length s.rest)) 1 s.place s _ b s' e) }
    where
      go : (s : State) (b : Part) (s' : State) → Inv s → (leb n (length s.rest) ≡ true) × (◌≡◌ {A = Result Part} (ok (record { offset = s.place; bytes = take n s.rest }) (advanced n s)) (ok b s'))
          → Step s s' (Plain (BodyIs n) b)
      go s b s' i e = let h = leb-true n (length s.rest) e.0 in step_advanced (Plain (BodyIs n)) s n _ b s' i h (nothing, body_true s n i h) e.1

  pub keeps_then : {A B : Type 0} {r : Reader A} {r' : Reader B} {P : A → ℕ → ℕ → Type 0} {Q : B → ℕ → ℕ → Type 0}
      → Keeps r P → ((a : A) (k m : ℕ) → P a k m → Keeps r' (λ b k' m'. Q b (k + k') (m + m'))) → Keeps (r >> r') Q
  unfolding ◌>>◌ ◌>>=◌
  keeps_then {r} {r'} {P} {Q} g h = keeps_bind {r = r} {f = λ a. r'} {P = P} {Q = Q} g h

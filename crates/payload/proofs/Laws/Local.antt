-- An accepted reading depends on the bytes it took alone: whatever follows them, it is accepted with the same value, and what follows is left.
use Rattle.std.specs.Prelude.{Bool, cond, false, true, List, [], ◌++◌, ◌∷◌, ◌≡◌, refl, ◌%◌, ◌+◌, ◌≤◌, suc, zero, ℕ, leb, ltb, length, take}
use Rattle.std.proofs.Common.{append_assoc, append-nil, ◌∙◌, ap, subst, sym, add-zero, zero-add, arith, length-append, take-append-drop, drop_at, length-take-le, le-leb, leb-true}
use Rattle.std.proofs.Math.Seq.{take-append_seam}
use Rattle.varint.specs.Laws.RoundTrip.{reads_within}
use Rattle.varint.specs.Varint.{cut, scan, under, varint_of}
use Rattle.varint.specs.Varint.{Varint}
use Rattle.varint.specs.Varint.{Number, Refused}
use Rattle.payload.proofs.Laws.Everywhere.{Closed, everywhere}
use Rattle.payload.proofs.Laws.Keeps.{invert, not_ok}
use Rattle.payload.specs.Moved.{with_rest}
use Rattle.payload.specs.Numbers.{after_varint, varint}
use Rattle.payload.specs.Reader.{Part, Reader, Result, State, ◌>>=◌, advanced, and_then, body, byte, first_byte, here, must, new_row, new_spans, ok, pure, start, with_row, with_spans}
use Rattle.payload.specs.Reading.{Payload, read_payload}
use Rattle.payload.specs.declared.Capacities.{Capacities}

-- what a run from s to s' took, and the same run with anything after it
pub record Took {A : Type 0} (r : Reader A) (s : State) (a : A) (s' : State) : Type 0 where
  pub bytes : List ℕ
  pub split : s.rest ≡ bytes ++ s'.rest
  pub far : s'.place ≡ s.place + length bytes
  pub anew : (x : List ℕ) → r (with_rest (bytes ++ x) s) ≡ ok a (with_rest x s')

pub record Local {A : Type 0} (r : Reader A) : Type 0 where
  pub run : (s : State) (a : A) (s' : State) → r s ≡ ok a s' → Took r s a s'

take_front : (k : ℕ) (l w y : List ℕ) → l ≡ w ++ y → k ≡ length w → take k l ≡ w
take_front k l w y e h = rw (e, h) (take-append_seam w y)

---- a varint depends on its bytes alone

record Front (first k : ℕ) (bytes : List ℕ) (at n next : ℕ) : Type 0 where
  front : List ℕ
  rest : List ℕ
  parts : bytes ≡ front ++ rest
  ends : next ≡ at + length front
  again : (x : List ℕ) → scan first k (front ++ x) at ≡ Number n next

no_number : {C : Type 0} (m p n next : ℕ) → Refused m p ≡ Number n next → C
no_number m p n next e = let z : ◌≡◌ {A = ℕ} 0 1 = cc in absurd (omega arith)

scan_front : (first k : ℕ) (bytes : List ℕ) (at n next : ℕ) → scan first k bytes at ≡ Number n next → Front first k bytes at n next
unfolding scan
scan_front first zero bytes at n next e = no_number 2 first n next e
scan_front first (suc k) [] at n next e = no_number 1 first n next e
scan_front first (suc k) (b ∷ bytes) at n next e = go (scan_front first k bytes (at + 1)) (ltb b 128) refl e
  where
    more : ((m p : ℕ) → scan first k bytes (at + 1) ≡ Number m p → Front first k bytes (at + 1) m p) → ltb b 128 ≡ false → (v : Varint) → scan first k bytes (at + 1) ≡ v → under
        (b % 128) v ≡ Number n next → Front first (suc k) (b ∷ bytes) at n next
    more i h (Refused m p) q e = no_number m p n next e
    more i h (Number m p) q e = let f = i m p q in let z : p ≡ next = cc in record {
      front = b ∷ f.front;
      rest = f.rest;
      parts = ap (λ l. b ∷ l) f.parts;
      ends = omega (arith, f.ends);
      again = λ x. rw (h, f.again x) e;
    }

    go : ((m p : ℕ) → scan first k bytes (at + 1) ≡ Number m p → Front first k bytes (at + 1) m p) → (t : Bool) → ltb b 128 ≡ t → cond t (Number b (at + 1)) (under (b % 128) (scan first k bytes
        (at + 1))) ≡ Number n next → Front first (suc k) (b ∷ bytes) at n next
    go i true h e = record { front = b ∷ []; rest = bytes; parts = refl; ends = let z : at + 1 ≡ next = cc in omega arith; again = λ x. rw h e }
    go i false h e = more i h (scan first k bytes (at + 1)) refl e

varint_front : (l : List ℕ) (n used : ℕ) → varint_of l 0 ≡ Number n used → (x : List ℕ) → varint_of (take used l ++ x) 0 ≡ Number n used
unfolding varint_of
varint_front l n used e x = go (scan 0 10 l 0) refl e
  where
    go : (v : Varint) → scan 0 10 l 0 ≡ v → cut v ≡ Number n used → cut (scan 0 10 (take used l ++ x) 0) ≡ Number n used
    go (Refused m p) q e = no_number m p n used e
    go (Number m p) q e = let f = scan_front 0 10 l 0 m p q in
        let z : p ≡ used = cc in
        let t = take_front used l f.front f.rest f.parts (omega (arith, f.ends)) in
        rw (t, f.again x) e

---- the steps

took_as : {A : Type 0} (r : Reader A) (s : State) (a b : A) (s₁ s' : State) → ◌≡◌ {A = Result A} (ok a s₁) (ok b s') → Took r s a s₁ → Took r s b s'
took_as r s a b s₁ s' e w = let ea : a ≡ b = cc in let es : s₁ ≡ s' = cc in subst (λ z. Took r s b z) es (subst (λ x. Took r s x s₁) ea w)

-- no byte
took_none : {A : Type 0} (r : Reader A) (s : State) (a : A) (s' : State) → s.rest ≡ s'.rest → s.place ≡ s'.place → ((x : List ℕ) → r (with_rest x s) ≡ ok a (with_rest x s')) → Took r s a s'
took_none r s a s' h l g = record { bytes = []; split = h; far = sym l ∙ sym (add-zero s.place); anew = g }

-- n bytes
took_some : {A : Type 0} (r : Reader A) (s : State) (a : A) (n : ℕ) → n ≤ length s.rest → ((x : List ℕ) → r (with_rest (take n s.rest ++ x) s) ≡ ok a (advanced n (with_rest (take n s.rest ++ x) s)))
    → Took r s a (advanced n s)
took_some r s a n h g = let l = length-take-le n s.rest h in record {
  bytes = take n s.rest;
  split = sym (take-append-drop n s.rest);
  far = rw l;
  anew = λ x. g x ∙ ap (λ z. ok a (with_rest z (advanced n s))) (drop_at (take n s.rest) x n l);
}

local_bind : {A B : Type 0} (r : Reader A) (f : A → Reader B) → Local r → ((a : A) → Local (f a)) → Local (r >>= f)
unfolding ◌>>=◌ and_then
local_bind r f g h = record { run = λ s b s'' e. go s b s'' (invert (r s) f b s'' e) }
  where
    two : (s : State) (b : _) (s'' : State) (a : _) (s' : State) → Took r s a s' → Took (f a) s' b s'' → Took (r >>= f) s b s''
    two s b s'' a s' v w = record {
      bytes = v.bytes ++ w.bytes;
      split = v.split ∙ ap (λ l. v.bytes ++ l) w.split ∙ sym (append_assoc v.bytes w.bytes s''.rest);
      far = omega (arith, v.far, w.far, length-append v.bytes w.bytes);
      anew = λ x. rw (append_assoc v.bytes w.bytes x, v.anew (w.bytes ++ x)) (w.anew x);
    }

    go : (s : State) (b : _) (s'' : State) → ((a : _) × (s' : State) × (r s ≡ ok a s') × (f a s' ≡ ok b s'')) → Took (r >>= f) s b s''
    go s b s'' w = two s b s'' w.0 w.1 (g.run s w.0 w.1 w.2) ((h w.0).run w.1 b s'' w.3)

local_must : (t : Bool) (n p : ℕ) → Local (must t n p)
unfolding must
local_must true n p = record { run = λ s a s' e. took_as (must true n p) s tt a s s' e (took_none (must true n p) s tt s refl refl (λ x. refl)) }
local_must false n p = record { run = λ s a s' e. not_ok n p a s' e }

local_byte : Local byte
unfolding byte first_byte
local_byte = record { run = λ s a s' e. go s a s' s.rest refl e }
  where
    go : (s : State) (a : ℕ) (s' : State) (l : List ℕ) → s.rest ≡ l → first_byte l s ≡ ok a s' → Took byte s a s'
    go s a s' [] h e = not_ok 1 s.place a s' e
    go s a s' (b ∷ l) h e = took_as byte s b a (advanced 1 s) s' e (took_some byte s b 1 (rw h (omega arith)) (λ x. rw h))

local_varint : Local varint
unfolding varint after_varint
local_varint = record { run = λ s a s' e. go s a s' (varint_of s.rest 0) refl e }
  where
    go : (s : State) (a : ℕ) (s' : State) (v : Varint) → varint_of s.rest 0 ≡ v → after_varint v s ≡ ok a s' → Took varint s a s'
    go s a s' (Refused n p) h e = not_ok n s.place a s' e
    go s a s' (Number n used) h e = took_as varint s n a (advanced used s) s' e (took_some varint s n used (reads_within s.rest 0 n used h).inside (λ x. rw (varint_front s.rest n used h x)))

-- after a test on the state
tested : {A : Type 0} (b : Bool) (n q : ℕ) (s : State) (f : Unit {0} → Reader A) (a : A) (s' : State) → and_then (must b n q s) f ≡ ok a s' → (b ≡ true) × (f tt s ≡ ok a s')
unfolding must and_then
tested true n q s f a s' e = (refl, e)
tested false n q s f a s' e = not_ok n q a s' e

local_body : (n : ℕ) → Local (body n)
unfolding body must and_then
local_body n = record { run = λ s a s' e. go s a s' (tested (leb n (length s.rest)) 1 s.place s _ a s' e) }
  where
    go : (s : State) (a : Part) (s' : State) → (leb n (length s.rest) ≡ true) × (◌≡◌ {A = Result Part} (ok (record { offset = s.place; bytes = take n s.rest }) (advanced n s)) (ok a s')) → Took (body n) s a s'
    go s a s' w = let h = leb-true n (length s.rest) w.0 in let l = length-take-le n s.rest h in
        took_as (body n) s _ a (advanced n s) s' w.1 (took_some (body n) s _ n h (λ x.
        let t = take_front n (take n s.rest ++ x) (take n s.rest) x refl (sym l) in
        rw (le-leb n (length (take n s.rest ++ x)) (omega (arith, length-append (take n s.rest) x)), t)))

local_row : (most : ℕ) → Local (new_row most)
unfolding new_row must and_then
local_row most = record { run = λ s a s' e. go s a s' (tested (ltb s.rows most) 22 s.place s _ a s' e) }
  where
    go : (s : State) (a : Unit {0}) (s' : State) → (ltb s.rows most ≡ true) × (◌≡◌ {A = Result (Unit {0})} (ok tt (with_row s)) (ok a s')) → Took (new_row most) s a s'
    go s a s' w = took_as (new_row most) s tt a (with_row s) s' w.1 (took_none (new_row most) s tt (with_row s) refl refl (λ x. rw w.0))

local_spans : (most n : ℕ) → Local (new_spans most n)
unfolding new_spans must and_then
local_spans most n = record { run = λ s a s' e. go s a s' (tested (leb (s.spans + n) most) 23 s.place s _ a s' e) }
  where
    go : (s : State) (a : Unit {0}) (s' : State) → (leb (s.spans + n) most ≡ true) × (◌≡◌ {A = Result (Unit {0})} (ok tt (with_spans n s)) (ok a s')) → Took (new_spans most n) s a s'
    go s a s' w = took_as (new_spans most n) s tt a (with_spans n s) s' w.1 (took_none (new_spans most n) s tt (with_spans n s) refl refl (λ x. rw w.0))

closed : (c : Capacities) → Closed 0 c c (λ i j A f r q. Local r)
unfolding pure here
closed c = record {
  less = λ A i j f r q h. h;
  on_pure = λ A i f a. record { run = λ s b s' e. took_as (pure a) s a b s s' e (took_none (pure a) s a s refl refl (λ x. refl)) };
  on_bind = λ A B i j k f g r q x y h m. local_bind r x h m;
  on_here = λ i. record { run = λ s b s' e. took_as here s s.place b s s' e (took_none here s s.place s refl refl (λ x. refl)) };
  on_must = λ i t n p h. local_must t n p;
  on_byte = λ i. local_byte;
  on_varint = λ i. local_varint;
  on_body = λ i n. local_body n;
  on_row = λ i. local_row _;
  on_spans = λ i n. local_spans _ n;
  on_string_room = λ i k p. local_must _ 21 p;
  on_start_room = λ i k p. local_must _ 24 p;
}

---- a payload

module _ (c : Capacities) (listed : List ℕ → Bool) where
  -- from any state
  pub took : (s : State) (u : Payload) (s' : State) → read_payload c listed s ≡ ok u s' → Took (read_payload c listed) s u s'
  took s u s' e = (everywhere (closed c) listed 0).run s u s' e

  -- with more bytes
  pub took_more : (s : State) (u : Payload) (s' : State) → read_payload c listed s ≡ ok u s' → (x : List ℕ) → read_payload c listed (with_rest (s.rest ++ x) s) ≡ ok u (with_rest (s'.rest ++ x) s')
  took_more s u s' e x = let w = took s u s' e in ap (λ l. read_payload c listed (with_rest (l ++ x) s)) w.split ∙ rw (append_assoc w.bytes s'.rest x) (w.anew (s'.rest ++ x))

  module _ (p : List ℕ) (u : Payload) (s : State) (e : read_payload c listed (start p) ≡ ok u s) where
    -- with anything in the place of what is left
    pub local : (x : List ℕ) → read_payload c listed (start (take s.place p ++ x)) ≡ ok u (with_rest x s)
    local x = let w = took (start p) u s e in rw (take_front s.place p w.bytes s.rest w.split (w.far ∙ zero-add (length w.bytes))) (w.anew x)

    -- with nothing left
    pub local_alone : read_payload c listed (start (take s.place p)) ≡ ok u (with_rest [] s)
    local_alone = rw (append-nil (take s.place p)) at (local [])

    pub local_more : (x : List ℕ) → read_payload c listed (start (p ++ x)) ≡ ok u (with_rest (s.rest ++ x) s)
    local_more x = took_more (start p) u s e x

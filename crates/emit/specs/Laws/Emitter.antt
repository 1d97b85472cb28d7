-- Laws of what calls do to an emitter: one after another, and what is left of a whole.
use Rattle.std.specs.Prelude.{Option, Some, Bool, true, false, not, leb, is_some, length, List, [], ◌++◌, ◌≡◌, refl, ℕ, ◌≤◌}
use Rattle.std.proofs.Common.{sym, ap, ◌∙◌, subst, leb-true}
use Rattle.std.proofs.Math.Bool.{and-eq-true_iff}
use borrow.Author.Tests.{not-true}
use Rattle.std.specs.Borrow.{Bor}
use Rattle.emit.specs.Emit.{output_limit, further, Emitted}
use Rattle.emit.specs.Emits.{Emits, Advances, only_measures}
use Rattle.emit.specs.Expected.{bytes_of}
use Rattle.emit.specs.Laws.Bytes.{past_all}
use Rattle.emit.specs.Laws.Emit.{emitted_as, emitted_none, emitted_then}
use Rattle.emit.specs.declared.Emitter.{Emitter}

module _ {s r : Emitter} where
  pub emits_as : {a b : List ℕ} → a ≡ b → Emits s r a → Emits s r b
  emits_as e h = record { same_output = h.same_output; same_expected = h.same_expected; wrote = emitted_as e h.wrote }

  pub emits_then : {t : Emitter} {a b : List ℕ} → Emits s r a → Emits r t b → Emits s t (a ++ b)
  emits_then {t = t} {b = b} h k = record {
    same_output = k.same_output ∙ h.same_output;
    same_expected = k.same_expected ∙ h.same_expected;
    wrote = emitted_then s.room h.wrote (subst (λ e. Emitted (is_some e) (bytes_of e) r.out.now t.out.now r.at t.at b) h.same_expected k.wrote);
  }

pub emits_none : (s : Emitter) → Emits s s []
emits_none s = record { same_output = refl; same_expected = refl; wrote = emitted_none s.place }

-- in a loop: what emits the bytes b from r on emits all of w from s on
pub record EmitsRest (s r : Emitter) (w b : List ℕ) : Type 0 where
  pub then : (t : Emitter) → Emits r t b → Emits s t w

pub rest_start : (s : Emitter) (w : List ℕ) → EmitsRest s s w w
rest_start s w = record { then = λ t h. h }

module _ {s r : Emitter} {w c : List ℕ} where
  -- some more of it
  pub rest_next : {t : Emitter} {a b : List ℕ} → EmitsRest s r w c → c ≡ a ++ b → Emits r t a → EmitsRest s t w b
  rest_next g e h = record { then = λ t' k. g.then t' (emits_as (sym e) (emits_then h k)) }

  -- the last of it
  pub rest_last : {t : Emitter} {b : List ℕ} → EmitsRest s r w c → c ≡ b → Emits r t b → Emits s t w
  rest_last {t = t} g e h = g.then t (emits_as (sym e) h)

  -- all of it
  pub rest_end : EmitsRest s r w c → c ≡ [] → Emits s r w
  rest_end g e = rest_last g e (emits_none r)

-- where a payload is expected
module _ {e : Option (Bor (List ℕ))} {payload : Bor (List ℕ)} where
  pub with_payload : {o o' : List ℕ} {at at' : ℕ} {b : List ℕ} → e ≡ Some payload → Emitted true payload.now o o' at at' b → Emitted (is_some e) (bytes_of e) o o' at at' b
  with_payload {o} {o'} {at} {at'} {b} q h = subst (λ x. Emitted (is_some x) (bytes_of x) o o' at at' b) (sym q) h

  pub room_with_payload : (o : List ℕ) → e ≡ Some payload → length o ≤ output_limit (is_some e) → length o ≤ output_limit true
  room_with_payload o q h = subst (λ x. length o ≤ output_limit (is_some x)) q h

-- past the output only the length counts
pub emits_past : {s r : Emitter} {n : ℕ} {b : List ℕ} → is_some s.expected ≡ false → length s.out.now ≤ s.at → n ≡ length b → Advances s r n → Emits s r b
emits_past {s} {r} {n} {b} q h e a = record {
  same_output = a.same_output;
  same_expected = a.same_expected;
  wrote = rw a.same_bytes (subst (λ k. Emitted (is_some s.expected) (bytes_of s.expected) s.out.now s.out.now s.at k b) (sym (a.place ∙ ap (further s.at) e)) (past_all q h));
}

-- the same by the test that the code makes
pub emits_measured : {s r : Emitter} {t : Bool} {n : ℕ} {b : List ℕ} → t ≡ only_measures s → t ≡ true → n ≡ length b → Advances s r n → Emits s r b
unfolding only_measures
emits_measured {s} q h e a =
    let m = (and-eq-true_iff (not (is_some s.expected)) (leb (length s.out.now) s.at)).0 (sym q ∙ h) in
    emits_past (not-true (is_some s.expected) m.0) (leb-true (length s.out.now) s.at m.1) e a

-- `Reads` follows the text of a reader: one law for each of its steps.
use Rattle.std.specs.Prelude.{Bool, true, false, List, ◌≡◌, refl, ℕ, ◌+◌, ◌≤◌, ◌<◌, drop, get_or}
use Rattle.std.proofs.Math.Numerals.{add-one}
use native.Mathlib.Omega.{arith}
use Rattle.std.proofs.Math.ListN.{length, length-drop}
use Rattle.std.proofs.Common.{drop_of_length-le, drop-cons, drop-drop, le-leb}
use Rattle.std.proofs.lemmas.Bool.{lt-leb}
use Rattle.varint.specs.Varint.{varint_of}
use Rattle.varint.specs.Laws.RoundTrip.{reads_within}
use Rattle.varint.specs.Varint.{Varint}
use Rattle.varint.specs.Varint as varints
use Rattle.payload.specs.Numbers.{varint, after_varint}
use Rattle.payload.specs.Reader.{Reader, ◌>>=◌, ◌>>◌, and_then, pure, here, must, byte, first_byte, body}
use Rattle.cursor.specs.Reads.{Answer, read, stopped, Reads, part_of}
use Rattle.cursor.specs.Laws.Varint.{moved_to, varint_moved}

---- one step after another

module _ {p : List ℕ} {at : ℕ} where
  pub reads_pure : {A : Type 0} (a : A) → at ≤ length p → Reads p at (pure a) (read a at)
  unfolding pure
  reads_pure a h = record { is = λ rows spans. refl; inside = h }

  pub reads_then : {A B : Type 0} {r : Reader A} (f : A → Reader B) {a : A} {next : ℕ} {x : Answer B} → Reads p at r (read a next) → Reads p next (f a) x
      → Reads p at (r >>= f) x
  unfolding ◌>>=◌ and_then
  reads_then f g h = record { is = λ rows spans. rw (g.is rows spans) (h.is rows spans); inside = h.inside }

  pub reads_stop : {A B : Type 0} {r : Reader A} (f : A → Reader B) {n q : ℕ} → Reads p at r (stopped n q) → Reads p at (r >>= f) (stopped n q)
  unfolding ◌>>=◌ and_then
  reads_stop f g = record { is = λ rows spans. rw (g.is rows spans); inside = tt }

  pub reads_here : {B : Type 0} (f : ℕ → Reader B) {x : Answer B} → Reads p at (f at) x → Reads p at (here >>= f) x
  unfolding ◌>>=◌ and_then here
  reads_here f g = record { is = λ rows spans. g.is rows spans; inside = g.inside }

  pub reads_must : {B : Type 0} {b : Bool} (n q : ℕ) {f : Reader B} {x : Answer B} → b ≡ true → Reads p at f x → Reads p at (must b n q >> f) x
  unfolding ◌>>◌ and_then must
  reads_must n q e g = rw e (record { is = λ rows spans. g.is rows spans; inside = g.inside })

  pub reads_must_not : {B : Type 0} {b : Bool} {n q : ℕ} (f : Reader B) → b ≡ false → Reads p at (must b n q >> f) (stopped n q)
  unfolding ◌>>◌ and_then must
  reads_must_not f e = rw e (record { is = λ rows spans. refl; inside = tt })

---- the items

abbrev pub varint_answer : Varint → Answer ℕ
varint_answer (varints.Number n next) = read n next
varint_answer (varints.Refused number place) = stopped number place

module _ (p : List ℕ) (at : ℕ) where
  pub reads_varint : Reads p at varint (varint_answer (varint_of p at))
  unfolding varint after_varint
  reads_varint = rw (varint_moved p at) (go (varint_of (drop at p) 0) refl)
    where
      go : (v : Varint) → varint_of (drop at p) 0 ≡ v → Reads p at varint (varint_answer (moved_to at at v))
      go (varints.Number n used) e =
          let w = reads_within (drop at p) 0 n used e in
          record { is = λ rows spans. rw (e, drop-drop); inside = omega (arith, w.after, w.inside, length-drop at p) }
      go (varints.Refused number place) e = record { is = λ rows spans. rw e; inside = tt }

  pub reads_byte : at < length p → Reads p at byte (read (get_or p at 0) (at + 1))
  unfolding byte first_byte
  reads_byte h = record { is = λ rows spans. rw (drop-cons p at 0 h, ← add-one at); inside = omega arith }

  pub reads_byte_end : length p ≤ at → Reads p at byte (stopped 1 at)
  unfolding byte first_byte
  reads_byte_end h = record { is = λ rows spans. rw (drop_of_length-le p h); inside = tt }

  pub reads_body : (n : ℕ) → at + n ≤ length p → Reads p at (body n) (read (part_of p at n) (at + n))
  unfolding body must and_then
  reads_body n h = let l : n ≤ length (drop at p) = simp length-drop (omega arith) in
      record { is = λ rows spans. rw (le-leb n (length (drop at p)) l, drop-drop); inside = h }

  pub reads_body_end : (n : ℕ) → length p < at + n → at ≤ length p → Reads p at (body n) (stopped 1 at)
  unfolding body must and_then
  reads_body_end n h k = let l : length (drop at p) < n = simp length-drop (omega arith) in
      record { is = λ rows spans. rw (lt-leb n (length (drop at p)) l); inside = tt }

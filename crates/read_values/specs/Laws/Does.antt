-- Laws of `Does`: what was lent stays the same from one call to the next.
use Rattle.std.specs.Prelude.{Result, Err, ◌≡◌, refl}
use Rattle.std.proofs.Common.{ap}
use Rattle.payload.specs.Reader.{Reader, refused}
use Rattle.payload.specs.Reading.{Context}
use Rattle.refusal.specs.Number.{number}
use Rattle.refusal.specs.declared.Refusal.{Refusal}
use Rattle.read_values.specs.Did.{Did, View, context_in}
use Rattle.read_values.specs.Does.{Does, Loan, loan_of, reading_at, step}
use Rattle.read_values.specs.Laws.Did.{did_same}
use Rattle.read_values.specs.State.{state_of}
use Rattle.read_values.specs.declared.values.Decoder.{Decoder}

module _ {A : Type 0} {view : View A} where
  -- what a method did later, said with the source that was there before
  pub did_from :
      (s : Decoder) {r z : Decoder} {x : Result (Unit {0}) Refusal} {reader : Context → Reader A} → loan_of r ≡ loan_of s → Does view r z x reader →
      Did view s.source.capacities s.source.payload.now r.rows.now z.rows.now r.spans.now z.spans.now r.state.rows r.state.spans (step x z.state)
      (reader (context_in s.source) (state_of s.source.payload.now r.state))
  did_from s e d = rw (ap (λ (l : Loan). l.source) e) at d.did

  -- the same by another reader
  pub does_as : {s r : Decoder} {x : Result (Unit {0}) Refusal} {reader reader' : Context → Reader A} → reading_at s reader ≡ reading_at s reader' →
      Does view s r x reader' → Does view s r x reader
  does_as q d = record { same = d.same; did = did_same q d.did }

  -- nothing was stored, and the definition refuses too
  pub does_refuse : {s : Decoder} {e : Refusal} {reader : Context → Reader A} → reading_at s reader ≡ refused (number e.reason) e.place →
      Does view s s (Err e) reader
  does_refuse q = record { same = refl; did = record { out = q } }

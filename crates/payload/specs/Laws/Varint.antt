-- The varint of a payload: what was written as one is read as one.
use Rattle.std.specs.Prelude.{◌≡◌, refl, ◌+◌, ◌<◌, ◌^◌, ℕ}
use Rattle.std.proofs.Common.{ap, sym}
use Rattle.std.proofs.Math.Nat.{zero-add}
use Rattle.std.proofs.Math.ListN.{length}
use Rattle.varint.specs.Laws.RoundTrip.{reads_uleb}
use Rattle.varint.specs.Uleb128.{uleb128}
use Rattle.varint.specs.Varint.{varint_of}
use Rattle.varint.specs.Varint.{Number}
use Rattle.payload.specs.Laws.Gives.{Gives, after_bytes}
use Rattle.payload.specs.Numbers.{after_varint, varint}
use Rattle.payload.specs.Reader.{ok}
use Rattle.payload.specs.declared.Capacities.{Capacities}

module _ {c : Capacities} where
  pub gives_varint : (n : ℕ) → n < 2 ^ 64 → Gives c varint (uleb128 n) 0 0 (λ a. a ≡ n)
  unfolding varint after_varint
  gives_varint n h = record {
    run = λ s t e hr hs.
        let q : varint_of s.rest 0 ≡ Number n (0 + length (uleb128 n)) = reads_uleb s.rest 0 n t h e in
        (n, rw (q, zero-add (length (uleb128 n))) (ap (ok n) (sym (after_bytes (length (uleb128 n)) s))), refl);
  }

-- How many runs spans have, and how many bytes those have, span by span.
use Rattle.std.specs.Prelude.{◌≡◌, ℕ, suc, ◌+◌, ◌*◌, ◌/◌, ◌≤◌, true, false, List, [], ◌∷◌, length, drop}
use Rattle.std.proofs.Common.{ap, arith, length-append}
use Rattle.varint.specs.Laws.Uleb128.{uleb_small}
use Rattle.varint.specs.Uleb128.{uleb128}
use Rattle.payload.specs.Sound.{spans_of}
use Rattle.payload.specs.Spans.{Span, Run, same_span, runs_of, write_delta, write_deltas, write_runs}
use Rattle.write_code.specs.Runs.{span, repeated}
use Rattle.write_code.specs.Laws.Runs.{runs_first, repeated_same, repeated_other, same_span_eq, spans_none}

-- the runs after that of a span which stands in front of others
abbrev pub runs_after : Span → List Span → List Run
runs_after s l = runs_of (drop (repeated s l) l)

---- how many runs

-- of all spans, s is the last before l, and `runs` counts the runs that have begun there
pub record Counted (all : List Span) (s : Span) (l : List Span) (runs : ℕ) : Type 0 where
  pub few : runs + length l ≤ length all
  pub is : length (runs_of all) ≡ runs + length (runs_after s l)

pub counted_first : (s : Span) (l : List Span) → Counted (s ∷ l) s l 1
counted_first s l = record { few = omega arith; is = omega (arith, ap length (runs_first s l)) }

module _ {all l : List Span} {s t : Span} {runs : ℕ} (c : Counted all s (t ∷ l) runs) where
  pub counted_same : same_span s t ≡ true → Counted all t l runs
  counted_same e = rw (← same_span_eq s t e) (record { few = omega (arith, c.few); is = rw (repeated_same s t l e) at c.is })

  pub counted_other : same_span s t ≡ false → Counted all t l (runs + 1)
  counted_other e = record { few = omega (arith, c.few); is = omega (arith, rw (repeated_other s t l e) at c.is, ap length (runs_first t l)) }

pub counted_end : {all : List Span} {s : Span} {runs : ℕ} → Counted all s [] runs → runs ≡ length (runs_of all)
unfolding repeated runs_of
counted_end c = omega (arith, c.is)

---- how many bytes

abbrev pub first : Span
first = span 0 0

-- the bytes of the deltas from one span to another
abbrev pub deltas : Span → Span → ℕ
deltas s t = length (write_delta s.start t.start) + length (write_delta s.end t.end)

bytes_first : (p s : Span) (l : List Span) → length (write_deltas p (runs_of (s ∷ l))) ≡ deltas p s + (length (uleb128 (suc (repeated s l))) + length (write_deltas s (runs_after s l)))
unfolding write_deltas
bytes_first p s l = rw (runs_first s l) (simp length-append (omega arith))

-- moreover s has stood n times in its run, and `bytes` counts those of the runs before and of its deltas
pub record Measured (all : List Span) (s : Span) (l : List Span) (runs n bytes : ℕ) : Type 0 where
  pub counted : Counted all s l runs
  pub often : n + length l ≤ length all
  pub short : bytes + 30 * length l ≤ 30 * length all
  pub is : length (write_deltas first (runs_of all)) ≡ bytes + (length (uleb128 (n + repeated s l)) + length (write_deltas s (runs_after s l)))

pub measured_none : 1 ≡ length (write_runs [])
unfolding write_runs runs_of write_deltas
measured_none = rw (uleb_small 0 (omega arith))

-- of any table with too few words for a span
pub measured_none_of : (ws : List ℕ) → length ws / 2 ≡ 0 → 1 ≡ length (write_runs (spans_of ws))
measured_none_of ws h = rw (spans_none ws (omega arith)) measured_none

pub measured_first : (s : Span) (l : List Span) (bytes : ℕ) → bytes ≡ deltas first s → bytes ≤ 30 → Measured (s ∷ l) s l 1 1 bytes
measured_first s l bytes e h =
    let one : suc (repeated s l) ≡ 1 + repeated s l = omega arith in
    record {
      counted = counted_first s l;
      often = omega arith;
      short = omega arith;
      is = rw (one, ← e) at (bytes_first first s l);
    }

module _ {all l : List Span} {s t : Span} {runs n bytes : ℕ} (m : Measured all s (t ∷ l) runs n bytes) where
  pub measured_same : same_span s t ≡ true → Measured all t l runs (n + 1) bytes
  measured_same e =
      let one : n + suc (repeated s l) ≡ n + 1 + repeated s l = omega arith in
      rw (← same_span_eq s t e) (record {
        counted = rw (← same_span_eq s t e) at (counted_same m.counted e);
        often = omega (arith, m.often);
        short = omega (arith, m.short);
        is = rw (repeated_same s t l e, one) at m.is;
      })

  pub measured_other : same_span s t ≡ false → (k : ℕ) → k ≡ length (uleb128 n) + deltas s t → k ≤ 30 → Measured all t l (runs + 1) 1 (bytes + k)
  measured_other e k h g =
      let one : suc (repeated t l) ≡ 1 + repeated t l = omega arith in
      let b = rw one at (bytes_first s t l) in
      record {
        counted = counted_other m.counted e;
        often = omega (arith, m.counted.few, m.often);
        short = omega (arith, m.short);
        is = let w = rw (repeated_other s t l e) at m.is in let z : n + 0 ≡ n = omega arith in let v = rw z at w in omega (arith, v, b, h);
      }

pub measured_end : {all : List Span} {s : Span} {runs n bytes : ℕ} → Measured all s [] runs n bytes → length (uleb128 runs) + (bytes + length (uleb128 n)) ≡ length (write_runs all)
unfolding write_runs write_deltas repeated runs_of
measured_end {all} {s} {runs} {n} {bytes} m =
    let z : n + 0 ≡ n = omega arith in
    let w = rw z at m.is in
    rw (counted_end m.counted) (simp length-append (omega (arith, w)))

-- What reading a line index answers, from what each of its items is read as.
use Rattle.std.specs.Prelude.{List, ◌≡◌, refl, ℕ, ◌++◌, ◌+◌, ◌≤◌, length, take, drop, None, Some, Result, Ok, Err}
use Rattle.std.proofs.Common.{sym, ap, arith, length-take-le}
use Rattle.std.proofs.Math.Option.{Option, none, some}
use Rattle.refusal.specs.Number.{number}
use Rattle.refusal.specs.declared.Refusal.{Refusal}
use Rattle.slices.specs.Laws.Put.{put_none}
use Rattle.payload.specs.Numbers.{varint}
use Rattle.payload.specs.Reader.{Part, Reader, byte}
use Rattle.payload.specs.Reading.{Context, read_flagged, read_line_index}
use Rattle.payload.specs.declared.Capacities.{Capacities}
use Rattle.payload.specs.Tables.{line_extent, line_starts}
use Rattle.payload.specs.Trees.{LineIndex}
use Rattle.payload.specs.declared.Extent.{Extent}
use Rattle.cursor.specs.Reads.{Answer, read, stopped}
use Rattle.cursor.specs.Advances.{Advances}
use Rattle.cursor.specs.declared.Cursor.{Cursor}
use Rattle.cursor.specs.Laws.Advances.{then_reads, here_reads, must_reads, pure_reads}
use Rattle.read_items.specs.Context.{context_of, part_in, ReadsPart}
use Rattle.read_items.specs.declared.items.Items.{Items}
use Rattle.read_items.specs.Laws.Context.{length_part}
use Rattle.read_items.specs.Laws.Front.{put_front}
use Rattle.read_lines.specs.LinesRead.{InContext, Accepted, LinesFilled, FillsOver}
use Rattle.read_lines.specs.Starts.{Stored}
use Rattle.read_lines.specs.declared.Lines.{Lines}

---- a refusal

module _ {s s' : Items} {table table' : List ℕ} {reader : Context → Reader (Option (LineIndex Part))} {r : Result Lines Refusal} {e : Refusal} where
  pub refuses : r ≡ Err e → s'.pool ≡ s.pool →
      ((cs : Capacities) (names : List ℕ) → cs.starts ≡ length table →
      Advances s.cursor s'.cursor (reader (context_of cs s.cursor.payload.now names s.pool.now)) (stopped (number e.reason) e.place)) →
      FillsOver s s' table table' reader r
  refuses q same g = rw q (record { same_pool = same; moves = record { outcome = record { reads = g } } })

---- after a flag of 1

-- a name that stands in the payload has its own length
name_of_part : (p : List ℕ) (x : Extent) (starts : List ℕ) → x.offset + x.length ≤ length p → Some x ≡ line_extent (some (record { name = part_in p x; starts = starts }))
name_of_part p x starts h = ap (λ n. Some (record { offset = x.offset; length = n })) (sym (length_part p x.offset x.length h))

module _ {c c' c'' c''' : Cursor} {pool table table' : List ℕ} {most : ℕ} where
  pub flagged :
      {x : Extent} {count k : ℕ} → ReadsPart c c' pool (Ok x) → Advances c' c'' varint (read count c''.at) → Stored c'' c''' table table' most count k →
      Accepted c c''' pool table table' most (λ e. read_flagged e 1) (record { name = Some x; starts = k })
  unfolding read_flagged context_of line_starts
  flagged {x} g f s = record {
    line = some (record { name = part_in c.payload.now x; starts = s.starts });
    is = record { reads = λ cs names e. then_reads _ (g.is names cs) (then_reads _ f (then_reads _ (rw e s.reads) (pure_reads _))) };
    name_is = name_of_part c.payload.now x s.starts g.inside;
    each = sym s.each;
    stored = s.stored;
    fits = s.fits;
  }

---- the flag

module _ {c c' : Cursor} {pool : List ℕ} {most : ℕ} where
  pub without_lines : {table : List ℕ} → Advances c c' byte (read 0 c'.at) → LinesFilled c c' pool table table most read_line_index (Ok (record { name = None; starts = 0 }))
  unfolding read_line_index read_flagged line_starts
  without_lines {table} g = record {
    outcome = record {
      line = none;
      is = record { reads = λ cs names e. here_reads _ (then_reads _ g (must_reads _ _ refl (pure_reads none))) };
      name_is = refl;
      each = refl;
      stored = sym (put_none table 0);
      fits = omega arith;
    };
  }

  module _ {c'' : Cursor} (g : Advances c c' byte (read 1 c'.at)) where
    after_flag : {x : Answer (Option (LineIndex Part))} → InContext c' c'' pool most (λ e. read_flagged e 1) x → InContext c c'' pool most read_line_index x
    unfolding read_line_index
    after_flag f = record { reads = λ cs names h. here_reads _ (then_reads _ g (must_reads _ _ refl (rw (← g.payload) (f.reads cs names h)))) }

    pub with_lines :
        {table table' : List ℕ} {r : Result Lines Refusal} → LinesFilled c' c'' pool table table' most (λ e. read_flagged e 1) r →
        LinesFilled c c'' pool table table' most read_line_index r
    with_lines {r = Ok l} f = let a = f.outcome in record {
      outcome = record { line = a.line; is = after_flag a.is; name_is = a.name_is; each = a.each; stored = a.stored; fits = a.fits };
    }
    with_lines {r = Err e} f = record { outcome = after_flag f.outcome }

---- a table of which the front part was lent, with room for as many starts as are read at most

module _ (table part : List ℕ) {most : ℕ} (room : most ≤ length table) {reader : Context → Reader (Option (LineIndex Part))} where
  pub front_filled :
      {c c' : Cursor} {pool : List ℕ} {r : Result Lines Refusal} → LinesFilled c c' pool (take most table) part (length (take most table)) reader r →
      LinesFilled c c' pool table (part ++ drop most table) most reader r
  front_filled {c} {c'} {pool} {r} f = whole r (rw (length-take-le most table room) at f)
    where
      whole : (r : Result Lines Refusal) → LinesFilled c c' pool (take most table) part most reader r → LinesFilled c c' pool table (part ++ drop most table) most reader r
      whole (Ok l) f = let a = f.outcome in record {
        outcome = record {
          line = a.line;
          is = a.is;
          name_is = a.name_is;
          each = a.each;
          stored = rw a.stored (put_front most table (line_starts a.line) (omega (arith, a.each, a.fits)) room);
          fits = a.fits;
        };
      }
      whole (Err e) f = record { outcome = f.outcome }

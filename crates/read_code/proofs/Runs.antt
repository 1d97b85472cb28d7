-- Runs read one after another: whatever the rest of the reading answers from here, with the runs so far in front, all of it answers from the start.
use Rattle.std.specs.Prelude.{List, [], ◌∷◌, ◌++◌, ◌≡◌, refl, ℕ, suc, ◌+◌, ◌*◌, ◌-◌, ◌≤◌, ◌<◌, pos, replicate, Ok, Err}
use Rattle.std.proofs.Common.{arith, sym, subst, ◌∙◌}
use borrow.Author.Tests.{ne_eqb}
use Rattle.std.specs.Borrow.{Bor}
use Rattle.slices.specs.Put.{put}
use Rattle.slices.specs.Laws.Put.{put_none}
use Rattle.refusal.specs.Number.{number}
use Rattle.refusal.specs.declared.Reason.TheVariants.{WrongRunCounts}
use Rattle.refusal.specs.declared.Refusal.{Refusal}
use Rattle.payload.specs.Reader.{Reader}
use Rattle.payload.specs.Spans.{expand, total, read_position, read_runs}
use Rattle.payload.specs.Spans as defined
use Rattle.payload.specs.Tables.{span_words}
use Rattle.cursor.specs.Reads.{Answer, read, stopped, Reads}
use Rattle.cursor.specs.Advances.{Advances}
use Rattle.cursor.specs.Laws.Sofar.{after, Sofar, sofar_none, sofar_more, sofar_stop, sofar_all}
use Rattle.cursor.specs.Laws.Reads.{reads_pure, reads_then, reads_stop, reads_here, reads_must_not}
use Rattle.cursor.specs.declared.Cursor.{Cursor}
use Rattle.read_code.specs.Runs.{run_after, run_of, RunsPassed, RunsRead}
use Rattle.read_code.specs.Laws.Runs.{run_first, run_first_stop}
use Rattle.read_code.specs.Laws.Spans.{total_append}
use Rattle.read_code.specs.declared.Run.{Run}
use Rattle.read_code.proofs.SpanTable.{spans_of_run}

-- what is read where a cursor is, of a payload that is the cursor's
pub on_payload : {A : Type 0} {p : Bor (List ℕ)} {c c' : Cursor} {r : Reader A} {x : Answer A} → c.payload ≡ p → Advances c c' r x → Reads p.now c.at r x
on_payload {c = c} {r = r} {x = x} e g = subst (λ b. Reads b.now c.at r x) e g.reads

---- the first k of `count` runs

pub record Passed (c₀ c : Cursor) (count : ℕ) (before : Run) (k : ℕ) (run : Run) (runs : List defined.Run) : Type 0 where
  pub payload : c.payload ≡ c₀.payload
  pub sofar : Sofar c₀.payload.now c₀.at (read_runs count before.start before.end) runs c.at (read_runs (count - k) run.start run.end)

pub passed_none : (c : Cursor) (count : ℕ) (before : Run) → Passed c c count before 0 before []
passed_none c count before = let all : count - 0 ≡ count = omega arith in record { payload = refl; sofar = rw all (sofar_none c.inside) }

one_less : {k count : ℕ} → k < count → suc (count - (k + 1)) ≡ count - k
one_less h = omega arith

module _ {c₀ c : Cursor} {count : ℕ} {before : Run} {k : ℕ} {run : Run} {runs : List defined.Run} (f : Passed c₀ c count before k run runs) where
  module _ {c' : Cursor} where
    pub passed_rest : (x : Answer (List defined.Run)) → Advances c c' (read_runs (count - k) run.start run.end) x → Advances c₀ c' (read_runs count before.start before.end) (after runs x)
    passed_rest x g = record { payload = g.payload ∙ f.payload; reads = f.sofar.all x (on_payload f.payload g) }

    module _ (h : k < count) where
      pub passed_more : {r : Run} → Advances c c' (run_after run) (read r c'.at) → Passed c₀ c' count before (k + 1) r (runs ++ (run_of r ∷ []))
      passed_more {r} g = record {
        payload = g.payload ∙ f.payload;
        sofar = sofar_more f.sofar (on_payload f.payload g).inside (λ x y. rw (← one_less h) (run_first (count - (k + 1)) run (on_payload f.payload g) x y));
      }

      pub passed_stop : {m q : ℕ} → Advances c c' (run_after run) (stopped m q) → Advances c₀ c' (read_runs count before.start before.end) (stopped m q)
      passed_stop g = record { payload = g.payload ∙ f.payload; reads = sofar_stop f.sofar (rw (← one_less h) (run_first_stop (count - (k + 1)) run (on_payload f.payload g))) }

  pub passed_all : count ≤ k → Advances c₀ c (read_runs count before.start before.end) (read runs c.at)
  unfolding read_runs
  passed_all h = let none : count - k ≡ 0 = omega arith in record { payload = f.payload; reads = sofar_all f.sofar (rw none (reads_pure [] f.sofar.inside)) }

---- the runs so far, with their spans in the table

abbrev pub first : Run
first = record { start = pos 0; end = pos 0; count = 0 }

pub record Filling (c₀ c : Cursor) (table₀ table : List ℕ) (used size count from k : ℕ) (run : Run) : Type 0 where
  pub runs : List defined.Run
  pub passed : Passed c₀ c count first k run runs
  pub filled : from ≡ used + total runs
  pub fits : from ≤ used + size
  pub stored : table ≡ put table₀ (2 * used) (span_words (expand runs))

-- the counts are not one for each byte of code
miscounted : {c₀ c : Cursor} {table table' : List ℕ} {used size count : ℕ} {rs : List defined.Run} {e : Refusal} →
    e ≡ record { reason = WrongRunCounts; place = c.at } → Advances c₀ c (read_runs count (pos 0) (pos 0)) (read rs c.at) → (total rs ≡ size → ⊥) →
    RunsRead c₀ c table table' used size count (Err e)
miscounted {size = size} {rs = rs} w g d = rw w (record { payload = g.payload; outcome = λ x. reads_then _ g.reads (reads_here _ (reads_must_not _ (ne_eqb (total rs) size d))) })

-- one of the runs is refused
unread : {c₀ c : Cursor} {table table' : List ℕ} {used size count : ℕ} {e : Refusal} → Advances c₀ c (read_runs count (pos 0) (pos 0)) (stopped (number e.reason) e.place) →
    RunsRead c₀ c table table' used size count (Err e)
unread g = record { payload = g.payload; outcome = λ x. reads_stop _ g.reads }

pub filling_none : (c : Cursor) (table : List ℕ) (used size count : ℕ) → Filling c c table table used size count used 0 first
unfolding total expand span_words
filling_none c table used size count = record { runs = []; passed = passed_none c count first; filled = omega arith; fits = omega arith; stored = sym (put_none table _) }

module _ {c₀ c : Cursor} {table₀ table : List ℕ} {used size count from k : ℕ} {run : Run} (f : Filling c₀ c table₀ table used size count from k run) where
  module _ (h : k < count) {c' : Cursor} where
    module _ {r : Run} (g : Advances c c' (run_after run) (read r c'.at)) where
      grown : total (f.runs ++ (run_of r ∷ [])) ≡ total f.runs + r.count
      unfolding total
      grown = omega (arith, total_append f.runs (run_of r ∷ []))

      pub filling_more : {table' : List ℕ} {s : defined.Span} → from + r.count ≤ used + size → s ≡ (run_of r).span → table' ≡ put table (2 * from) (span_words (replicate r.count s)) →
          Filling c₀ c' table₀ table' used size count (from + r.count) (k + 1) r
      filling_more {table'} l x m = record {
        runs = f.runs ++ (run_of r ∷ []);
        passed = passed_more f.passed h g;
        filled = omega (arith, grown);
        fits = l;
        stored = run_stored ∙ spans_of_run table₀ used f.runs (run_of r) from f.filled;
      }
        where
          run_stored : table' ≡ put (put table₀ (2 * used) (span_words (expand f.runs))) (2 * from) (span_words (replicate r.count (run_of r).span))
          run_stored = rw (x, f.stored) at m

      module _ {table' : List ℕ} {c'' : Cursor} {e : Refusal} where
        -- the counts pass the code's length
        pub filling_over : RunsPassed c' c'' (count - (k + 1)) r (Ok tt) → used + size < from + r.count → e ≡ record { reason = WrongRunCounts; place = c''.at }
            → RunsRead c₀ c'' table₀ table' used size count (Err e)
        filling_over p l y =
            miscounted y (passed_rest (passed_more f.passed h g) _ p.reads)
            (λ d. omega (arith, grown, total_append (f.runs ++ (run_of r ∷ [])) p.runs))

        pub filling_over_stop : RunsPassed c' c'' (count - (k + 1)) r (Err e) → RunsRead c₀ c'' table₀ table' used size count (Err e)
        filling_over_stop p = unread (passed_rest (passed_more f.passed h g) _ p.reads)

    pub filling_stop : {table' : List ℕ} {e : Refusal} → Advances c c' (run_after run) (stopped (number e.reason) e.place) → RunsRead c₀ c' table₀ table' used size count (Err e)
    filling_stop g = unread (passed_stop f.passed h g)

  module _ (h : count ≤ k) where
    pub filling_under : {table' : List ℕ} {e : Refusal} → from < used + size → e ≡ record { reason = WrongRunCounts; place = c.at } → RunsRead c₀ c table₀ table' used size count (Err e)
    filling_under l y = miscounted y (passed_all f.passed h) (λ d. omega arith)

    pub filling_all : used + size ≤ from → RunsRead c₀ c table₀ table used size count (Ok tt)
    filling_all l = let all = passed_all f.passed h in record {
      payload = all.payload;
      outcome = record { runs = f.runs; reads = all.reads; each = omega arith; stored = f.stored };
    }

-- What reading code answers, from what each of its items is read as.
use Rattle.std.specs.Prelude.{List, ◌≡◌, ℕ, ◌+◌, ◌≤◌, ◌<◌, pos, Ok, Err}
use Rattle.std.proofs.Common.{◌∙◌, le-leb}
use Rattle.std.proofs.lemmas.Bool.{lt-leb}
use borrow.Author.Tests.{eq-eqb}
use Rattle.refusal.specs.Number.{number}
use Rattle.refusal.specs.declared.Reason.TheVariants.{SpansFull}
use Rattle.refusal.specs.declared.Refusal.{Refusal}
use Rattle.payload.specs.Numbers.{varint}
use Rattle.payload.specs.Reader.{Part, ◌>>=◌, ◌>>◌, and_then, body, must, new_spans}
use Rattle.payload.specs.Spans.{Code, expand, total, read_runs, read_code}
use Rattle.cursor.specs.Reads.{Answer, read, stopped, state_at, result_of}
use Rattle.cursor.specs.Advances.{Advances, Taken}
use Rattle.cursor.specs.Laws.Reads.{reads_pure, reads_then, reads_here, reads_must}
use Rattle.cursor.specs.Laws.Advances.{then_reads, stop_reads}
use Rattle.cursor.specs.declared.Cursor.{Cursor}
use Rattle.read_code.specs.CodeRead.{CodeFilled}
use Rattle.read_code.specs.Runs.{counted, RunsRead}
use Rattle.read_code.specs.Laws.Spans.{length_expand}
use Rattle.read_code.proofs.Runs.{on_payload}

module _ {c c₁ : Cursor} (used most : ℕ) where
  pub no_length : {table table' : List ℕ} {e : Refusal} → Advances c c₁ varint (stopped (number e.reason) e.place) → CodeFilled c c₁ table table' used most (Err e)
  unfolding read_code ◌>>=◌ and_then
  no_length g = record { payload = g.payload; outcome = λ rows. rw (g.reads.is rows used) }

module _ {c c₁ c₂ : Cursor} (used most : ℕ) {n : ℕ} (g : Advances c c₁ varint (read n c₁.at)) where
  pub no_body : {table table' : List ℕ} {e : Refusal} → Advances c₁ c₂ (body n) (stopped (number e.reason) e.place) → CodeFilled c c₂ table table' used most (Err e)
  unfolding read_code ◌>>=◌ and_then
  no_body b = record { payload = b.payload ∙ g.payload; outcome = λ rows. rw (g.reads.is rows used, (on_payload g.payload b).is rows used) }

  module _ {x : Part} (b : Advances c₁ c₂ (body n) (read x c₂.at)) where
    pub no_room : {table table' : List ℕ} {e : Refusal} → most < used + n → e ≡ record { reason = SpansFull; place = c₂.at } → CodeFilled c c₂ table table' used most (Err e)
    unfolding read_code ◌>>=◌ ◌>>◌ and_then must new_spans
    no_room k w = rw w (record {
      payload = b.payload ∙ g.payload;
      outcome = λ rows. rw (g.reads.is rows used, (on_payload g.payload b).is rows used, lt-leb (used + n) most k);
    })

    module _ (k : used + n ≤ most) {c₃ : Cursor} where
      -- the rest adds no spans of its own
      rest : {y : Answer Code} → Advances c₂ c₃ (varint >>= λ m. read_runs m (pos 0) (pos 0) >>= counted n x) y → (rows : ℕ)
          → read_code most (state_at c.payload.now c.at rows used) ≡ result_of c.payload.now rows (used + n) y
      unfolding read_code ◌>>=◌ ◌>>◌ and_then must new_spans
      rest r rows =
          rw (g.reads.is rows used, (on_payload g.payload b).is rows used, le-leb (used + n) most k)
          ((on_payload (b.payload ∙ g.payload) r).is rows (used + n))

      pub no_count : {table table' : List ℕ} {e : Refusal} → Advances c₂ c₃ varint (stopped (number e.reason) e.place) → CodeFilled c c₃ table table' used most (Err e)
      no_count r = record { payload = r.payload ∙ b.payload ∙ g.payload; outcome = rest (stop_reads _ r) }

  -- the runs of the code that a cursor took
  module _ {bytes : List ℕ} (b : Advances c₁ c₂ (body n) (read (record { offset = c₁.at; bytes = bytes }) c₂.at)) (t : Taken c₁ n bytes c₂.at) (k : used + n ≤ most) {c₃ : Cursor} {m : ℕ}
      (h : Advances c₂ c₃ varint (read m c₃.at)) {c₄ : Cursor} {table table' : List ℕ} where
    pub no_runs : {e : Refusal} → RunsRead c₃ c₄ table table' used n m (Err e) → CodeFilled c c₄ table table' used most (Err e)
    no_runs r = record {
      payload = r.payload ∙ h.payload ∙ b.payload ∙ g.payload;
      outcome = rest b k (then_reads _ {c'' = c₄} h (record { payload = r.payload; reads = r.outcome _ }));
    }

    pub accepted : RunsRead c₃ c₄ table table' used n m (Ok tt) → CodeFilled c c₄ table table' used most (Ok (record { offset = c₁.at; length = n }))
    accepted r =
        let o = r.outcome in
        let code = reads_then _ o.reads (reads_here _ (reads_must _ _ (eq-eqb (total o.runs) n o.each) (reads_pure _ o.reads.inside))) in
        let p = r.payload ∙ h.payload ∙ b.payload ∙ g.payload in
        record {
          payload = p;
          outcome = record {
            spans = expand o.runs;
            is = rw (t.are, g.payload) at (rest b k (then_reads _ {c'' = c₄} h (record { payload = r.payload; reads = code })));
            each = length_expand o.runs ∙ o.each;
            stored = o.stored;
            fits = k;
            inside = rw p at c₄.inside;
            code_inside = rw g.payload at t.inside;
          };
        }

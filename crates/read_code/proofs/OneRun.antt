-- What the run after one is read as, from what its two positions and its count are read as.
use Rattle.std.specs.Prelude.{List, ◌≡◌, ℕ, ℤ}
use Rattle.payload.specs.Numbers.{varint}
use Rattle.payload.specs.Spans.{read_position}
use Rattle.cursor.specs.Reads.{read, stopped, Reads}
use Rattle.cursor.specs.Laws.Reads.{reads_pure, reads_then, reads_stop}
use Rattle.read_code.specs.Runs.{run_after}
use Rattle.read_code.specs.declared.Run.{Run}

module _ {p : List ℕ} {at : ℕ} (before : Run) {s : ℤ} where
  pub no_start : {n q : ℕ} → Reads p at (read_position s) (stopped n q) → s ≡ before.start → Reads p at (run_after before) (stopped n q)
  unfolding run_after
  no_start g w = reads_stop _ (rw w at g)

  module _ {start : ℤ} {next : ℕ} (g : Reads p at (read_position s) (read start next)) (w : s ≡ before.start) {e : ℤ} where
    pub no_end : {n q : ℕ} → Reads p next (read_position e) (stopped n q) → e ≡ before.end → Reads p at (run_after before) (stopped n q)
    unfolding run_after
    no_end h x = reads_then _ (rw w at g) (reads_stop _ (rw x at h))

    module _ {end : ℤ} {after : ℕ} (h : Reads p next (read_position e) (read end after)) (x : e ≡ before.end) where
      pub no_count : {n q : ℕ} → Reads p after varint (stopped n q) → Reads p at (run_after before) (stopped n q)
      unfolding run_after
      no_count k = reads_then _ (rw w at g) (reads_then _ (rw x at h) (reads_stop _ k))

      pub one_run : {count last : ℕ} {a b : ℤ} → Reads p after varint (read count last) → a ≡ start → b ≡ end
          → Reads p at (run_after before) (read (record { start = a; end = b; count = count }) last)
      unfolding run_after
      one_run k u v = rw (u, v) (reads_then _ (rw w at g) (reads_then _ (rw x at h) (reads_then _ k (reads_pure _ k.inside))))

-- The definition reads runs one after another: one, and then the rest.
use Rattle.std.specs.Prelude.{List, [], ◌∷◌, ◌≡◌, refl, ℕ, suc}
use Rattle.std.proofs.Common.{◌∙◌}
use Rattle.payload.specs.Reader.{Reader, State, ◌>>=◌, and_then, ok, refused, pure}
use Rattle.payload.specs.Reader as reader
use Rattle.payload.specs.Spans.{read_runs}
use Rattle.payload.specs.Spans as defined
use Rattle.cursor.specs.Reads.{Answer, read, stopped, Reads}
use Rattle.cursor.specs.Laws.Reads.{reads_then, reads_stop}
use Rattle.cursor.specs.Laws.Sofar.{after, in_front}
use Rattle.read_code.specs.Runs.{run_after, run_of}
use Rattle.read_code.specs.declared.Run.{Run}

-- n runs behind a run, with it in front
abbrev pub rest : ℕ → Run → Reader (List defined.Run)
rest n r = read_runs n r.start r.end >>= λ rs. pure (run_of r ∷ rs)

then_then : {A B C : Type 0} (x : reader.Result A) (f : A → Reader B) (g : B → Reader C) → and_then (and_then x f) g ≡ and_then x (λ a z. and_then (f a z) g)
unfolding and_then
then_then (ok a z) f g = refl
then_then (refused m q) f g = refl

pub first_run : (n : ℕ) (r : Run) (z : State) → read_runs (suc n) r.start r.end z ≡ (run_after r >>= rest n) z
unfolding read_runs run_after ◌>>=◌ and_then pure
first_run n r z = simp then_then

module _ {p : List ℕ} {at : ℕ} (n : ℕ) (before : Run) where
  by_first : {x : Answer (List defined.Run)} → Reads p at (run_after before >>= rest n) x → Reads p at (read_runs (suc n) before.start before.end) x
  by_first g = record { is = λ rows spans. first_run n before _ ∙ g.is rows spans; inside = g.inside }

  -- What the runs behind a run answer, with it in front, all of them answer from its place on.
  pub run_first : {r : Run} {next : ℕ} → Reads p at (run_after before) (read r next) → (x : Answer (List defined.Run)) → Reads p next (read_runs n r.start r.end) x
      → Reads p at (read_runs (suc n) before.start before.end) (after (run_of r ∷ []) x)
  run_first {r} g x h = by_first (reads_then (rest n) g (in_front (run_of r) x h))

  pub run_first_stop : {m q : ℕ} → Reads p at (run_after before) (stopped m q) → Reads p at (read_runs (suc n) before.start before.end) (stopped m q)
  run_first_stop g = by_first (reads_stop (rest n) g)

-- `read_outer` meets its contract: the outer chunk, and zeros at a refusal.
use Rattle.std.specs.Prelude.{Ok, List, ◌≡◌, ℕ}
use Rattle.std.proofs.Common.{ap, sym, ◌∙◌, rules}
use Rattle.slices.specs.Zeros.{zeros}
use Rattle.payload.specs.Reading.{read_chunk}
use Rattle.read_values.specs.Did.{Did, context_in, one_tree}
use Rattle.read_values.specs.Does.{Loan}
use Rattle.read_values.specs.Outer.{OuterRead}
use Rattle.read_values.specs.State.{start_at, state_of}
use Rattle.read_values.specs.declared.State.{State}
use Rattle.read_values.specs.declared.sources.Source.{Source}
use Rattle.read_values.proofs.read_outer.Goals as goal

-- the caller's tables are what the decoder left in them
kept : {e : Source} {rows rows' rows'' spans spans' spans'' : List ℕ} {at : ℕ} {s : State} →
    Did one_tree e.capacities e.payload.now rows rows' spans spans' 0 0 (Ok s) (read_chunk (context_in e) (state_of e.payload.now (start_at at))) → rows'' ≡ rows' →
    spans'' ≡ spans' → OuterRead e rows rows'' spans spans'' at (Ok s)
kept d q p = record { did = rw (q, p) d; cleared = tt }

pub returns-in-Ok : goal.returns-in-Ok
unfolding read_chunk
returns-in-Ok c =
    let d = c.in-Ok.ensures in
    let same_rows = sym (ap (λ (l : Loan). l.rows) d.same) in
    let same_spans = sym (ap (λ (l : Loan). l.spans) d.same) in
    kept d.did (search rules) (search rules)

pub returns-in-Err : goal.returns-in-Err
unfolding read_chunk
returns-in-Err c =
    let d = c.in-Err.ensures in
    record {
      did = record { out = d.did.out };
      cleared = (c.fill.ensures.after (λ y e. e) ∙ ap zeros (search rules), c.fill-in-Err.ensures.after (λ y e. e) ∙ ap zeros (search rules));
    }

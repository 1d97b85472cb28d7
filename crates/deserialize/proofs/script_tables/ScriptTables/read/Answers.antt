-- `read` meets its contract: the outer chunk, then the line index, and zeros behind them.
use Rattle.std.proofs.Common.{ap, ◌∙◌, refl}
use Rattle.slices.specs.Zeros.{zeros}
use Rattle.read_values.specs.Laws.Did.{ran_of, no_of}
use Rattle.deserialize.proofs.Script.{accepted_leaves, no_lines_read, refused_leaves, script_no_chunk}
use Rattle.deserialize.proofs.script_tables.ScriptTables.read.Goals as goal

pub returns-in-Err : goal.returns-in-Err
returns-in-Err c =
    let cleared = rw c.in-Err.is at c.read_outer.ensures.cleared in
    record {
      same = record { same_rows = refl; same_spans = refl; same_starts = refl };
      leaves = refused_leaves (script_no_chunk _ _ (no_of c.in-Err.is c.read_outer.ensures.did)) cleared.0 cleared.1 (c.fill.ensures.after (λ y e. e));
    }

pub returns-in-Err-read_line_index : goal.returns-in-Err-read_line_index
returns-in-Err-read_line_index c =
    let begin = c.new-items.ensures in
    let outer = ran_of c.in-Ok.is c.read_outer.ensures.did in
    let lines = rw c.in-Err-read_line_index.is at c.read_line_index.ensures.moves in
    record {
      same = record { same_rows = refl; same_spans = refl; same_starts = refl };
      leaves =
          refused_leaves (no_lines_read c.args.names.now c.args.items.cursor.at outer.1 (ap (λ b. b.now) begin.0) begin.1 lines.outcome)
          (c.fill-in-Err-read_line_index.ensures.after (λ y e. e) ∙ ap zeros c.read_outer.auto.rows)
          (c.fill-in-Err-read_line_index-2.ensures.after (λ y e. e) ∙ ap zeros c.read_outer.auto.spans) lines.cleared;
    }

pub returns : goal.returns
returns c =
    let begin = c.new-items.ensures in
    let outer = ran_of c.in-Ok.is c.read_outer.ensures.did in
    let lines = rw c.in-Ok-read_line_index.is at c.read_line_index.ensures.moves in
    record {
      same = record { same_rows = refl; same_spans = refl; same_starts = refl };
      leaves =
          accepted_leaves c.args.names.now c.args.items.cursor.at outer.1 (ap (λ b. b.now) begin.0) begin.1 c.args.self.now.room lines.outcome
          c.zero_from.ensures c.zero_from-2.ensures c.zero_from-3.ensures;
    }

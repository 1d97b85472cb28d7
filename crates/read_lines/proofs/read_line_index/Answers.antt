-- `read_line_index` meets its contract: the starts go into the front part of the table, and zeros into the whole of it at a refusal.
use Rattle.std.proofs.Common.{rules}
use Rattle.read_lines.proofs.Flagged.{front_filled}
use Rattle.read_lines.proofs.read_line_index.Goals as goal

pub returns-else-is_err : goal.returns-else-is_err
returns-else-is_err c =
    let fill = c.fill_starts-lines in
    let filled = front_filled c.args.starts.now fill.new.starts c.requires fill.ensures.moves in
    record { same_pool = fill.ensures.same_pool; moves = record { outcome = filled.outcome; cleared = search rules } }

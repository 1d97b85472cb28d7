-- `write_code::Runs::split_run` meets its contract: the first span, with those after it that are the same.
use Rattle.std.proofs.Common.{◌*◌}
use Rattle.write_code.specs.Laws.Runs.{words_from, run_in_front}
use Rattle.write_code.proofs.Runs.split_run.Goals as goal

pub returns-clause-some : goal.returns-clause-some
returns-clause-some c =
    let after = c.in_ok-span.after.spans.now in
    rw (words_from (2 * c.repeats-more.result) after) (run_in_front _ after _ _ c.in_ok-span.ensures.some c.repeats-more.ensures)

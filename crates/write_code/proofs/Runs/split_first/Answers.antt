-- `write_code::Runs::split_first` meets its contract: two words are a span.
use Rattle.write_code.specs.Laws.Runs.{spans_none, span_in_front, words_from, positions_from}
use Rattle.write_code.proofs.Runs.split_first.Goals as goal

pub returns-in_default-clause-none : goal.returns-in_default-clause-none
returns-in_default-clause-none c = spans_none _ c.in_default.len_below

pub invariant_of-result : goal.invariant_of-result
invariant_of-result c = let w = c.args.self.spans.now in record { positions = rw (words_from 2 w) (positions_from 2 w c.args.self.positions) }

pub returns-clause-some : goal.returns-clause-some
returns-clause-some c = let w = c.args.self.spans.now in rw (words_from 2 w) (span_in_front w c.in-len2-up.len_at_least)

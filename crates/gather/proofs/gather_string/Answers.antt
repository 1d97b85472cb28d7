-- `gather::gather_string` meets its contract: no place, no string; one that has an entry is interned.
use Rattle.gather.specs.Laws.Interning.{interned_none}
use Rattle.gather.specs.Laws.Placing.{one_pooled, one_full}
use Rattle.gather.specs.Places.{parts_of}
use Rattle.gather.proofs.gather_string.Goals as goal

pub returns-in_default : goal.returns-in_default
unfolding parts_of
returns-in_default c = rw c.in_default.is (interned_none c.requires)

pub returns-in_err-intern : goal.returns-in_err-intern
unfolding parts_of
returns-in_err-intern c = rw (c.from_residual.ensures, c.in-Some.is) (one_full c.in_err-intern.ensures)

pub returns : goal.returns
unfolding parts_of
returns c = rw c.in-Some.is (one_pooled c.in_ok-intern.ensures)

-- `read_body` meets its contract: the three ways its tests go.
use Rattle.std.proofs.Common.{le-leb, refl}
use Rattle.std.proofs.lemmas.Bool.{lt-leb}
use Rattle.cursor.specs.Body.{body_of}
use Rattle.cursor.proofs.read_body.Goals as goal

pub returns-then-payload-at : goal.returns-then-payload-at
unfolding body_of
returns-then-payload-at c = rw (lt-leb _ _ c.if-payload-at.true, c.at.ensures) refl

pub returns-then-payload-at-2 : goal.returns-then-payload-at-2
unfolding body_of
returns-then-payload-at-2 c = rw (le-leb _ _ c.if-payload-at.false, lt-leb _ _ c.if-payload-at-2.true, c.at-then-payload-at-2.ensures) refl

pub returns : goal.returns
unfolding body_of
returns c = rw (le-leb _ _ c.if-payload-at.false, le-leb _ _ c.if-payload-at-2.false) refl

-- The four tests by the first byte are those of UTF8-4.
use native.Mathlib.Omega.{arith}
use Rattle.utf8.specs.Laws.Utf8.{four_F0, four_F1, four_F4, four_none}
use Rattle.utf8.proofs.four.Goals as goal

pub returns-then-a-eq240 : goal.returns-then-a-eq240
returns-then-a-eq240 c =
    let x = c.args in
    cc (four_F0 x.a x.b x.c x.d c.if-a-eq240.true)

pub returns-then-a-lt244 : goal.returns-then-a-lt244
returns-then-a-lt244 c =
    let x = c.args in
    cc (four_F1 x.a x.b x.c x.d (omega arith) c.if-a-eq240.false (omega arith))

pub returns-then-a-eq244 : goal.returns-then-a-eq244
returns-then-a-eq244 c =
    let x = c.args in
    cc (four_F4 x.a x.b x.c x.d c.if-a-eq244.true)

pub returns : goal.returns
returns c = four_none _ _ _ _ (omega arith) c.if-a-eq244.false

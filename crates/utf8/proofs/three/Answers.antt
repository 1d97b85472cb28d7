-- The three tests by the first byte are those of UTF8-3.
use Rattle.utf8.specs.Laws.Utf8.{three_E0, three_ED, three_rest}
use Rattle.utf8.proofs.three.Goals as goal

pub returns-then-a-eq224 : goal.returns-then-a-eq224
returns-then-a-eq224 c =
    let x = c.args in
    cc (three_E0 x.a x.b x.c 0 c.if-a-eq224.true)

pub returns-then-a-eq237 : goal.returns-then-a-eq237
returns-then-a-eq237 c =
    let x = c.args in
    cc (three_ED x.a x.b x.c 0 c.if-a-eq237.true)

pub returns : goal.returns
returns c =
    let x = c.args in
    cc (three_rest x.a x.b x.c 0 c.requires.0 c.requires.1 c.if-a-eq224.false c.if-a-eq237.false)

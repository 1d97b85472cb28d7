-- With a first byte other than E0 and ED, two tails make a UTF8-3.
use Rattle.utf8.specs.Laws.Utf8.{three_plain}
use Rattle.utf8.proofs.plain_three.Goals as goal

pub returns : goal.returns
returns c =
    let x = c.args in
    λ e. three_plain x.a x.b x.c 0 (cc)

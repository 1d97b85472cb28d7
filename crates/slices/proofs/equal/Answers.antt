-- `equal` meets its contract: any test of equality is `same`.
use mathlib.Core.Path.{◌∙◌, sym}
use Rattle.std.specs.Cmp.Lexicographic.{bytes_decides, same_text}
use Rattle.slices.specs.Laws.Same.{same_iff}
use Rattle.slices.proofs.equal.Goals as goal

pub returns : goal.returns
returns c =
    let args = c.args in
    let a = args.a.now in
    let b = args.b.now in
    same_iff a b c.eq.result (λ e. same_text a b (sym e ∙ c.eq.ensures)) (λ e. c.eq.ensures ∙ (bytes_decides a b).1 e)

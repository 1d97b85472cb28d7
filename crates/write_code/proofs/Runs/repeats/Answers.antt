-- `write_code::Runs::repeats` meets its contract: the first four spans by their tests, and the others one by one.
use Rattle.std.proofs.Common.{◌∙◌, sym, arith}
use Rattle.write_code.specs.Laws.Runs.{trues_four, repeats_none, repeats_next, repeats_ends, repeats_all, repeats_short, repeats_four}
use Rattle.write_code.proofs.Runs.repeats.Goals.{in_default, in-len8-up+else-n-lt4}
use Rattle.write_code.proofs.Runs.repeats.Goals as goal

pub returns-then-n-lt4 : goal.returns-then-n-lt4
returns-then-n-lt4 c =
    let w = c.args.self.spans.now in
    let e = c.leading_trues-n.ensures.trues ∙ trues_four _ w c.has.ensures c.has-in-len8-up.ensures c.has-in-len8-up-2.ensures c.has-in-len8-up-3.ensures in
    repeats_short _ w _ c.in-len8-up.len_at_least e c.if-n-lt4.true

pub loop-k-init : goal.loop-k-init
loop-k-init c =
    let w = c.args.self.spans.now in
    elim c.if-words-lt8.branch [
      | in_default x ↦ rw x.n-is (repeats_none _ w)
      | in-len8-up+else-n-lt4 x ↦
          let e = x.leading_trues-n.ensures.trues ∙ trues_four _ w x.has.ensures x.has-in-len8-up.ensures x.has-in-len8-up-2.ensures x.has-in-len8-up-3.ensures in
          rw x.n-is (repeats_four _ w _ x.in-len8-up.len_at_least e (omega (arith, x.leading_trues-n.ensures.bound, x.if-n-lt4.false)))
    ]

pub returns-then-not-has : goal.returns-then-not-has
returns-then-not-has c = repeats_ends _ _ _ c.loop-k.invariant c.loop-k-test.true (sym c.if-not-has.ensures)

pub loop-k-preserved : goal.loop-k-preserved
loop-k-preserved c = repeats_next _ _ _ c.loop-k.invariant c.loop-k-test.true (sym c.if-not-has.ensures)

pub returns : goal.returns
returns c = repeats_all _ _ _ c.loop-k.invariant c.loop-k-test.false

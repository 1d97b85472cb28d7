-- `pool_index::search` meets its contract: the entries passed are not what is sought.
use mathlib.Core.Path.{◌≡◌, refl, ◌∙◌}
use native.Mathlib.Omega.{arith}
use Rattle.std.proofs.lemmas.Bool.{false_from_ne_true, false≢true}
use Rattle.pool_index.specs.Laws.Strings.{sought_hit, sought_next, sought_end}
use Rattle.pool_index.proofs.Pool.search.Goals as goal

pub returns-then-is_at : goal.returns-then-is_at
returns-then-is_at c =
    let has = c.if-is_at.ensures.0 refl in
    sought_hit _ _ _ c.loop-k.k c.loop-k.invariant has.0 has.1

pub loop-k-preserved : goal.loop-k-preserved
loop-k-preserved c =
    sought_next _ _ _ c.loop-k.k c.loop-k.invariant (omega arith)
    (false_from_ne_true _ (λ e. false≢true (c.if-is_at.ensures.1 (omega arith, e))))

pub returns : goal.returns
returns c =
    let e : c.count.result ≡ c.loop-k.k = omega arith in
    e ∙ sought_end _ _ _ c.loop-k.k c.loop-k.invariant (omega arith)

-- `gather::unlink` meets its contract: the entries passed have offsets and lengths alone.
use Rattle.pool_index.specs.Strings.{low_in, length_in}
use Rattle.gather.specs.Laws.Entries.{unlinked_none, unlinked_first, unlinked_second, unlinked_next}
use Prim.Native.Nat.{ℕ, ◌+◌, ◌*◌}
use mathlib.Core.Path.{sym, ap, ◌∙◌}
use mathlib.Core.List.{List}
use lib.ListN.{get_or, set}
use Rattle.gather.proofs.unlink.Goals as goal

pub loop-k-init : goal.loop-k-init
loop-k-init c = sym (unlinked_none c.args.pool.now)

pub loop-k-preserved : goal.loop-k-preserved
loop-k-preserved c =
    let loop = c.loop-k in
    let args = c.args in
    ap (λ (l : List ℕ). set (set l (2 * loop.k) c.low_in.result) (2 * loop.k + 1) c.length_in.result) loop.invariant
    ∙ unlinked_next loop.k args.pool.now
    (c.low_in.ensures.0 ∙ ap low_in (ap (λ (l : List ℕ). get_or l (2 * loop.k) 0) loop.invariant ∙ unlinked_first loop.k args.pool.now))
    (c.length_in.ensures.0
    ∙ ap length_in
    (ap (λ (l : List ℕ). get_or (set l (2 * loop.k) c.low_in.result) (2 * loop.k + 1) 0) loop.invariant
    ∙ unlinked_second loop.k args.pool.now c.low_in.result))

-- `pool_index::same_part` meets its contract: parts at one place are the same.
use mathlib.Core.Path.{ap₂, sym, ◌∙◌}
use Prim.Native.Nat.{ℕ}
use Rattle.slices.specs.Laws.Same.{same_refl}
use Rattle.slices.specs.Same.{same}
use Rattle.pool_index.specs.Strings.{bytes_at}
use Rattle.pool_index.proofs.same_part.Goals as goal

pub returns-then-n-n2 : goal.returns-then-n-n2
returns-then-n-n2 c =
    let args = c.args in
    let s = args.store.now in
    sym
    (ap₂ (λ (x y : ℕ). same (bytes_at s x y) (bytes_at s args.o2 args.n2)) c.if-o-o2.true c.if-n-n2.true
    ∙ same_refl (bytes_at s args.o2 args.n2))

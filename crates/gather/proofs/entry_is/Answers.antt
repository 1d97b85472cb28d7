-- `gather::entry_is` meets its contract: two marks are two strings; an entry with a part's mark has its length, and parts at one place are the same.
use mathlib.Core.Path.{ap₂}
use Rattle.slices.specs.Same.{same}
use Rattle.pool_index.specs.Strings.{bytes_at}
use Rattle.gather.specs.Laws.Entries.{other_mark, same_place, length_new}
use Prim.Native.Nat.{ℕ}
use mathlib.Core.Path.{sym, ◌∙◌}
use native.Mathlib.Omega.{arith}
use lib.ListN.{take, drop}
use Rattle.gather.proofs.entry_is.Goals as goal

pub returns-then-low_in-marked : goal.returns-then-low_in-marked
returns-then-low_in-marked c =
    other_mark c.args.store.now _ _ _ c.requires.entry (λ e. c.if-low_in-marked.true (c.low_in.ensures.0 ∙ e ∙ sym c.requires.marked_value))

pub returns-then-offset-o : goal.returns-then-offset-o
returns-then-offset-o c =
    same_place c.args.store.now (sym c.low_in-offset.ensures.0 ∙ c.if-offset-o.true)
    (length_new c.args.store.now c.args.o c.args.n c.requires.n_in_bounds.0 c.requires.n_in_bounds.1 _ (sym c.low_in.ensures.0 ∙ c.if-low_in-marked.false ∙ c.requires.marked_value))

pub equal_parts-requires : goal.equal_parts-requires
equal_parts-requires c = (
  c.requires.n_in_bounds.0,
  omega (
    arith,
    c.requires.entry.within,
    c.low_in-offset.ensures.0,
    (length_new c.args.store.now c.args.o c.args.n c.requires.n_in_bounds.0 c.requires.n_in_bounds.1 _ (sym c.low_in.ensures.0 ∙ c.if-low_in-marked.false ∙ c.requires.marked_value)),
  ),
)

pub returns : goal.returns
unfolding bytes_at
returns c =
    let args = c.args in
    c.equal_parts.ensures
    ∙ ap₂ (λ (p m : ℕ). same (take args.n (drop args.o args.store.now)) (take m (drop p args.store.now))) c.low_in-offset.ensures.0
    (sym (length_new c.args.store.now c.args.o c.args.n c.requires.n_in_bounds.0 c.requires.n_in_bounds.1 _ (sym c.low_in.ensures.0 ∙ c.if-low_in-marked.false ∙ c.requires.marked_value)))

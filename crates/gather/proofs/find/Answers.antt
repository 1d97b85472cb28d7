-- `gather::find` meets its contract: a walk in the trie, of which every entry with the bytes is ahead.
use Rattle.gather.specs.Entries.{path_of}
use Rattle.gather.specs.Laws.Entries.{mark_is}
use Rattle.gather.specs.Laws.Searching.{look_start, look_at, look_empty, look_free, look_next}
use Prim.Native.Nat.{ℕ, ◌/◌}
use mathlib.Core.Path.{sym, ap, ◌∙◌}
use Rattle.gather.proofs.find.Goals as goal

pub loop-k-init : goal.loop-k-init
unfolding path_of
loop-k-init c =
    look_start c.requires.holding _ (ap (λ (n : ℕ). n / 4294967296) c.requires.n_in_bounds.1)

pub entry_is-requires-clause-marked_value : goal.entry_is-requires-clause-marked_value
entry_is-requires-clause-marked_value c =
    let args = c.args in mark_is args.store.now args.o args.n args.h c.requires.n_in_bounds.0 c.requires.n_in_bounds.1 c.mark-marked.ensures

pub returns-then-entry_is : goal.returns-then-entry_is
returns-then-entry_is c =
    look_at c.requires.holding _ c.loop-k.k c.loop-k-test.true (sym c.if-entry_is.true ∙ c.entry_is.ensures)

pub returns-then-next-eq0 : goal.returns-then-next-eq0
returns-then-next-eq0 c =
    let loop = c.loop-k in
    look_free c.requires.holding _ loop.invariant c.loop-k-test.true (sym c.if-entry_is.false ∙ c.entry_is.ensures)
    (sym c.link_at-next.ensures ∙ c.if-next-eq0.true)

pub loop-k-preserved : goal.loop-k-preserved
loop-k-preserved c =
    let loop = c.loop-k in
    look_next c.requires.holding _ loop.invariant c.loop-k-test.true (sym c.if-entry_is.false ∙ c.entry_is.ensures)
    c.link_at-next.ensures c.if-next-eq0.false

pub returns : goal.returns
returns c =
    look_empty c.requires.holding _ c.loop-k.invariant c.loop-k-test.false

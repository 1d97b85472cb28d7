-- `gather::intern_by_hash` meets its contract: the part cut to the store becomes the last entry, unless an entry has its bytes.
use Rattle.trie.specs.Hash.{hash_of}
use Rattle.gather.specs.Laws.Entries.{mark_is}
use Rattle.gather.specs.Laws.Interning.{capacity_is, cut_bytes}
use Rattle.gather.specs.Laws.Placing.{placed_there, placed_new, placed_full}
use mathlib.Core.Path.{ap, ◌∙◌}
use native.Mathlib.Omega.{arith}
use lib.ListN.{length}
use Rattle.gather.proofs.PoolState.intern_by_hash.Goals as goal

pub find-requires-clause-n_in_bounds : goal.find-requires-clause-n_in_bounds
find-requires-clause-n_in_bounds c = (
  omega (arith, c.cut-offset.ensures, c.cut-length.ensures),
  c.hash-h.ensures
      ∙ ap hash_of (c.bytes_at.ensures ∙ cut_bytes c.args.store.now _ _ _ _ c.cut-offset.ensures c.cut-length.ensures),
)

pub add-requires : goal.add-requires
add-requires c =
    let free = c.in-Err.ensures.sought in
    let room = capacity_is 0 0 0 (length c.args.table.now) in
    (omega (arith, free.low, room), omega (arith, room), omega (arith, room))

pub returns-then-k-string_capacity : goal.returns-then-k-string_capacity
returns-then-k-string_capacity c =
    let args = c.args in
    rw (
      c.add.ensures,
      mark_is args.store.now c.cut-offset.result c.cut-length.result c.hash-h.result (omega (arith, c.cut-offset.ensures, c.cut-length.ensures))
          (c.hash-h.ensures ∙ ap hash_of (c.bytes_at.ensures ∙ cut_bytes args.store.now _ _ _ _ c.cut-offset.ensures c.cut-length.ensures))
          c.mark.ensures,
    )
    (placed_new c.requires args.at.offset args.at.size c.cut-offset.result c.cut-length.result c.cut-offset.ensures c.cut-length.ensures _ c.in-Err.ensures.sought
    (omega (arith, capacity_is 0 0 0 (length args.table.now))))

pub returns-in-Ok : goal.returns-in-Ok
returns-in-Ok c =
    let found = c.in-Ok.ensures.sought in
    placed_there c.requires c.args.at.offset c.args.at.size c.cut-offset.result c.cut-length.result c.cut-offset.ensures c.cut-length.ensures _ found.0 found.1

pub returns-else-k-string_capacity : goal.returns-else-k-string_capacity
returns-else-k-string_capacity c =
    placed_full c.requires c.args.at.offset c.args.at.size c.cut-offset.result c.cut-length.result c.cut-offset.ensures c.cut-length.ensures _ c.in-Err.ensures.sought
    (omega (arith, capacity_is 0 0 0 (length c.args.table.now)))

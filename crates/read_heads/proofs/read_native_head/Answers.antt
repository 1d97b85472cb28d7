-- `read_native_head` meets its contract: the name is read and listed, read and not listed, or not read.
use Rattle.std.specs.Prelude.{refl}
use Rattle.std.proofs.Common.{sym, ◌∙◌}
use Rattle.refusal.specs.Laws.Errors.{same_error}
use Rattle.payload.specs.Shapes.{kinds_of}
use Rattle.read_items.specs.Laws.Context.{entry_fits}
use Rattle.read_items.specs.Laws.Over.{fits_still, index_keeps_payload}
use Rattle.read_heads.specs.Class.{shape_of}
use Rattle.read_heads.specs.Laws.Heads.{head_native, head_native_not, head_stop, item_native_stop, items_first, no_head}
use Rattle.read_heads.proofs.read_native_head.Goals as goal

pub invariant_of-items : goal.invariant_of-items
invariant_of-items c = record { pool_fits = fits_still c.args.items.now.pool.now (index_keeps_payload c.read_index.ensures) c.args.items.now.pool_fits }

pub returns-in_err-k : goal.returns-in_err-k
unfolding shape_of kinds_of
returns-in_err-k c = rw (same_error c.from_residual.result _ c.from_residual.ensures.1) (record {
  same_pool = refl;
  moves = no_head (λ cs. head_stop _ _ (items_first _ _ _ (item_native_stop _ (c.in_err-k.ensures.is c.args.names.now cs))));
})

pub is_listed-requires : goal.is_listed-requires
is_listed-requires c =
    let s = c.args.items.now in
    rw (index_keeps_payload c.in_ok-k.ensures) (entry_fits s.cursor.payload.now s.pool.now _ s.pool_fits c.in_ok-k.ensures.inside)

pub returns-then-is_listed : goal.returns-then-is_listed
returns-then-is_listed c =
    let s = c.args.items.now in
    let i = c.in_ok-k.ensures in
    rw c.of_words.ensures (record {
      same_pool = refl;
      moves = head_native _ _ (i.is c.args.names.now) (entry_fits s.cursor.payload.now s.pool.now _ s.pool_fits i.inside)
          (rw (index_keeps_payload i) at (sym c.is_listed.ensures ∙ c.if-is_listed.true));
    })

pub returns : goal.returns
returns c =
    let i = c.in_ok-k.ensures in
    rw c.at.ensures (record {
      same_pool = refl;
      moves = head_native_not _ _ (i.is c.args.names.now) (rw (index_keeps_payload i) at (sym c.is_listed.ensures ∙ c.if-is_listed.false));
    })

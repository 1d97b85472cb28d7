-- `Items::string` meets its contract: the entry of the index that was read, without hints, or no index is read.
use Rattle.std.specs.Prelude.{refl}
use Rattle.refusal.specs.Laws.Errors.{same_error}
use Rattle.read_items.specs.Laws.Context.{entry_fits}
use Rattle.read_items.specs.Laws.Over.{fits_still, index_keeps_payload}
use Rattle.read_items.proofs.items.Items.string.Goals as goal

pub invariant_of-self : goal.invariant_of-self
invariant_of-self c = record { pool_fits = fits_still c.args.self.now.pool.now (index_keeps_payload c.read_index.ensures) c.args.self.now.pool_fits }

pub returns-in_err-k : goal.returns-in_err-k
returns-in_err-k c = rw (same_error c.from_residual.result _ c.from_residual.ensures.1) (record { same_pool = refl; moves = record { is = c.in_err-k.ensures.is; inside = tt } })

pub returns : goal.returns
returns c =
    let s = c.args.self.now in
    record {
      same_pool = refl;
      moves = record { is = c.in_ok-k.ensures.is; inside = entry_fits s.cursor.payload.now s.pool.now _ s.pool_fits c.in_ok-k.ensures.inside };
    }

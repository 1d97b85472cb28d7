-- `string` is safe: a string of the table lies in the payload.
use native.Mathlib.Omega.{arith}
use Rattle.read_items.specs.Laws.Context.{entry_fits}
use Rattle.deserialize.proofs.hints.Strings.string.Goals as goal

pub slice_bounds-result-end : goal.slice_bounds-result-end
slice_bounds-result-end c =
    let strings = c.args.self.now in
    let h = entry_fits strings.bytes.now strings.pool.now c.args.k strings.fits c.requires in
    omega arith

-- `write_row` meets its contract: the words before the row's place, the row's five, and those after them.
use Rattle.std.specs.Prelude.{[], ◌∷◌, ◌≡◌, ◌+◌, ◌-◌, ◌*◌}
use Rattle.std.proofs.Common.{arith, drop-drop}
use Rattle.slices.specs.Laws.Put.{put_parts}
use Rattle.read_values.proofs.rows.write_row.Goals as goal

pub returns : goal.returns
returns c =
    let used = c.args.used in
    let n : 5 * used + 5 - 5 * used ≡ 5 = omega arith in
    rw (n, c.copy_from_slice.ensures.after, put_parts c.args.rows.now (5 * used) (c.args.tag ∷ c.args.head.a ∷ c.args.head.b ∷ c.args.head.c ∷ c.args.head.d ∷ []) c.requires.0, drop-drop)

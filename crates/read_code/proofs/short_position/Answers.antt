-- `short_position` meets its contract: a byte below 128 is a varint.
use Rattle.std.proofs.Common.{◌≡◌, to_z, of_z, rules, ◌∙◌}
use Rattle.std.specs.Int.{w64}
use Rattle.read_items.specs.Laws.Positions.{reads_position}
use Rattle.read_code.proofs.Short.{reads_one}
use Rattle.read_code.proofs.short_position.Goals as goal

pub returns : goal.returns
returns c =
    let old : to_z w64 (of_z w64 c.args.old) ≡ c.args.old = search rules in
    let delta : to_z w64 (of_z w64 c.unzigzag-delta.result) ≡ c.unzigzag-delta.result = search rules in
    rw (c.ok_or.ensures.value, c.at.ensures)
    (reads_position _ old (delta ∙ c.unzigzag-delta.ensures) c.add_delta.ensures (rw (← c.from.ensures) at (reads_one c.args.payload.now c.args.at c.requires.0 c.requires.1)))

-- `put_spaces` meets its contract: the bytes before the spaces, the spaces, and the bytes after them.
use Rattle.std.proofs.Common.{◌≡◌, ◌∙◌, ◌+◌, ◌-◌, length, take, drop, replicate, refl, arith, rules, drop-drop, length-drop, length-take-le}
use Rattle.std.proofs.lemmas.List.{length-replicate}
use Rattle.slices.specs.Laws.Put.{put_parts}
use Rattle.listing.specs.Puts.{Puts}
use Rattle.listing.specs.Laws.Puts.{puts_length}
use Rattle.listing.proofs.Text.put_spaces.Goals as goal

pub returns : goal.returns
returns c =
    let at = c.args.self.now.end in
    let out = c.args.self.now.out.now in
    let n = c.args.count in
    let e : at + n - at ≡ n = omega arith in
    let some : length (take n (drop at out)) ≡ n = length-take-le n (drop at out) (simp length-drop (omega arith)) in
    let filled : c.fill.new.self ≡ replicate n 32 = c.fill.ensures.after (search rules) ∙ rw (e, some) in
    let puts : Puts out at (replicate n 32) (at + n) _ = record {
      end_is = rw length-replicate;
      out_is = rw (e, filled, put_parts out at (replicate n 32) (rw length-replicate c.requires), length-replicate, drop-drop);
    } in
    record { puts = puts; long = puts_length puts; same_reference = refl }

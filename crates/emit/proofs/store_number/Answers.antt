-- `store_number` meets its contract: what is left to store, from where the next byte goes.
use mathlib.Core.Path.{◌≡◌, refl, sym, ap, ◌∙◌}
use Prim.Native.Nat.{◌+◌, ◌-◌, ◌/◌, ◌%◌}
use native.Mathlib.Omega.{arith}
use lib.ListN.{length-set}
use Rattle.slices.specs.LittleEndian.{to_le_bytes}
use Rattle.slices.specs.Put.{put}
use Rattle.slices.specs.Laws.Put.{put_none, put_cons}
use Rattle.emit.specs.Laws.Bytes.{le_some, le_none}
use Rattle.emit.proofs.store_number.Goals as goal

pub loop-i-init : goal.loop-i-init
loop-i-init c =
    let e : c.args.n - 0 ≡ c.args.n = omega arith in
    let f : c.args.at + 0 ≡ c.args.at = omega arith in
    (refl, rw (e, f) refl)

pub loop-i-preserved : goal.loop-i-preserved
loop-i-preserved c =
    let loop = c.loop-i in
    let n = c.args.n in
    let at = c.args.at in
    let i = loop.i in
    let e : at + (i + 1) ≡ at + i + 1 = omega arith in (
      simp length-set loop.invariant.0,
      rw e (put_cons loop.out (at + i) (loop.rest % 256) (to_le_bytes (n - (i + 1)) (loop.rest / 256)))
          ∙ ap (put loop.out (at + i)) (sym (le_some n i loop.rest (omega arith)))
          ∙ loop.invariant.1,
    )

pub returns : goal.returns
returns c =
    let loop = c.loop-i in
    sym (put_none _ _) ∙ ap (put loop.out (c.args.at + loop.i)) (sym (le_none c.args.n loop.i loop.rest (omega arith))) ∙ loop.invariant.1

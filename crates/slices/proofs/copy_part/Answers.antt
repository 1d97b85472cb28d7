-- `copy_part` meets its contract: at each turn the first i bytes of s are stored.
use mathlib.Core.Path.{◌≡◌, refl, sym, ap, ◌∙◌}
use mathlib.Core.List.{List}
use Prim.Native.Nat.{ℕ, ◌+◌, ◌<◌}
use native.Mathlib.Numerals.{add-one}
use native.Mathlib.Omega.{arith}
use lib.ListN.{length, get_or, set, take, length-set}
use lib.Seq.{take-suc, take_all, length-take-le}
use Rattle.slices.specs.Put.{put}
use Rattle.slices.specs.Laws.Put.{put_none, put_snoc}
use Rattle.slices.proofs.copy_part.Goals as goal

-- one byte more
copy_more : (xs : List ℕ) (at : ℕ) (s : List ℕ) (i : ℕ) → i < length s → set (put xs at (take i s)) (at + i) (get_or s i 0) ≡ put xs at (take (i + 1) s)
copy_more xs at s i h =
    let n : length (take i s) ≡ i = length-take-le i s (omega arith) in
    rw (add-one i, take-suc s i 0 h) (ap (λ (k : ℕ). set (put xs at (take i s)) (at + k) (get_or s i 0)) (sym n) ∙ put_snoc xs at (take i s) (get_or s i 0))

pub loop-i-init : goal.loop-i-init
loop-i-init c = (omega arith, refl, sym (put_none _ _))

pub loop-i-preserved : goal.loop-i-preserved
loop-i-preserved c =
    let loop = c.loop-i in
    let args = c.args in
    let d = args.out.now in
    let at = args.at in
    let s = args.s.now in
    let i = loop.i in
    let inv = loop.invariant in
    (omega arith, simp length-set inv.1, ap (λ (l : List ℕ). set l (at + i) (get_or s i 0)) inv.2 ∙ copy_more d at s i (omega arith))

pub returns : goal.returns
returns c =
    let args = c.args in
    let d = args.out.now in
    let at = args.at in
    let s = args.s.now in
    c.loop-i.invariant.2 ∙ ap (put d at) (take_all c.loop-i.i s (omega arith))

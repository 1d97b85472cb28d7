-- The two answers, from what the callees ensure.
use Prim.Native.Nat.{ℕ, ◌+◌, ◌-◌, ◌%◌, ◌^◌}
use mathlib.Core.Path.{◌≡◌}
use native.Mathlib.Omega.{arith}
use lib.ListN.{get_or}
use borrow.Author.Rules.{rules}
use Rattle.line_index.specs.LineCol.{line_at, column_at}
use Rattle.line_index.specs.Laws.LineCol.{not_rising, rising}
use Rattle.line_index.proofs.line_col.Goals as goal

pub returns-then-rising-starts : goal.returns-then-rising-starts
returns-then-rising-starts c = rw c.at.ensures (cc (not_rising c.args.starts.now c.args.offset (omega arith)))

pub returns : goal.returns
returns c =
    let s = c.args.starts.now in
    let o : ℕ = c.args.offset % 2 ^ 32 in
    let line : c.max-line.result ≡ line_at s o = omega arith in
    let start : c.unwrap_or-start.result ≡ get_or s (c.max-line.result - 1) 0 = search rules in
    let column : c.from-column.result + 1 ≡ column_at s o = cc in
    cc (rising s c.args.offset (omega arith))

-- `Cursor::take` meets its contract: the bytes, or fewer are left.
use Rattle.std.proofs.Common.{◌≡◌, ◌+◌, ◌-◌, ◌≤◌, length, arith, refl}
use Rattle.cursor.specs.Laws.Advances.{stays}
use Rattle.cursor.specs.Laws.Reads.{reads_body, reads_body_end}
use Rattle.cursor.proofs.Cursor.take.Goals as goal

pub returns-then-self-n-clause-advances : goal.returns-then-self-n-clause-advances
returns-then-self-n-clause-advances c =
    let s = c.args.self.now in
    rw c.at.ensures (stays (reads_body_end s.payload.now s.at c.args.n (omega arith) s.inside))

pub returns-clause-advances : goal.returns-clause-advances
returns-clause-advances c =
    let s = c.args.self.now in
    let h : s.at + c.args.n ≤ length s.payload.now = omega arith in
    let e : s.at + c.args.n - s.at ≡ c.args.n = omega arith in
    rw e (record { payload = refl; reads = reads_body s.payload.now s.at c.args.n h })

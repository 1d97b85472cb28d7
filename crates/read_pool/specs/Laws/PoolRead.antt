-- A pool that stands at a payload's begin.
use Rattle.std.specs.Prelude.{List, ◌≡◌, ℕ}
use Rattle.payload.specs.Reader.{Part, start}
use Rattle.payload.specs.Reading.{read_pool}
use Rattle.cursor.specs.Reads.{Answer, result_of}
use Rattle.cursor.specs.Advances.{Advances}
use Rattle.cursor.specs.declared.Cursor.{Cursor}

pub read_at_begin : {c c' : Cursor} (most : ℕ) {x : Answer (List Part)} → c.at ≡ 0 → Advances c c' (read_pool most) x
    → read_pool most (start c.payload.now) ≡ result_of c.payload.now 0 0 x
read_at_begin most e g = (rw e at g.reads).is 0 0

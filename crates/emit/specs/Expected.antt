-- The payload that is expected, where there is one: then bytes are compared with it, and none is stored.
use Rattle.std.specs.Prelude.{Option, None, Some, List, [], ℕ}
use Rattle.std.specs.Borrow.{Bor}

-- its bytes
abbrev pub bytes_of : Option (Bor (List ℕ)) → List ℕ
bytes_of None = []
bytes_of (Some payload) = payload.now

-- A test as a number is at most 1.
use Rattle.std.proofs.Common.{◌≤◌, Bool, true, false, lit≤}
use mir.Val.{bool_byte}

pub at_most_one : (t : Bool) → bool_byte t ≤ 1
at_most_one false = lit≤ tt
at_most_one true = lit≤ tt

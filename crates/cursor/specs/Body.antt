-- A body of stated length at a place of the payload.
use Rattle.std.specs.Prelude.{cond, List, ℕ, ◌+◌, ◌-◌, leb, length, Result, Ok, Err}
use Rattle.refusal.specs.declared.Reason.TheVariants.{EndInItem}
use Rattle.refusal.specs.declared.Refusal.{Refusal}

-- the refusal of an item that the payload ends in
abbrev pub ends_at : ℕ → Refusal
ends_at at = record { reason = EndInItem; place = at }

-- its first byte and the place after it, or the refusal where too few bytes are left
unfoldable pub body_of : List ℕ → ℕ → ℕ → Result (ℕ × ℕ) Refusal
body_of p at n = cond (leb at (length p)) (cond (leb n (length p - at)) (Ok (at, at + n)) (Err (ends_at at))) (Err (ends_at at))

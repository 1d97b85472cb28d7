-- Which byte can stand after which in text whose characters have one or two bytes.
use Rattle.std.specs.Prelude.{◌≡◌, Bool, true, cond, not, ◌&&◌, ◌||◌, List, ℕ, ◌+◌, ◌≤◌, ◌<◌, leb, get_or}
use Rattle.utf8.specs.Utf8.{within, is_one, is_two}

-- a is the first byte of a UTF8-2
abbrev pub begins_two : ℕ → Bool
begins_two a = within 0xC2 0xDF a

-- a is a UTF8-1 or the first byte of a UTF8-2
unfoldable pub begins_short : ℕ → Bool
begins_short a = is_one a || begins_two a

-- b ends the UTF8-2 that a begins, or begins a character where a begins no UTF8-2
unfoldable pub can_follow : ℕ → ℕ → Bool
can_follow a b = is_two a b || (not (begins_two a) && begins_short b)

-- the byte of s behind index k can stand after the one at k
abbrev pub FollowsAt : List ℕ → ℕ → Type 0
FollowsAt s k = can_follow (get_or s k 0) (get_or s (k + 1) 0) ≡ true

-- every byte of s behind index i, up to j, can stand after the one before it
abbrev pub Follows : List ℕ → ℕ → ℕ → Type 0
Follows s i j = (k : ℕ) → i ≤ k → k < j → FollowsAt s k

-- where the last whole character ends, of those up to index i: behind i, or at i where that is the first byte of a UTF8-2
abbrev pub whole_end : List ℕ → ℕ → ℕ
whole_end s i = cond (leb (get_or s i 0) 0xBF) (i + 1) i

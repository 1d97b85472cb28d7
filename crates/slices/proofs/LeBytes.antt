-- What std reads from an array of bytes, the lowest first, is what `from_le_bytes` says.
use Rattle.std.proofs.Common.{◌≡◌, refl, sym, ap, ◌∙◌, ℕ, zero, suc, ◌+◌, ◌-◌, ◌*◌, ◌^◌, ◌<◌, List, length, take, drop, get_or, arith, mul_comm, take_all}
use Rattle.std.specs.Int.{Width, byte_len, byte_worth, sum_through, from_le_bytes as std_from_le_bytes}
use Rattle.slices.specs.LittleEndian.{from_le_bytes}
use Rattle.slices.specs.Laws.LittleEndian.{from_le_bytes_part, bytes_first}

one_byte : (s : List ℕ) (i : ℕ) → i < length s → from_le_bytes (take 1 (drop i s)) ≡ get_or s i 0
unfolding from_le_bytes
one_byte s i h = omega (arith, bytes_first s i (i + 1) 0 h refl)

-- the first n + 1 bytes
by_index : (s : List ℕ) (n : ℕ) → n < length s → sum_through (λ i. byte_worth i (get_or s i 0)) n ≡ from_le_bytes (take (suc n) s)
by_index s zero h = omega (arith, one_byte s 0 h)
by_index s (suc n) h =
    let p : 256 ^ suc n * from_le_bytes (take 1 (drop (suc n) s)) ≡ get_or s (suc n) 0 * 256 ^ suc n =
    ap (λ (b : ℕ). 256 ^ suc n * b) (one_byte s (suc n) h) ∙ mul_comm (256 ^ suc n) (get_or s (suc n) 0) in
    let q : suc n + 1 ≡ suc (suc n) = omega arith in
    let z : 0 + suc n ≡ suc n = omega arith in
    let r = rw (q, z, p) at (from_le_bytes_part s 0 (suc n) 1 (omega arith)) in
    ap (λ (x : ℕ). x + get_or s (suc n) 0 * 256 ^ suc n) (by_index s n (omega arith)) ∙ sym r

pub whole : (w : Width) (n : ℕ) (s : List ℕ) → byte_len w - 1 ≡ n → length s ≡ suc n → std_from_le_bytes w s ≡ from_le_bytes s
whole w n s e h = rw e (by_index s n (omega arith) ∙ ap from_le_bytes (take_all (suc n) s (omega arith)))

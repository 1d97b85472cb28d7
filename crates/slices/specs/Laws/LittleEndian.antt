-- Laws of `from_le_bytes` and `to_le_bytes`.
use Rattle.std.specs.Prelude.{◌≡◌, refl, List, [], ◌∷◌, ◌++◌, ℕ, zero, suc, ◌+◌, ◌*◌, ◌/◌, ◌%◌, ◌^◌, ◌≤◌, ◌<◌, length, get_or, take, drop}
use Rattle.std.proofs.Common.{ap, ◌∙◌, pow-suc, mul_comm, mul_assoc, mod-eq_of_lt, add-one, arith, length-drop, drop-cons, get_or-drop, take-add, drop-drop, length-take-le}
use Rattle.std.proofs.Math.Arith.{mod-mul}
use Rattle.slices.specs.LittleEndian.{from_le_bytes, to_le_bytes}

-- every element is a byte
abbrev pub Bytes : List ℕ → Type 0
Bytes s = (k : ℕ) → get_or s k 0 < 256

take_bytes : (n : ℕ) (s : List ℕ) → Bytes s → Bytes (take n s)
take_bytes zero s h k = omega arith
take_bytes (suc n) [] h k = omega arith
take_bytes (suc n) (b ∷ s) h zero = h 0
take_bytes (suc n) (b ∷ s) h (suc k) = take_bytes n s (λ j. h (suc j)) k

pub part_bytes : (s : List ℕ) (i n : ℕ) → Bytes s → Bytes (take n (drop i s))
part_bytes s i n h = take_bytes n (drop i s) (λ k. rw (get_or-drop i s k 0) (h (i + k)))

pow_pos : (n : ℕ) → 0 < 256 ^ n
pow_pos zero = omega arith
pow_pos (suc n) = omega (arith, pow-suc 256 n, pow_pos n)

pub length_to_le_bytes : (n w : ℕ) → length (to_le_bytes n w) ≡ n
unfolding to_le_bytes
length_to_le_bytes zero w = refl
length_to_le_bytes (suc n) w = ap suc (length_to_le_bytes n (w / 256))

pub to_le_bytes_bytes : (n w k : ℕ) → get_or (to_le_bytes n w) k 0 < 256
unfolding to_le_bytes
to_le_bytes_bytes zero w k = omega arith
to_le_bytes_bytes (suc n) w zero = omega arith
to_le_bytes_bytes (suc n) w (suc k) = to_le_bytes_bytes n (w / 256) k

-- n bytes hold a number's remainder by 256 ^ n
pub from_le_bytes_to_le_bytes_mod : (n w : ℕ) → from_le_bytes (to_le_bytes n w) ≡ w % 256 ^ n
unfolding from_le_bytes to_le_bytes
from_le_bytes_to_le_bytes_mod zero w = omega arith
from_le_bytes_to_le_bytes_mod (suc n) w =
    let byte : 0 < 256 = omega arith in
    omega (arith, from_le_bytes_to_le_bytes_mod n (w / 256), mod-mul w (pow_pos n) byte, ap (λ (p : ℕ). w % p) (pow-suc 256 n))

pub from_le_bytes_to_le_bytes : (n w : ℕ) → w < 256 ^ n → from_le_bytes (to_le_bytes n w) ≡ w
from_le_bytes_to_le_bytes n w h = from_le_bytes_to_le_bytes_mod n w ∙ mod-eq_of_lt h

pub to_le_bytes_from_le_bytes : (s : List ℕ) → Bytes s → to_le_bytes (length s) (from_le_bytes s) ≡ s
unfolding from_le_bytes to_le_bytes
to_le_bytes_from_le_bytes [] h = refl
to_le_bytes_from_le_bytes (b ∷ s) h =
    let small : b < 256 = h 0 in
    let low : (b + 256 * from_le_bytes s) % 256 ≡ b = omega arith in
    let high : (b + 256 * from_le_bytes s) / 256 ≡ from_le_bytes s = omega arith in
    rw (low, high, to_le_bytes_from_le_bytes s (λ k. h (suc k)))

pub from_le_bytes_lt : (s : List ℕ) → Bytes s → from_le_bytes s < 256 ^ length s
unfolding from_le_bytes
from_le_bytes_lt [] h = omega arith
from_le_bytes_lt (b ∷ s) h = omega (arith, h 0, from_le_bytes_lt s (λ k. h (suc k)), pow-suc 256 (length s))

pub from_le_bytes_injective : (s t : List ℕ) → length s ≡ length t → Bytes s → Bytes t → from_le_bytes s ≡ from_le_bytes t → s ≡ t
from_le_bytes_injective s t l h k e =
    let p = to_le_bytes_from_le_bytes s h in
    let q = to_le_bytes_from_le_bytes t k in
    cc

-- one string after another
pub from_le_bytes_append : (s t : List ℕ) → from_le_bytes (s ++ t) ≡ from_le_bytes s + 256 ^ length s * from_le_bytes t
unfolding from_le_bytes
from_le_bytes_append [] t = omega arith
from_le_bytes_append (b ∷ s) t =
    let p : 256 ^ suc (length s) * from_le_bytes t ≡ 256 * (256 ^ length s * from_le_bytes t) =
    ap (λ (x : ℕ). x * from_le_bytes t) (pow-suc 256 (length s) ∙ mul_comm (256 ^ length s) 256) ∙ mul_assoc 256 (256 ^ length s) (from_le_bytes t) in
    omega (arith, from_le_bytes_append s t, p)

-- m bytes of those from i on, and n more
pub from_le_bytes_part : (s : List ℕ) (i m n : ℕ) → i + m ≤ length s
    → from_le_bytes (take (m + n) (drop i s)) ≡ from_le_bytes (take m (drop i s)) + 256 ^ m * from_le_bytes (take n (drop (i + m) s))
from_le_bytes_part s i m n h =
    ap from_le_bytes (take-add m n (drop i s) ∙ ap (λ (l : List ℕ). take m (drop i s) ++ take n l) (drop-drop m i s))
    ∙ from_le_bytes_append (take m (drop i s)) (take n (drop (i + m) s))
    ∙ ap (λ (k : ℕ). from_le_bytes (take m (drop i s)) + 256 ^ k * from_le_bytes (take n (drop (i + m) s))) (length-take-le m (drop i s) (simp length-drop (omega arith)))

-- the lowest byte of those from i on, and the rest
pub bytes_first : (s : List ℕ) (i j n : ℕ) → i < length s → j ≡ i + 1 → from_le_bytes (take (suc n) (drop i s)) ≡ get_or s i 0 + 256 * from_le_bytes (take n (drop j s))
unfolding from_le_bytes
bytes_first s i j n h e = rw (e, add-one, drop-cons s i 0 h)

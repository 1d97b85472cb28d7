-- `number_of` meets its contract: zeros behind the bytes make no difference, and each byte is below 256.
use Rattle.std.specs.Prelude.{List, [], ◌∷◌, ◌++◌, ◌≡◌, refl, ℕ, zero, suc, ◌≤◌, drop, length, replicate, take}
use Rattle.std.proofs.Common.{arith, ap, ◌∙◌, length-append, length-drop}
use Rattle.std.proofs.lemmas.List.{take_all}
use Rattle.slices.specs.LittleEndian.{from_le_bytes}
use Rattle.slices.specs.Laws.LittleEndian.{Bytes, from_le_bytes_lt}
use Rattle.read_items.proofs.numbers.number_of.Goals as goal

---- bytes with zeros behind them are the same number

zeros_left : (n k : ℕ) → from_le_bytes (drop n (replicate k 0)) ≡ 0
unfolding from_le_bytes
zeros_left zero zero = refl
zeros_left (suc n) zero = refl
zeros_left zero (suc k) = let h = zeros_left zero k in omega arith
zeros_left (suc n) (suc k) = zeros_left n k

in_front : (b z : List ℕ) → from_le_bytes z ≡ 0 → from_le_bytes (b ++ z) ≡ from_le_bytes b
unfolding from_le_bytes
in_front [] z h = h
in_front (x ∷ b) z h = let e = in_front b z h in omega arith

padded : (b : List ℕ) (n : ℕ) → length b ≡ n → n ≤ 8 → from_le_bytes (take 8 (b ++ drop n (replicate 8 0))) ≡ from_le_bytes b
padded b n e h =
    let short : length (b ++ drop n (replicate 8 0)) ≤ 8 = omega (arith, length-append b (drop n (replicate 8 0)), length-drop {A = ℕ} n (replicate 8 0)) in
    ap from_le_bytes (take_all 8 _ short) ∙ in_front b _ (zeros_left n 8)

pub returns-clause-is : goal.returns-clause-is
returns-clause-is g c =
    c.word.ensures ∙ ap (λ (b : List ℕ). from_le_bytes (take 8 (b ++ drop g.row.N (replicate 8 0)))) c.copy_from_slice.ensures.after ∙ padded _ g.row.N c.requires.0 c.requires.1

pub returns-clause-small : goal.returns-clause-small
returns-clause-small g c =
    let bytes : Bytes c.args.bytes.now = λ k. omega (arith, c.type_inv.bytes k) in
    rw (returns-clause-is g c, ← c.requires.0) (from_le_bytes_lt c.args.bytes.now bytes)

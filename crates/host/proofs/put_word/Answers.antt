-- `put_word` meets its contract: the library's bytes of a number, the lowest first, are those of the definition.
use Rattle.std.specs.Int.{byte_at, bytes_low_first}
use Rattle.std.proofs.Common.{◌≡◌, ℕ, zero, suc, ◌/◌, ◌%◌, ◌^◌, ◌∷◌, ap, ap₂, sym, ◌∙◌, arith, pow-suc, refl, zero-add}
use Rattle.std.proofs.Math.Nat.{div-div-eq-div-mul, div-one}
use Rattle.slices.specs.Laws.LittleEndian.{length_to_le_bytes}
use Rattle.slices.specs.Laws.Put.{put_parts}
use Rattle.slices.specs.LittleEndian.{to_le_bytes}
use Rattle.host.proofs.put_word.Goals as goal

byte : (i n : ℕ) → byte_at i n ≡ n / 256 ^ i % 256
byte zero n = omega arith
byte (suc i) n = refl

bytes : (i k n : ℕ) → bytes_low_first i k n ≡ to_le_bytes k (n / 256 ^ i)
unfolding to_le_bytes
bytes i zero n = refl
bytes i (suc k) n =
    let next : n / 256 ^ i / 256 ≡ n / 256 ^ suc i = div-div-eq-div-mul n (256 ^ i) 256 ∙ ap (λ (p : ℕ). n / p) (sym (pow-suc 256 i)) in
    ap₂ ◌∷◌ (byte i n) (bytes (suc i) k n ∙ ap (to_le_bytes k) (sym next))

pub returns : goal.returns
returns c =
    let out = c.args.out.now in
    let word = to_le_bytes 8 c.args.n in
    let e : c.copy_from_slice.new.self ≡ word = c.copy_from_slice.ensures.after ∙ c.to_le_bytes.ensures ∙ bytes 0 8 c.args.n ∙ ap (to_le_bytes 8) (div-one c.args.n) in
    rw (e, put_parts out 0 word (omega (arith, length_to_le_bytes 8 c.args.n)), zero-add, length_to_le_bytes)

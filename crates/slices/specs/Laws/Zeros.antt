-- Laws of `zeros`, `same_from`, `zero_from` and `pad_to`.
use Rattle.std.specs.Prelude.{◌≡◌, refl, List, [], ℕ, ◌+◌, ◌-◌, ◌≤◌, ◌<◌, length, set, take, replicate}
use Rattle.std.proofs.Common.{sym, ap, ◌∙◌, append-nil, ⊎_elim, eq-zero-or-pos, arith, length-append, length-take, drop_of_length-le, take_all}
use Rattle.std.proofs.lemmas.List.{length-replicate}
use Rattle.slices.specs.Put.{put}
use Rattle.slices.specs.Zeros.{zeros, same_from, zero_from, pad_to}
use Rattle.slices.specs.Laws.Put.{put_parts, put_none, length_put, run_put, fill_one}

-- from index 0 on
pub zero_from_zero : (l : List ℕ) → zero_from 0 l ≡ zeros (length l)
zero_from_zero l = let e : length l - 0 ≡ length l = omega arith in rw e

-- from the end on, or past it
pub zero_from_past : (n : ℕ) (l : List ℕ) → length l ≤ n → zero_from n l ≡ l
zero_from_past n l h = let e : length l - n ≡ 0 = omega arith in rw (e, take_all n l h, append-nil)

pub length_zero_from : (n : ℕ) (l : List ℕ) → length (zero_from n l) ≡ length l
length_zero_from n l = simp (length-append, length-take, length-replicate) (omega arith)

pub length_pad_to : (words : ℕ) (used : List ℕ) → length used ≤ words → length (pad_to words used) ≡ words
length_pad_to words used h = simp (length-append, length-replicate) (omega arith)

pub pad_to_nil : (words : ℕ) → pad_to words [] ≡ zeros words
pad_to_nil words = let e : words - 0 ≡ words = omega arith in rw e

-- a table whose first words are `used`, with the others set to 0
pub zero_from_pad_to : (l used : List ℕ) (n words : ℕ) → n ≡ length used → take n l ≡ used → length l ≡ words → zero_from n l ≡ pad_to words used
zero_from_pad_to l used n words e f g = cc

-- the same where `used` was stored at the front
pub zero_from_put : (l used : List ℕ) → length used ≤ length l → zero_from (length used) (put l 0 used) ≡ pad_to (length l) used
zero_from_put l used h = zero_from_pad_to (put l 0 used) used (length used) (length l) refl (run_put l 0 used (omega arith)) (length_put l 0 used)

-- one element as a run, for a fill that stores it at one index at a time
module _ {A : Type 0} (a : A) where
  pub put_same : (n : ℕ) (l : List A) → put l n (replicate (length l - n) a) ≡ same_from a n l
  put_same n l = ⊎_elim past inside (eq-zero-or-pos (length l - n))
    where
      past : length l - n ≡ 0 → put l n (replicate (length l - n) a) ≡ same_from a n l
      past e = rw (e, take_all n l (omega arith), append-nil) (put_none l n)

      inside : 0 < length l - n → put l n (replicate (length l - n) a) ≡ same_from a n l
      inside h =
          let e : length (replicate (length l - n) a) ≡ length l - n = length-replicate (length l - n) a in
          put_parts l n (replicate (length l - n) a) (omega arith)
          ∙ rw (drop_of_length-le l {i = n + length (replicate (length l - n) a)} (omega arith), append-nil)

  pub same_more : (l : List A) (n i : ℕ) → n ≤ i → set (put l n (replicate (i - n) a)) i a ≡ put l n (replicate (i + 1 - n) a)
  same_more l n i h =
      let e : n + (i - n) ≡ i = omega arith in
      let f : i - n + 1 ≡ i + 1 - n = omega arith in
      ap (λ (k : ℕ). set (put l n (replicate (i - n) a)) k a) (sym e) ∙ fill_one l n (i - n) a ∙ ap (λ (k : ℕ). put l n (replicate k a)) f

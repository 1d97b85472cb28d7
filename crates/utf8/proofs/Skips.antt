-- How `Skips` is made and joined.
use mathlib.Core.Path.{◌≡◌, refl, sym, ap, subst, ◌∙◌}
use mathlib.Core.Bool.{Bool, true, false, cond}
use mathlib.Core.List.{List}
use Prim.Native.Nat.{ℕ, zero, suc, ◌+◌, ◌-◌, ◌≤◌, ◌<◌}
use native.Mathlib.Omega.{arith}
use lib.Bits.{bit_and}
use lib.Dec.{leb}
use lib.ListN.{length, get_or, take, drop}
use Rattle.std.specs.Prelude.{Option, None, Some}
use Rattle.std.proofs.lemmas.List.{get_or-take, get_or-drop, take-take}
use Rattle.utf8.specs.Utf8.{is_two, is_three, is_four, char_at, some_width, width_at}
use Rattle.utf8.specs.Pairs.{begins_short, Follows, whole_end}
use Rattle.slices.specs.LittleEndian.{from_le_bytes}
use Rattle.slices.specs.Laws.LittleEndian.{Bytes}
use Rattle.utf8.specs.Skips.{Ascii, Skips, high_bits}
use Rattle.utf8.proofs.Ascii.{word_ascii}
use Rattle.utf8.specs.Laws.Utf8.{utf8_ascii, utf8_run, utf8_two, utf8_three, utf8_four, utf8_step, char_fits}
use Rattle.utf8.specs.Laws.Pairs.{utf8_pairs}

pub skips_on : {s : List ℕ} {h i j : ℕ} → Skips s h i → Skips s i j → Skips s h j
skips_on p q = record { up = omega arith; inside = q.inside; same = p.same ∙ q.same }

width_some : (n w : ℕ) → some_width n ≡ Some w → (n ≡ w) × (1 ≤ w)
unfolding some_width
width_some zero w e = cc
width_some (suc n) w e = let q : suc n ≡ w = cc in (q, omega arith)

pub no_width : (n : ℕ) → some_width n ≡ None → n ≡ 0
unfolding some_width
no_width zero e = refl
no_width (suc n) e = cc

end_near : (t : Bool) (j : ℕ) → (j ≤ cond t (j + 1) j) × (cond t (j + 1) j ≤ j + 1)
end_near true j = (omega arith, omega arith)
end_near false j = (omega arith, omega arith)

module _ (s : List ℕ) (i : ℕ) where
  pub skips_none : i ≤ length s → Skips s i i
  skips_none h = record { up = omega arith; inside = h; same = refl }

  pub skips_one : i < length s → get_or s i 0 < 0x80 → Skips s i (i + 1)
  skips_one h l = record { up = omega arith; inside = omega arith; same = utf8_ascii s i h l }

  pub skips_ascii : (j : ℕ) → i ≤ j → j ≤ length s → Ascii s i j → Skips s i j
  skips_ascii j a b r = record { up = a; inside = b; same = utf8_run s i j a b r }

  pub skips_char : (w : ℕ) → i < length s → char_at s i ≡ w → (w ≡ 0 → ⊥) → Skips s i (i + w)
  skips_char w h e n = record { up = omega arith; inside = omega (arith, char_fits s i h); same = utf8_step s i h w e n }

  -- a character whose width is some
  pub skips_width : (w : ℕ) → i < length s → {r : Option ℕ} → r ≡ width_at s i → r ≡ Some w → (1 ≤ w) × Skips s i (i + w)
  skips_width w h e m = let p = width_some _ w (sym e ∙ m) in (p.1, skips_char w h p.0 (λ z. omega arith))

  pub skips_pairs : (j : ℕ) → i ≤ j → j < length s → begins_short (get_or s i 0) ≡ true → Follows s i j → Skips s i (whole_end s j)
  skips_pairs j a h b f =
      let n = end_near (leb (get_or s j 0) 0xBF) j in
      record { up = omega arith; inside = omega arith; same = utf8_pairs s i b j a h f }

-- t is a part of s from index i on
module _ (s t : List ℕ) (i : ℕ) where
  part_at : (n k j : ℕ) → t ≡ take n (drop i s) → k < n → i + k ≡ j → get_or t k 0 ≡ get_or s j 0
  part_at n k j e h l = rw e (get_or-take n (drop i s) k 0 h ∙ get_or-drop i s k 0 ∙ ap (λ (m : ℕ). get_or s m 0) l)

  pub part_ascii : (n : ℕ) → t ≡ take n (drop i s) → i + n ≤ length s → Ascii t 0 n → Skips s i (i + n)
  part_ascii n e h r =
      skips_ascii s i (i + n) (omega arith) h
      (λ k p q. subst (λ (b : ℕ). b < 0x80) (part_at n (k - i) k e (omega arith) (omega arith)) (r (k - i) (omega arith) (omega arith)))

  pub part_word : Bytes s → t ≡ take 8 (drop i s) → i + 8 ≤ length s → high_bits t 0 ≡ 0 → Skips s i (i + 8)
  part_word small e h z =
      let q : take 8 t ≡ take 8 (drop i s) = rw e (take-take 8 8 (drop i s) (omega arith)) in
      let bits = ap (λ (l : List ℕ). bit_and (from_le_bytes l) 0x8080_8080_8080_8080) q in
      skips_ascii s i (i + 8) (omega arith) h (word_ascii s i h small (cc))

  pub part_two : t ≡ take 2 (drop i s) → i + 2 ≤ length s → is_two (get_or t 0 0) (get_or t 1 0) ≡ true → Skips s i (i + 2)
  part_two e h two =
      let a = part_at 2 0 i e (omega arith) (omega arith) in
      let b = part_at 2 1 (i + 1) e (omega arith) refl in
      record { up = omega arith; inside = h; same = utf8_two s i (omega arith) (cc) }

  pub part_three : t ≡ take 3 (drop i s) → i + 3 ≤ length s → is_three (get_or t 0 0) (get_or t 1 0) (get_or t 2 0) ≡ true → Skips s i (i + 3)
  part_three e h three =
      let a = part_at 3 0 i e (omega arith) (omega arith) in
      let b = part_at 3 1 (i + 1) e (omega arith) refl in
      let c = part_at 3 2 (i + 2) e (omega arith) refl in
      record { up = omega arith; inside = h; same = utf8_three s i (omega arith) (cc) }

  pub part_four : t ≡ take 4 (drop i s) → i + 4 ≤ length s → is_four (get_or t 0 0) (get_or t 1 0) (get_or t 2 0) (get_or t 3 0) ≡ true → Skips s i (i + 4)
  part_four e h four =
      let a = part_at 4 0 i e (omega arith) (omega arith) in
      let b = part_at 4 1 (i + 1) e (omega arith) refl in
      let c = part_at 4 2 (i + 2) e (omega arith) refl in
      let d = part_at 4 3 (i + 3) e (omega arith) refl in
      record { up = omega arith; inside = h; same = utf8_four s i (omega arith) (cc) }

-- The test `is_utf8` passes exactly the bytes that the grammar `Utf8` makes: `complete` and `sound`.
use Rattle.std.specs.Prelude.{◌≡◌, refl, Bool, true, false, cond, ◌&&◌, List, [], ◌∷◌, ◌++◌, ℕ, zero, suc, ◌≤◌, ◌<◌, leb, length, get_or, take, drop}
use Rattle.std.proofs.Common.{sym, ◌∙◌, subst, ⊎_elim, true≢false, arith, take-append-drop, length-drop, le-leb, leb-true}
use Rattle.std.proofs.Math.Bool.{and-eq-true_iff}
use Rattle.utf8.specs.Utf8.{In, Tail, Char, one, two, three_E0, three_E1, three_ED, three_EE, four_F0, four_F1, four_F4}
use Rattle.utf8.specs.Utf8.{Utf8, none, more, within, is_tail, is_three, is_four, char_of, char_at, passes, is_utf8}
use Rattle.utf8.specs.Laws.Utf8 as laws

-- ranges and their tests
test : {lo hi b : ℕ} → In lo hi b → within lo hi b ≡ true
test {lo} {hi} {b} h = simp (le-leb lo b h.low, le-leb b hi h.high)

both : (s t : Bool) → s ≡ true → t ≡ true → s && t ≡ true
both s t p q = simp (p, q)

range : (lo hi b : ℕ) → within lo hi b ≡ true → In lo hi b
range lo hi b e = let p = (and-eq-true_iff (leb lo b) (leb b hi)).0 e in record { low = leb-true lo b p.0; high = leb-true b hi p.1 }

second_third : (lo hi b c : ℕ) → within lo hi b && is_tail c ≡ true → In lo hi b × Tail c
second_third lo hi b c e = let p = (and-eq-true_iff (within lo hi b) (is_tail c)).0 e in (range lo hi b p.0, range _ _ c p.1)

second_to_fourth : (lo hi b c d : ℕ) → within lo hi b && is_tail c && is_tail d ≡ true → In lo hi b × Tail c × Tail d
second_to_fourth lo hi b c d e =
    let p = (and-eq-true_iff (within lo hi b && is_tail c) (is_tail d)).0 e in
    let q = second_third lo hi b c p.0 in
    (q.0, q.1, range _ _ d p.1)

-- a character is passed, whatever follows
module _ (r : List ℕ) where
  pass_three : (a b c : ℕ) → 0xE0 ≤ a → a < 0xF0 → is_three a b c ≡ true → is_utf8 (a ∷ b ∷ c ∷ r) ≡ is_utf8 r
  pass_three a b c h l t = laws.head_step _ 2 (omega arith) (laws.char_three _ _ _ _ h l true t)

  pass_four : (a b c d : ℕ) → 0xF0 ≤ a → is_four a b c d ≡ true → is_utf8 (a ∷ b ∷ c ∷ d ∷ r) ≡ is_utf8 r
  pass_four a b c d h t = laws.head_step _ 3 (omega arith) (laws.char_four _ _ _ _ h true t)

  -- the three-byte characters whose second byte is any tail
  pass_rest : (a b c : ℕ) → 0xE0 < a → a ≤ 0xEF → (a ≡ 0xED → ⊥) → Tail b → Tail c → is_utf8 (a ∷ b ∷ c ∷ r) ≡ is_utf8 r
  pass_rest a b c h l n t u =
      pass_three a b c (omega arith) (omega arith) (sym (laws.three_rest a b c 0 (omega arith) l (λ e. omega arith) n) ∙ both _ _ (test t) (test u))

  pass : {c : List ℕ} → Char c → is_utf8 (c ++ r) ≡ is_utf8 r
  pass (one h) = laws.head_step _ 0 (omega arith) (laws.char_one _ _ _ _ (omega arith))
  pass (two h t) = laws.head_step _ 1 (omega arith) (laws.char_two _ _ _ _ (omega arith) (omega arith) true (test t))
  pass (three_E0 h t) = pass_three _ _ _ (omega arith) (omega arith) (sym (laws.three_E0 _ _ _ 0 refl) ∙ both _ _ (test h) (test t))
  pass (three_E1 h t u) = pass_rest _ _ _ (omega arith) (omega arith) (λ e. omega arith) t u
  pass (three_ED h t) = pass_three _ _ _ (omega arith) (omega arith) (sym (laws.three_ED _ _ _ 0 refl) ∙ both _ _ (test h) (test t))
  pass (three_EE h t u) = pass_rest _ _ _ (omega arith) (omega arith) (λ e. omega arith) t u
  pass (four_F0 h t u) = pass_four _ _ _ _ (omega arith) (sym (laws.four_F0 _ _ _ _ refl) ∙ both _ _ (both _ _ (test h) (test t)) (test u))
  pass (four_F1 h t u v) =
      pass_four _ _ _ _ (omega arith)
      (sym (laws.four_F1 _ _ _ _ (omega arith) (λ e. omega arith) (omega arith)) ∙ both _ _ (both _ _ (test t) (test u)) (test v))
  pass (four_F4 h t u) = pass_four _ _ _ _ (omega arith) (sym (laws.four_F4 _ _ _ _ refl) ∙ both _ _ (both _ _ (test h) (test t)) (test u))

pub complete : {l : List ℕ} → Utf8 l → is_utf8 l ≡ true
unfolding passes
complete none = refl
complete (more {r = r} h u) = pass r h ∙ complete u

-- what the tests accept is a character
module _ (a b c : ℕ) where
  three : 0xE0 ≤ a → a < 0xF0 → is_three a b c ≡ true → Char (a ∷ b ∷ c ∷ [])
  three h l t =
      ⊎_elim (λ p. let e : a ≡ 0xE0 = omega arith in
      let u = second_third 0xA0 0xBF b c (laws.three_E0 a b c 0 e ∙ t) in
      subst (λ (n : ℕ). Char (n ∷ b ∷ c ∷ [])) (sym e) (three_E0 u.0 u.1))
      (λ p. ⊎_elim (λ q. let u = second_third 0x80 0xBF b c (laws.three_rest a b c 0 h (omega arith) (λ e. omega arith) (λ e. omega arith) ∙ t) in
      three_E1 (record { low = p; high = q }) u.0 u.1)
      (λ q. ⊎_elim (λ r. let e : a ≡ 0xED = omega arith in
      let u = second_third 0x80 0x9F b c (laws.three_ED a b c 0 e ∙ t) in
      subst (λ (n : ℕ). Char (n ∷ b ∷ c ∷ [])) (sym e) (three_ED u.0 u.1))
      (λ r. let u = second_third 0x80 0xBF b c (laws.three_rest a b c 0 h (omega arith) (λ e. omega arith) (λ e. omega arith) ∙ t) in
      three_EE (record { low = r; high = omega arith }) u.0 u.1)
      (laws.le_or_lt a 0xED))
      (laws.le_or_lt a 0xEC))
      (laws.le_or_lt a 0xE0)

  four : (d : ℕ) → 0xF0 ≤ a → is_four a b c d ≡ true → Char (a ∷ b ∷ c ∷ d ∷ [])
  four d h t =
      ⊎_elim (λ p. let e : a ≡ 0xF0 = omega arith in
      let u = second_to_fourth 0x90 0xBF b c d (laws.four_F0 a b c d e ∙ t) in
      subst (λ (n : ℕ). Char (n ∷ b ∷ c ∷ d ∷ [])) (sym e) (four_F0 u.0 u.1 u.2))
      (λ p. ⊎_elim (λ q. let u = second_to_fourth 0x80 0xBF b c d (laws.four_F1 a b c d h (λ e. omega arith) (omega arith) ∙ t) in
      four_F1 (record { low = p; high = q }) u.0 u.1 u.2)
      (λ q. ⊎_elim (λ r. let e : a ≡ 0xF4 = omega arith in
      let u = second_to_fourth 0x80 0x8F b c d (laws.four_F4 a b c d e ∙ t) in
      subst (λ (n : ℕ). Char (n ∷ b ∷ c ∷ d ∷ [])) (sym e) (four_F4 u.0 u.1 u.2))
      (λ r. absurd (true≢false (sym t ∙ sym (laws.four_none a b c d (omega arith) (λ e. omega arith)))))
      (laws.le_or_lt a 0xF4))
      (laws.le_or_lt a 0xF3))
      (laws.le_or_lt a 0xF0)

yes : (t : Bool) (n m : ℕ) → cond t (suc n) 0 ≡ suc m → (t ≡ true) × (n ≡ m)
yes true n m e = (refl, omega arith)
yes false n m e = absurd (omega arith)

module _ (a b c d w : ℕ) (e : char_of a b c d ≡ suc w) where
  -- which of the four, with its width
  found : Char (take (suc w) (a ∷ b ∷ c ∷ d ∷ []))
  found =
      ⊎_elim (λ p. let z : w ≡ 0 = omega (arith, laws.char_one a b c d (omega arith)) in
      rw z (one {a = a} (record { low = omega arith; high = p })))
      (λ p. ⊎_elim (λ q. absurd (omega (arith, laws.char_none a b c d p (omega arith))))
      (λ q. ⊎_elim (λ r. let y = yes (is_tail b) 1 w (sym (laws.char_two a b c d q (omega arith) (is_tail b) refl) ∙ e) in
      rw (sym y.1) (two (record { low = q; high = r }) (range _ _ b y.0)))
      (λ r. ⊎_elim (λ s. let y = yes (is_three a b c) 2 w (sym (laws.char_three a b c d r (omega arith) (is_three a b c) refl) ∙ e) in
      rw (sym y.1) (three a b c r (omega arith) y.0))
      (λ s. let y = yes (is_four a b c d) 3 w (sym (laws.char_four a b c d s (is_four a b c d) refl) ∙ e) in
      rw (sym y.1) (four a b c d s y.0))
      (laws.le_or_lt a 0xEF))
      (laws.le_or_lt a 0xDF))
      (laws.le_or_lt a 0xC1))
      (laws.le_or_lt a 0x7F)

-- the first bytes of a list by their indices
heads : (w : ℕ) (l : List ℕ) → w ≤ 4 → w ≤ length l → take w l ≡ take w (get_or l 0 0 ∷ get_or l 1 0 ∷ get_or l 2 0 ∷ get_or l 3 0 ∷ [])
heads zero l p q = refl
heads (suc w) [] p q = absurd (omega arith)
heads (suc zero) (a ∷ l) p q = refl
heads (suc (suc w)) (a ∷ []) p q = absurd (omega arith)
heads (suc (suc zero)) (a ∷ b ∷ l) p q = refl
heads (suc (suc (suc w))) (a ∷ b ∷ []) p q = absurd (omega arith)
heads (suc (suc (suc zero))) (a ∷ b ∷ c ∷ l) p q = refl
heads (suc (suc (suc (suc w)))) (a ∷ b ∷ c ∷ []) p q = absurd (omega arith)
heads (suc (suc (suc (suc zero)))) (a ∷ b ∷ c ∷ d ∷ l) p q = refl
heads (suc (suc (suc (suc (suc w))))) (a ∷ b ∷ c ∷ d ∷ l) p q = absurd (omega arith)

abbrev Sound : ℕ → Type 0
Sound n = (l : List ℕ) → length l ≤ n → is_utf8 l ≡ true → Utf8 l

module _ (n a w : ℕ) (r : List ℕ) (h : length (a ∷ r) ≤ suc n) (e : is_utf8 (a ∷ r) ≡ true) (f : char_at (a ∷ r) 0 ≡ suc w) where
  whole : Char (take (suc w) (a ∷ r))
  whole =
      let four : suc w ≤ 4 = omega (arith, laws.le_four a (get_or (a ∷ r) 1 0) (get_or (a ∷ r) 2 0) (get_or (a ∷ r) 3 0)) in
      let fits : suc w ≤ length (a ∷ r) = omega (arith, laws.char_fits (a ∷ r) 0 (omega arith)) in
      subst Char (sym (heads (suc w) (a ∷ r) four fits)) (found _ _ _ _ w f)

  after : Sound n → Utf8 (a ∷ r)
  after again =
      subst Utf8 (take-append-drop (suc w) (a ∷ r))
      (more whole (again (drop w r) (omega (arith, length-drop w r)) (sym (laws.head_step (a ∷ r) w (omega arith) f) ∙ e)))

sound_next : (n : ℕ) → Sound n → Sound (suc n)
sound_next n again [] h e = none
sound_next n again (a ∷ r) h e = by (char_at (a ∷ r) 0) refl
  where
    by : (w : ℕ) → char_at (a ∷ r) 0 ≡ w → Utf8 (a ∷ r)
    by zero f = absurd (true≢false (sym e ∙ laws.head_bad (a ∷ r) (omega arith) f))
    by (suc w) f = after n a w r h e f again

sound_none : Sound 0
sound_none [] h e = none
sound_none (a ∷ r) h e = absurd (omega arith)

sound_to : (n : ℕ) → Sound n
sound_to zero = sound_none
sound_to (suc n) = sound_next n (sound_to n)

pub sound : (l : List ℕ) → is_utf8 l ≡ true → Utf8 l
sound l e = sound_to (length l) l (omega arith) e

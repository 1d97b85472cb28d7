-- The examples of RFC 3629, sections 3, 7 and 10.
use Rattle.std.specs.Prelude.{◌≡◌, refl, true, false, [], ◌∷◌}
use Rattle.utf8.specs.Utf8.{is_utf8, passes, char_of, is_one, is_two, is_three, is_four}

pub record Examples : Type 0 where
  -- section 7
  pub not_identical_to_alpha : is_utf8 (0x41 ∷ 0xE2 ∷ 0x89 ∷ 0xA2 ∷ 0xCE ∷ 0x91 ∷ 0x2E ∷ []) ≡ true
  pub hangugeo : is_utf8 (0xED ∷ 0x95 ∷ 0x9C ∷ 0xEA ∷ 0xB5 ∷ 0xAD ∷ 0xEC ∷ 0x96 ∷ 0xB4 ∷ []) ≡ true
  pub nihongo : is_utf8 (0xE6 ∷ 0x97 ∷ 0xA5 ∷ 0xE6 ∷ 0x9C ∷ 0xAC ∷ 0xE8 ∷ 0xAA ∷ 0x9E ∷ []) ≡ true
  pub stump_of_tree : is_utf8 (0xEF ∷ 0xBB ∷ 0xBF ∷ 0xF0 ∷ 0xA3 ∷ 0x8E ∷ 0xB4 ∷ []) ≡ true
  -- section 3: an overlong NUL, and the same U+233B4 as a pair of surrogates
  pub overlong_nul : is_utf8 (0xC0 ∷ 0x80 ∷ []) ≡ false
  pub surrogates : is_utf8 (0xED ∷ 0xA1 ∷ 0x8C ∷ 0xED ∷ 0xBE ∷ 0xB4 ∷ []) ≡ false
  -- section 10: "/../" with an overlong full stop
  pub overlong_stop : is_utf8 (0x2F ∷ 0xC0 ∷ 0xAE ∷ 0x2E ∷ 0x2F ∷ []) ≡ false

pub examples : Examples
unfolding passes char_of is_one is_two is_three is_four
examples =
    record {
      not_identical_to_alpha = refl;
      hangugeo = refl;
      nihongo = refl;
      stump_of_tree = refl;
      overlong_nul = refl;
      surrogates = refl;
      overlong_stop = refl;
    }

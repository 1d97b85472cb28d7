-- What stands above the base in the words of a pool table is no part of its plain words.
use mathlib.Core.List.{List, [], ◌∷◌}
use mathlib.Core.Path.{◌≡◌, refl, sym, ap, ◌∙◌}
use Prim.Native.Nat.{ℕ, ◌+◌, ◌*◌, ◌%◌}
use native.Mathlib.Nat.{add-mul-mod_self_right, mod-mod}
use lib.ListN.{get_or, set}
use Rattle.std.specs.Prelude.{map}
use Rattle.std.proofs.Math.Seq.{map-set_same}
use Rattle.read_items.specs.Context.{hint_base, plain_words}

pub plain_words-map : (ws : List ℕ) → plain_words ws ≡ map (λ w. w % hint_base) ws
unfolding plain_words
plain_words-map [] = refl
plain_words-map (w ∷ ws) = ap (λ (l : List ℕ). w % hint_base ∷ l) (plain_words-map ws)

-- a word that gets a hint has the plain word that stood there
pub hinted_plain : (ws : List ℕ) (i hint : ℕ) → plain_words (set ws i (get_or ws i 0 % hint_base + hint * hint_base)) ≡ plain_words ws
hinted_plain ws i hint =
    let word = get_or ws i 0 in
    let plain = add-mul-mod_self_right (word % hint_base) hint hint_base ∙ mod-mod word hint_base in
    plain_words-map _ ∙ map-set_same (λ w. w % hint_base) ws i (word % hint_base + hint * hint_base) 0 plain ∙ sym (plain_words-map ws)

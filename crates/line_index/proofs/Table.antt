-- The line starts so far stand in the table, and the others follow from the text's rest; zeros go behind them.
use mathlib.Core.Path.{◌≡◌, refl, sym, ap, ◌∙◌}
use mathlib.Core.List.{List, [], ◌∷◌, ◌++◌, append-nil}
use Prim.Native.Nat.{ℕ, ◌+◌, ◌-◌, ◌≤◌, ◌<◌}
use native.Mathlib.Omega.{arith}
use native.Mathlib.Nat.{not-suc-le-zero}
use native.Mathlib.Numerals.{add-one}
use lib.ListN.{length, get_or, take, drop, set, replicate}
use lib.Seq.{take-suc-set, append_snoc, length-take-le}
use Rattle.std.proofs.Common.{drop_of_length-le, length-drop}
use Rattle.slices.specs.Zeros.{pad_to}
use Rattle.slices.specs.Laws.Zeros.{zero_from_pad_to}
use Rattle.line_index.specs.LineIndex.{after_newlines}
use Rattle.line_index.specs.Laws.LineIndex.{newline}

-- the first start is stored
pub first_start : (table rest : List ℕ) → 0 < length table → 0 ∷ rest ≡ take 1 (set table 0 0) ++ rest
first_start [] rest h = absurd (not-suc-le-zero h)
first_start (a ∷ table) rest h = refl

-- the start after the 0A at i is stored as the one of index n
pub next_start : (all t table : List ℕ) (n i : ℕ) → n < length table → i < length t → get_or t i 0 ≡ 0x0A
    → all ≡ take n table ++ after_newlines i (drop i t) → all ≡ take (n + 1) (set table n (i + 1)) ++ after_newlines (i + 1) (drop (i + 1) t)
next_start all t table n i h l e q =
    q
    ∙ ap (λ (r : List ℕ). take n table ++ r) (newline t i l e)
    ∙ rw (add-one n, take-suc-set table n (i + 1) h) (sym (append_snoc (take n table) (i + 1) (after_newlines (i + 1) (drop (i + 1) t))))

-- zeros are stored from index n on, behind what is kept
pub cleared : (table zs used : List ℕ) (n words : ℕ) → zs ≡ replicate (length (take (length table - n) (drop n table))) 0
    → n ≤ length table → take n table ≡ used → length table ≡ words → take n table ++ (zs ++ drop (length table - n) (drop n table)) ≡ pad_to words used
cleared table zs used n words z l f g =
    let rest : drop (length table - n) (drop n table) ≡ [] = drop_of_length-le (drop n table) (omega (arith, length-drop n table)) in
    let m : length (take (length table - n) (drop n table)) ≡ length table - n = length-take-le _ (drop n table) (omega (arith, length-drop n table)) in
    rw (z, m, rest, append-nil) (zero_from_pad_to table used n words (sym (length-take-le n table l) ∙ ap length f) f g)

-- A pool table as the strings of the definition, and a pool index read in it.
use mathlib.Core.List.{List, [], ◌∷◌, ◌++◌}
use Rattle.std.specs.Prelude.{◌≡◌, refl, ℕ, zero, suc, ◌+◌, ◌-◌, ◌*◌, ◌/◌, ◌%◌, ◌^◌, ◌≤◌, ◌<◌, drop, get_or, length, take}
use Rattle.std.proofs.Common.{sym, ap, ap₂, ◌∙◌, mod-eq_of_lt, arith, length-drop, length-take, le-ltb, lt-ltb}
use Rattle.payload.specs.Numbers.{varint}
use Rattle.payload.specs.Reader.{Part}
use Rattle.payload.specs.Reading.{read_pool_index}
use Rattle.payload.specs.declared.Capacities.{Capacities}
use Rattle.payload.specs.Rows.{part_words}
use Rattle.payload.specs.Tables.{parts_words}
use Rattle.cursor.specs.Reads.{read, stopped, Reads}
use Rattle.read_items.specs.Context.{PartsFit, PoolFits, hint_base, plain_words, parts_of, context_of, entry_of}
use Rattle.cursor.specs.Reads.{part_of}
use Rattle.cursor.specs.Laws.Reads.{reads_pure, reads_then, reads_stop, reads_here, reads_must, reads_must_not}
use Rattle.read_items.specs.Laws.Numbers.{reads_cut_to, reads_cut_to_stop}

pub length_part : (p : List ℕ) (o n : ℕ) → o + n ≤ length p → length (take n (drop o p)) ≡ n
length_part p o n h = simp (length-take, length-drop) (omega arith)

pub length_parts_of : (p pool : List ℕ) → length (parts_of p pool) ≡ length pool / 2
unfolding parts_of
length_parts_of p [] = refl
length_parts_of p (o ∷ []) = refl
length_parts_of p (o ∷ n ∷ ws) = let h = length_parts_of p ws in omega arith

past_two : (o n : ℕ) (ws : List ℕ) (k m : ℕ) → k ≡ suc (suc m) → get_or (o ∷ n ∷ ws) k 0 ≡ get_or ws m 0
past_two o n ws k m e = rw e

pub parts_of_at : (p pool : List ℕ) (i : ℕ) (d : Part) → 2 * i + 1 < length pool
    → get_or (parts_of p pool) i d ≡ part_of p (get_or pool (2 * i) 0) (get_or pool (2 * i + 1) 0)
unfolding parts_of
parts_of_at p [] i d h = absurd (omega arith)
parts_of_at p (o ∷ []) i d h = absurd (omega arith)
parts_of_at p (o ∷ n ∷ ws) zero d h = refl
parts_of_at p (o ∷ n ∷ ws) (suc i) d h =
    parts_of_at p ws i d (omega arith)
    ∙ ap₂ (λ (a b : ℕ). part_of p a b) (sym (past_two o n ws (2 * suc i) (2 * i) (omega arith))) (sym (past_two o n ws (2 * suc i + 1) (2 * i + 1) (omega arith)))

-- a table of k strings, and one more
pub parts_of_more : (p pool : List ℕ) (o n k : ℕ) → length pool ≡ 2 * k → parts_of p (pool ++ (o ∷ n ∷ [])) ≡ parts_of p pool ++ (part_of p o n ∷ [])
unfolding parts_of
parts_of_more p [] o n k h = refl
parts_of_more p (a ∷ []) o n k h = absurd (omega arith)
parts_of_more p (a ∷ b ∷ ws) o n k h = ap (λ (l : List Part). part_of p a b ∷ l) (parts_of_more p ws o n (k - 1) (omega arith))

fits_next : (p ws : List ℕ) (o n : ℕ) → PartsFit p (o ∷ n ∷ ws) → PartsFit p ws
fits_next p ws o n fits i h =
    rw (past_two o n ws (2 * suc i) (2 * i) (omega arith), past_two o n ws (2 * suc i + 1) (2 * i + 1) (omega arith)) at (fits (suc i) (omega arith))

-- the strings of a table, as words again
pub parts_words_parts_of : (p pool : List ℕ) (k : ℕ) → length pool ≡ 2 * k → PartsFit p pool → parts_words (parts_of p pool) ≡ pool
unfolding parts_of parts_words part_words
parts_words_parts_of p [] k h fits = refl
parts_words_parts_of p (o ∷ []) k h fits = absurd (omega arith)
parts_words_parts_of p (o ∷ n ∷ ws) k h fits =
    rw (length_part p o n (fits 0 (omega arith)), parts_words_parts_of p ws (k - 1) (omega arith) (fits_next p ws o n fits))

---- the words of a table without hints

pub length_plain_words : (ws : List ℕ) → length (plain_words ws) ≡ length ws
unfolding plain_words
length_plain_words [] = refl
length_plain_words (w ∷ ws) = ap suc (length_plain_words ws)

pub get_or_plain_words : (ws : List ℕ) (i : ℕ) → get_or (plain_words ws) i 0 ≡ get_or ws i 0 % hint_base
unfolding plain_words
get_or_plain_words [] i = refl
get_or_plain_words (w ∷ ws) zero = refl
get_or_plain_words (w ∷ ws) (suc i) = get_or_plain_words ws i

-- strings of a payload that is short enough leave no room for hints
pub words_plain : (p ws : List ℕ) (k : ℕ) → length p < hint_base → length ws ≡ 2 * k → PartsFit p ws → plain_words ws ≡ ws
unfolding plain_words
words_plain p [] k l h fits = refl
words_plain p (o ∷ []) k l h fits = absurd (omega arith)
words_plain p (o ∷ n ∷ ws) k l h fits =
    let both = fits 0 (omega arith) in
    let offset : o % hint_base ≡ o = mod-eq_of_lt (omega arith) in
    let size : n % hint_base ≡ n = mod-eq_of_lt (omega arith) in
    rw (offset, size, words_plain p ws (k - 1) l (omega arith) (fits_next p ws o n fits))

-- the strings of two tables that differ in their hints alone
pub same_context : (c : Capacities) (p names : List ℕ) (a b : List ℕ) → plain_words a ≡ plain_words b → context_of c p names a ≡ context_of c p names b
unfolding context_of
same_context c p names a b e = rw e

strings_count : (p pool : List ℕ) → length (parts_of p (plain_words pool)) ≡ length pool / 2
strings_count p pool = length_parts_of p (plain_words pool) ∙ ap (λ (n : ℕ). n / 2) (length_plain_words pool)

entry_at : (p pool : List ℕ) (i : ℕ) (d : Part) → 2 * i + 1 < length pool → get_or (parts_of p (plain_words pool)) i d ≡ entry_of p pool i
entry_at p pool i d h =
    parts_of_at p (plain_words pool) i d (rw (length_plain_words pool) h)
    ∙ ap₂ (λ (a b : ℕ). part_of p a b) (get_or_plain_words pool (2 * i)) (get_or_plain_words pool (2 * i + 1))

pub entry_fits : (p pool : List ℕ) (i : ℕ) → PoolFits p pool → 2 * i + 1 < length pool
    → get_or pool (2 * i) 0 % hint_base + get_or pool (2 * i + 1) 0 % hint_base ≤ length p
entry_fits p pool i fits h = rw (get_or_plain_words pool (2 * i), get_or_plain_words pool (2 * i + 1)) at (fits i (rw (length_plain_words pool) h))

---- a pool index

module _ {p : List ℕ} {at : ℕ} (pool names : List ℕ) (c : Capacities) where
  module _ {v next : ℕ} (g : Reads p at varint (read v next)) where
    pub reads_index : 2 * (v % 2 ^ 32) + 1 < length pool → Reads p at (read_pool_index (context_of c p names pool)) (read (entry_of p pool (v % 2 ^ 32)) next)
    unfolding read_pool_index context_of
    reads_index h = reads_here _ (reads_then _ (reads_cut_to g (2 ^ 32)) (reads_must _ _ (rw (strings_count p pool) (lt-ltb (v % 2 ^ 32) (length pool / 2) (omega arith)))
        (rw (← entry_at p pool (v % 2 ^ 32) (record { offset = 0; bytes = [] }) h) (reads_pure _ g.inside))))

    pub reads_index_above : length pool / 2 ≤ v % 2 ^ 32 → Reads p at (read_pool_index (context_of c p names pool)) (stopped 4 at)
    unfolding read_pool_index context_of
    reads_index_above h = reads_here _ (reads_then _ (reads_cut_to g (2 ^ 32)) (reads_must_not _ (rw (strings_count p pool) (le-ltb _ _ h))))

  pub reads_index_stop : {n q : ℕ} → Reads p at varint (stopped n q) → Reads p at (read_pool_index (context_of c p names pool)) (stopped n q)
  unfolding read_pool_index
  reads_index_stop g = reads_here _ (reads_stop _ (reads_cut_to_stop g (2 ^ 32)))

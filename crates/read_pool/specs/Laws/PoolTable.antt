-- The words of strings as a pool table.
use Rattle.std.specs.Prelude.{List, [], ◌∷◌, ◌++◌, ◌≡◌, refl, ℕ, zero, suc, ◌+◌, ◌*◌, ◌≤◌, get_or, length, take, drop, set}
use Rattle.std.proofs.Common.{sym, ap, ◌∙◌, arith}
use Rattle.slices.specs.Put.{put}
use Rattle.slices.specs.Laws.Put.{put_put, put_last, put_cons, run_put}
use Rattle.payload.proofs.Laws.ScanWritten.{InStore}
use Rattle.payload.specs.Laws.Tables.{length_parts_words}
use Rattle.payload.specs.Reader.{Part}
use Rattle.payload.specs.Rows.{part_words}
use Rattle.payload.specs.Tables.{parts_words}
use Rattle.read_items.specs.Context.{parts_of, PartsFit}
use Rattle.cursor.specs.Reads.{part_of}
use Rattle.read_items.specs.Laws.Context.{length_part}

pub parts_words_append : (a b : List Part) → parts_words (a ++ b) ≡ parts_words a ++ parts_words b
unfolding parts_words part_words
parts_words_append [] b = refl
parts_words_append (x ∷ a) b = rw (parts_words_append a b)

-- one string more, after k of them
pub part_more : (xs : List ℕ) (bs : List Part) (o k : ℕ) (b : Part) → length bs ≡ k → o ≡ b.offset → {n : ℕ} → n ≡ length b.bytes →
    set (set (put xs 0 (parts_words bs)) (2 * k) o) (2 * k + 1) n ≡ put xs 0 (parts_words (bs ++ (b ∷ [])))
unfolding parts_words part_words
part_more xs bs o k b e f {n} g =
    let i : 2 * k ≡ 0 + length (parts_words bs) = omega (arith, length_parts_words bs) in
    put_last (set (put xs 0 (parts_words bs)) (2 * k) o) (2 * k + 1) n
    ∙ put_cons (put xs 0 (parts_words bs)) (2 * k) o (n ∷ [])
    ∙ rw (i, f, g, put_put) (ap (put xs 0) (sym (parts_words_append bs (b ∷ []))))

---- strings that stand in the payload

unfoldable pub AllIn : List ℕ → List Part → Type 0
AllIn p [] = Unit {0}
AllIn p (b ∷ bs) = InStore p b × AllIn p bs

pub part_in_lem : (p : List ℕ) (o n : ℕ) → o + n ≤ length p → InStore p (part_of p o n)
part_in_lem p o n h = let l = length_part p o n h in record { in_store = omega arith; its_bytes = ap (λ (m : ℕ). take m (drop o p)) l }

pub all_in_last : (p : List ℕ) (bs : List Part) (b : Part) → AllIn p bs → InStore p b → AllIn p (bs ++ (b ∷ []))
unfolding AllIn
all_in_last p [] b h i = (i, tt)
all_in_last p (x ∷ bs) b h i = (h.0, all_in_last p bs b h.1 i)

pub strings_of_words : (p : List ℕ) (bs : List Part) → AllIn p bs → parts_of p (parts_words bs) ≡ bs
unfolding AllIn parts_of parts_words part_words
strings_of_words p [] h = refl
strings_of_words p (b ∷ bs) h = rw (h.0.its_bytes, strings_of_words p bs h.1)

pub words_fit_lem : (p : List ℕ) (bs : List Part) → AllIn p bs → PartsFit p (parts_words bs)
unfolding AllIn parts_words part_words
words_fit_lem p [] h i l = absurd (omega arith)
words_fit_lem p (b ∷ bs) h zero l = h.0.in_store
words_fit_lem p (b ∷ bs) h (suc i) l = rw (skip (2 * suc i) (2 * i) (omega arith), skip (2 * suc i + 1) (2 * i + 1) (omega arith)) (words_fit_lem p bs h.1 i (omega arith))
  where
    skip : (k m : ℕ) → k ≡ suc (suc m) → get_or (b.offset ∷ length b.bytes ∷ parts_words bs) k 0 ≡ get_or (parts_words bs) m 0
    skip k m e = rw e

---- the words of n strings, stored from the table's begin on

pub words_stored : (xs : List ℕ) (bs : List Part) (n : ℕ) → length bs ≡ n → 2 * n ≤ length xs → take (2 * n) (put xs 0 (parts_words bs)) ≡ parts_words bs
words_stored xs bs n e h =
    let l : 2 * n ≡ length (parts_words bs) = omega (arith, length_parts_words bs) in
    rw l (run_put xs 0 (parts_words bs) (omega arith))

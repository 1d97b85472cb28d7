-- Laws of the test of distinct strings: entries linked one after the other, and what it says that all are, or that one is not.
use Rattle.std.specs.Prelude.{Bool, not, ◌≡◌, refl, drop, get_or, length}
use Rattle.std.proofs.Math.Bool.{false, true}
use mathlib.Core.List.{List, [], ◌++◌, ◌∷◌}
use Rattle.std.proofs.Common.{◌∙◌, subst, add-one, arith, take-append-drop}
use Rattle.std.proofs.Math.Path.{ap, ap₂, sym}
use Prim.Native.Nat.{◌*◌, ◌+◌, ◌/◌, ◌<◌, ◌≤◌, min, suc, ℕ}
use Rattle.std.proofs.Math.ListN.{take}
use borrow.Author.Tests.{eq-eqb, ne_eqb, not-true}
use Rattle.slices.specs.Laws.Same.{same_no, same_refl}
use Rattle.slices.specs.Same.{same}
use Rattle.payload.specs.Choice.{when◌then◌else◌}
use Rattle.payload.specs.Laws.Pool.{and_both, false≢true}
use Rattle.payload.specs.Pool.{is_in}
use Rattle.payload.specs.Rows.{part_words}
use Rattle.payload.specs.Tables.{parts_words}
use Rattle.payload.specs.Write.{has_bytes, interned_parts}
use Rattle.pool_index.specs.Laws.Distinct.{index_at}
use Rattle.pool_index.specs.Laws.Strings.{length_strings, strings_at}
use Rattle.pool_index.specs.Strings.{bytes_at, distinct, entry_bytes, pool_strings}
use Rattle.gather.specs.Entries.{added, free_slot, link_at, linked, mark_of, path_of, unlinked}
use Rattle.gather.specs.Gather.{part_in, string_capacity}
use Rattle.gather.specs.Interning.{Holding, Kept, first_parts}
use Rattle.gather.specs.Laws.Entries.{added_drop, part_length, part_plain, take_entry, unlinked_above, unlinked_bytes, unlinked_drop, unlinked_length, unlinked_none}
use Rattle.gather.specs.Laws.Interning.{has_none, holding_none, holding_words, parts_append}
use Rattle.gather.specs.Laws.Placing.{added_is}
use Rattle.gather.specs.Laws.Searching.{free_low}
use Rattle.gather.specs.Placing.{is_added, linked_after, used_after}
use Rattle.pool_check.specs.Distinct.{LinkedFirst, PartsIn}

---- strings that differ

not_in : (y : List ℕ) (l : List (List ℕ)) → ((j : ℕ) → j < length l → same y (get_or l j []) ≡ false) → is_in y l ≡ false
unfolding is_in
not_in y [] f = refl
not_in y (z ∷ l) f = rw (f 0 (omega arith)) (not_in y l (λ j h. f (suc j) (omega arith)))

all_distinct : (l : List (List ℕ)) → ((i j : ℕ) → i < j → j < length l → same (get_or l i []) (get_or l j []) ≡ false) → distinct l ≡ true
unfolding distinct
all_distinct [] f = refl
all_distinct (y ∷ l) f = and_both (rw (not_in y l (λ j h. f 0 (suc j) (omega arith) (omega arith)))) (all_distinct l (λ i j h g. f (suc i) (suc j) (omega arith) (omega arith)))

-- a string stands at one place
pub string_once : (l : List (List ℕ)) → distinct l ≡ true → (i k : ℕ) → i < length l → k < length l → get_or l i [] ≡ get_or l k [] → i ≡ k
string_once l d i k hi hk q =
    let x = get_or l k [] in
    sym (index_at x l i d hi (rw q (same_refl x))) ∙ index_at x l k d hk (same_refl x)

-- two entries with the same bytes
not_distinct : (s p : List ℕ) (i j : ℕ) → i < j → j < length p / 2 → entry_bytes s p i ≡ entry_bytes s p j → distinct (pool_strings s p) ≡ true → ⊥
not_distinct s p i j l m e d =
    let n = length_strings s p in
    let q = string_once (pool_strings s p) d i j (omega arith) (omega arith) (strings_at s p i (omega arith) ∙ e ∙ sym (strings_at s p j m)) in
    absurd (omega arith)

---- one entry after another

-- k entries are linked, and nothing else has changed
pub record Linking (store pool₀ pool : List ℕ) (k : ℕ) : Type 0 where
  pub upto : k ≤ length pool₀ / 2
  pub holding : Holding store pool k
  pub back : unlinked k pool ≡ pool₀

pub linking_start : {s p : List ℕ} → PartsIn s p → Linking s p p 0
linking_start {s} {p} h = record { upto = omega arith; holding = holding_none s p h.short; back = unlinked_none p }

module _ {s p₀ p : List ℕ} {k : ℕ} (h : PartsIn s p₀) (g : Linking s p₀ p k) where
  pub linking_long : length p ≡ length p₀
  linking_long = sym (unlinked_length k p) ∙ ap length g.back

  -- what is not linked yet
  word : (j : ℕ) → 2 * k ≤ j → get_or p j 0 ≡ get_or p₀ j 0
  word j l = sym (unlinked_above k p j l) ∙ ap (λ (l : List ℕ). get_or l j 0) g.back

  bytes : (j : ℕ) → j < k → entry_bytes s p₀ j ≡ entry_bytes s p j
  bytes j l = ap (λ (l : List ℕ). entry_bytes s l j) (sym g.back) ∙ unlinked_bytes s k p j l (omega (arith, g.upto, linking_long))

  pub linking_end : length p₀ / 2 ≤ k → LinkedFirst s p₀ p k
  linking_end l = record {
    fits = omega (arith, g.upto, linking_long);
    back = g.back;
    all = eq-eqb k (length p₀ / 2) (omega (arith, g.upto)) ∙ sym (all_distinct (pool_strings s p₀) differ);
  }
    where
      differ : (i j : ℕ) → i < j → j < length (pool_strings s p₀) → same (get_or (pool_strings s p₀) i []) (get_or (pool_strings s p₀) j []) ≡ false
      differ i j m n =
          let c : j < length p₀ / 2 = omega (arith, length_strings s p₀) in
          rw (strings_at s p₀ i (omega arith), strings_at s p₀ j c)
          (same_no (entry_bytes s p₀ i) (entry_bytes s p₀ j) (λ e. g.holding.differ i j m (omega arith) (sym (bytes i (omega arith)) ∙ e ∙ bytes j (omega arith))))

  module _ (low : k < length p₀ / 2) where
    abbrev o : ℕ
    o = get_or p (2 * k) 0

    abbrev n : ℕ
    n = get_or p (2 * k + 1) 0

    first : o ≡ get_or p₀ (2 * k) 0
    first = word (2 * k) (omega arith)

    second : n ≡ get_or p₀ (2 * k + 1) 0
    second = word (2 * k + 1) (omega arith)

    stands : o + n ≤ length s
    stands = omega (arith, h.within k low, first, second)

    pub linking_room : k < string_capacity (length p)
    linking_room = omega (arith, h.few, linking_long)

    here : entry_bytes s p₀ k ≡ bytes_at s o n
    here = ap₂ (λ (a b : ℕ). entry_bytes s (a ∷ b ∷ []) 0) (sym first) (sym second) ∙ part_plain s o n stands h.short

    -- an entry before has its bytes
    not_new : is_added s p k o n ≡ false → distinct (pool_strings s p₀) ≡ true → ⊥
    not_new e d =
        let none = has_none s p (bytes_at s o n) k (λ j l q. not_distinct s p₀ j k l low (bytes j l ∙ q ∙ sym here) d) in
        false≢true (sym e ∙ added_is s p k o n linking_room ∙ ap not none)

    pub linking_found : {p' : List ℕ} → p' ≡ linked_after s p k o n → is_added s p k o n ≡ false → LinkedFirst s p₀ p' k
    unfolding linked_after linked when◌then◌else◌
    linking_found {p'} e q =
        let z : p' ≡ p = e ∙ rw q in
        rw z (record {
          fits = omega (arith, g.upto, linking_long);
          back = g.back;
          all = ne_eqb k (length p₀ / 2) (λ c. absurd (omega arith)) ∙ go (distinct (pool_strings s p₀)) refl;
        })
      where
        go : (t : Bool) → distinct (pool_strings s p₀) ≡ t → false ≡ distinct (pool_strings s p₀)
        go true d = absurd (not_new q d)
        go false d = sym d

    module _ {p' : List ℕ} (e : p' ≡ linked_after s p k o n) (f : Kept s p p' k (used_after s p k o n) (part_in s o n ∷ [])) (new : is_added s p k o n ≡ true) where
      one_more : used_after s p k o n ≡ suc k
      unfolding used_after when◌then◌else◌
      one_more = rw new (add-one k)

      held : Holding s p' (suc k)
      held = subst (λ (m : ℕ). Holding s p' m) one_more f.holding

      parts : first_parts s p' (suc k) ≡ first_parts s p k ++ (part_in s o n ∷ [])
      unfolding interned_parts part_in when◌then◌else◌
      parts =
          let lacks = not-true (has_bytes (bytes_at s o n) (first_parts s p k)) (sym (added_is s p k o n linking_room) ∙ new) in
          ap (first_parts s p') (sym one_more) ∙ f.parts ∙ rw lacks

      front : take (2 * suc k) (unlinked (suc k) p') ≡ take (2 * suc k) p₀
      unfolding parts_words part_words part_in
      front =
          holding_words held ∙ ap parts_words parts ∙ parts_append (first_parts s p k) (part_in s o n ∷ [])
          ∙ ap (λ (l : List ℕ). l ++ parts_words (part_in s o n ∷ [])) (sym (holding_words g.holding) ∙ ap (take (2 * k)) g.back)
          ∙ ap₂ (λ (a b : ℕ). take (2 * k) p₀ ++ (a ∷ b ∷ [])) (omega (arith, first, stands)) (part_length s o n stands ∙ second)
          ∙ sym (take_entry p₀ k (omega arith))

      rest : drop (2 * suc k) (unlinked (suc k) p') ≡ drop (2 * suc k) p₀
      unfolding linked_after linked part_in when◌then◌else◌
      rest =
          let hung = free_slot (link_at p) k (path_of (bytes_at s o n)) 0 in
          let one : p' ≡ added p k hung (min o (length s)) (mark_of (bytes_at s o n)) = e ∙ rw new in
          unlinked_drop (suc k) p' (2 * suc k) (omega arith) ∙ ap (drop (2 * suc k)) one
          ∙ added_drop p k hung _ _ (omega (arith, linking_room)) (free_low g.holding.trie (path_of (bytes_at s o n))) (2 * suc k) (omega arith)
          ∙ sym (unlinked_drop k p (2 * suc k) (omega arith)) ∙ ap (drop (2 * suc k)) g.back

      pub linking_next : Linking s p₀ p' (k + 1)
      linking_next = rw (add-one k) (record {
        upto = omega arith;
        holding = held;
        back = sym (take-append-drop (2 * suc k) (unlinked (suc k) p')) ∙ ap₂ (λ (a b : List ℕ). a ++ b) front rest ∙ take-append-drop (2 * suc k) p₀;
      })

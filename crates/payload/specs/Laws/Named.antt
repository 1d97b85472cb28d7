-- Every record name is in the pool exactly where all rows stand before the first that is not.
use Rattle.std.specs.Prelude.{Bool, false, true, List, [], ◌∷◌, ◌≡◌, refl, ◌+◌, ◌≤◌, suc, ℕ, eqb}
use Rattle.std.proofs.Common.{◌∙◌, sym, arith, eq-eqb, eqb-true}
use Rattle.std.proofs.lemmas.Bool.{eqb-false}
use Rattle.payload.specs.Choice.{◌and◌, when◌then◌else◌}
use Rattle.payload.specs.Demand3.{all_items, all_of}
use Rattle.payload.specs.Laws.Pool.{and_both, and_left, and_right}
use Rattle.payload.specs.Trees.{Item, Trees, nil, node, size}
use Rattle.payload.specs.Write.{item_named, items_named, named_rows}

items_named_lem : (l : List (List ℕ)) (is : List (Item (List ℕ))) → items_named l is ≡ all_of (item_named l) is
unfolding items_named all_of
items_named_lem l [] = refl
items_named_lem l (i ∷ is) = rw (items_named_lem l is)

pub named_all : (l : List (List ℕ)) (ts : Trees (List ℕ)) → all_items (item_named l) ts ≡ true → named_rows l ts ≡ size ts
unfolding named_rows all_items size when◌then◌else◌
named_all l nil e = refl
named_all l (node t is ks ts) e =
    let a : items_named l is ≡ true = items_named_lem l is ∙ and_left _ _ e in
    rw (a, named_all l ks (and_left _ _ (and_right _ _ e)), eq-eqb (size ks) (size ks) refl, named_all l ts (and_right _ _ (and_right _ _ e)))

pub named_le : (l : List (List ℕ)) (ts : Trees (List ℕ)) → named_rows l ts ≤ size ts
unfolding named_rows size when◌then◌else◌
named_le l nil = omega arith
named_le l (node t is ks ts) = go (items_named l is) (eqb (named_rows l ks) (size ks)) (named_le l ks) (named_le l ts)
  where
    go : (a b : Bool) → named_rows l ks ≤ size ks → named_rows l ts ≤ size ts → when◌then◌else◌ a (when◌then◌else◌ b (suc (size ks) + named_rows l ts) (suc (named_rows l ks))) 0 ≤ suc (size ks) + size ts
    go true true h k = omega arith
    go true false h k = omega arith
    go false b h k = omega arith

pub all_named_lem : (l : List (List ℕ)) (ts : Trees (List ℕ)) → named_rows l ts ≡ size ts → all_items (item_named l) ts ≡ true
unfolding named_rows all_items size when◌then◌else◌
all_named_lem l nil e = refl
all_named_lem l (node t is ks ts) e = go (items_named l is) refl (eqb (named_rows l ks) (size ks)) refl (all_named_lem l ks) (all_named_lem l ts) e
  where
    go : (a : Bool) → items_named l is ≡ a → (b : Bool) → eqb (named_rows l ks) (size ks) ≡ b
        → (named_rows l ks ≡ size ks → all_items (item_named l) ks ≡ true) → (named_rows l ts ≡ size ts → all_items (item_named l) ts ≡ true)
        → when◌then◌else◌ a (when◌then◌else◌ b (suc (size ks) + named_rows l ts) (suc (named_rows l ks))) 0 ≡ suc (size ks) + size ts
        → (all_of (item_named l) is and (all_items (item_named l) ks and all_items (item_named l) ts)) ≡ true
    go true a true b under next e = and_both (sym (items_named_lem l is) ∙ a) (and_both (under (eqb-true _ _ b)) (next (omega arith)))
    go true a false b under next e = let n = eqb-false (named_rows l ks) (size ks) b in let m = named_le l ks in absurd (omega arith)
    go false a b c under next e = absurd (omega arith)

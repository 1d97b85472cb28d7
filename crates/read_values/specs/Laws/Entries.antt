-- Elements of a set are entries with no value, entries of a map have one; and the words of joined trees.
use Rattle.std.specs.Prelude.{List, ◌∷◌, ◌++◌, ◌≡◌}
use Rattle.std.proofs.Common.{append_assoc, sym}
use Rattle.std.proofs.Math.Path.{refl, ap}
use Prim.Native.Nat.{ℕ, zero, suc}
use Rattle.payload.specs.Reader.{Part, Reader, Result, ◌>>=◌, ◌>>◌, and_then, here, ok, pure, refused}
use Rattle.payload.specs.Reader as reader
use Rattle.payload.specs.Reading.{node_key, read_keys, read_many, read_pairs, test_key}
use Rattle.payload.specs.Rows.{root_count, row_table, row_words, span_table}
use Rattle.payload.specs.Trees.{Node, Trees, cons, nil, node}
use Rattle.key_test.specs.Told.{Told}
use Rattle.read_values.specs.Entries.{joined, read_entries}

---- both readers of the definition

same_after : {A B : Type 0} (x : Result A) (f g : A → Reader B) → ((a : A) (s : reader.State) → f a s ≡ g a s) → and_then x f ≡ and_then x g
unfolding and_then
same_after (ok a s) f g h = h a s
same_after (refused n q) f g h = refl

module _ (r : Reader (Node Part)) where
  pub keys_are : (n : ℕ) (seen : List (List ℕ)) (s : reader.State) → read_keys n seen r s ≡ read_entries 0 n seen r s
  unfolding read_keys read_entries read_many joined ◌>>=◌ ◌>>◌ and_then here pure
  keys_are zero seen s = refl
  keys_are (suc n) seen s =
      same_after (r s) _ _
      (λ t z. same_after (test_key s.place seen t z) _ _
      (λ u y. ap (λ (x : Result (Trees Part)). and_then x (λ ts. pure (cons t ts))) (keys_are n (node_key t ∷ seen) y)))

  -- one value of a pair, read as the values of an entry
  one_value_lem :
      (p n : ℕ) (seen : List (List ℕ)) (t : Node Part) → ((s : reader.State) → read_pairs n (node_key t ∷ seen) r s ≡ read_entries 1 n (node_key t ∷ seen) r s) →
      (x : Result (Node Part)) →
      and_then x (λ v. test_key p seen t >> read_pairs n (node_key t ∷ seen) r >>= λ ts. pure (cons t (cons v ts)))
      ≡ and_then (and_then x (λ v. pure (cons v nil))) (λ vs. test_key p seen t >> read_entries 1 n (node_key t ∷ seen) r >>= λ ts. pure (cons t (joined vs ts)))
  unfolding joined cons ◌>>=◌ ◌>>◌ and_then pure
  one_value_lem p n seen t h (ok v y) =
      same_after (test_key p seen t y) _ _ (λ u w. ap (λ (x : Result (Trees Part)). and_then x (λ ts. pure (cons t (cons v ts)))) (h w))
  one_value_lem p n seen t h (refused m q) = refl

  pub pairs_are : (n : ℕ) (seen : List (List ℕ)) (s : reader.State) → read_pairs n seen r s ≡ read_entries 1 n seen r s
  unfolding read_pairs read_entries read_many joined cons ◌>>=◌ ◌>>◌ and_then here pure
  pairs_are zero seen s = refl
  pairs_are (suc n) seen s =
      same_after (r s) _ _ (λ t z. one_value_lem s.place n seen t (λ y. pairs_are n (node_key t ∷ seen) y) (r z))

---- joined trees

pub joined_rows : (vs ts : Trees Part) → row_table (joined vs ts) ≡ row_table vs ++ row_table ts
unfolding row_table joined
joined_rows nil ts = refl
joined_rows (node t is ks vs) ts =
    rw (joined_rows vs ts) (sym (append_assoc (row_words t is (root_count ks) ++ row_table ks) (row_table vs) (row_table ts)))

pub joined_spans : (vs ts : Trees Part) → span_table (joined vs ts) ≡ span_table vs ++ span_table ts
unfolding span_table joined
joined_spans nil ts = refl
joined_spans (node t is ks vs) ts =
    rw (joined_spans vs ts) (simp append_assoc)

pub joined_told : (vs ts : Trees Part) → Told vs → Told ts → Told (joined vs ts)
unfolding Told joined
joined_told nil ts h k = k
joined_told (node t is ks vs) ts h k = (h.0, h.1, joined_told vs ts h.2 k)

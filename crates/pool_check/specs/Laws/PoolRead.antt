-- Where the writing of a program that was read is the payload, the pool that was read is the one that gathering gives.
use Rattle.std.specs.Prelude.{Bool, ◌≡◌, refl, ◌<◌, zero, suc, ℕ, get_or, length}
use Rattle.std.proofs.Math.Bool.{false, true}
use mathlib.Core.List.{List, [], ◌++◌, ◌∷◌}
use Rattle.std.proofs.Common.{◌∙◌, ap, arith, ext_get_or}
use Rattle.std.proofs.Math.Path.{sym}
use Rattle.std.proofs.Math.ListN.{get_or-map}
use Rattle.std.proofs.lemmas.List.{length-map}
use Rattle.payload.specs.Choice.{when◌then◌else◌}
use Rattle.payload.proofs.Laws.House.{IsWriting, read_strings_lem}
use Rattle.payload.specs.Laws.Rules.{Small}
use Rattle.payload.specs.Reader.{Part, State, ok, start}
use Rattle.payload.specs.Reading.{Payload, read_payload}
use Rattle.payload.specs.declared.Capacities.{Capacities}
use Rattle.payload.specs.Trees.{forget_script}
use Rattle.payload.specs.Write.{has_bytes, interned_parts}
use Rattle.payload.specs.Writing.{gathered, pool_of}
use Rattle.pool_index.specs.Laws.Distinct.{interned_distinct}
use Rattle.pool_index.specs.Strings.{distinct}
use Rattle.gather.specs.Laws.Parts.{bytes_of, pool_bytes}
use Rattle.pool_check.specs.Laws.Distinct.{string_once}
use Rattle.pool_check.specs.Laws.PoolEntries.{Entries, Entry, entries_append, gathered_entries, no_part}

---- entries of a pool that has no string twice

entries_interned : (pool l xs : List Part) → Entries pool l → Entries pool xs → Entries pool (interned_parts l xs)
unfolding interned_parts Entries
entries_interned pool l [] h k = h
entries_interned pool l (x ∷ xs) h k = entries_interned pool (when◌then◌else◌ (has_bytes x.bytes l) l (l ++ (x ∷ []))) xs (go (has_bytes x.bytes l)) k.1
  where
    go : (t : Bool) → Entries pool (when◌then◌else◌ t l (l ++ (x ∷ [])))
    go true = unfold when◌then◌else◌ in h
    go false = unfold when◌then◌else◌ in (entries_append pool l (x ∷ []) h (k.0, tt))

entry_at : (pool xs : List Part) → Entries pool xs → (k : ℕ) → k < length xs → Entry pool (get_or xs k no_part)
unfolding Entries
entry_at pool [] h k l = absurd (omega arith)
entry_at pool (x ∷ xs) h zero l = h.0
entry_at pool (x ∷ xs) h (suc k) l = entry_at pool xs h.1 k (omega arith)

bytes_at_lem : (xs : List Part) (k : ℕ) → get_or (bytes_of xs) k [] ≡ (get_or xs k no_part).bytes
bytes_at_lem xs k = get_or-map (λ (l : Part). l.bytes) xs k no_part

length_bytes : (xs : List Part) → length (bytes_of xs) ≡ length xs
length_bytes xs = length-map xs (λ (l : Part). l.bytes)

-- a string stands at one place
pub entry_once : (pool : List Part) → distinct (bytes_of pool) ≡ true → (i k : ℕ) → i < length pool → k < length pool → (get_or pool i no_part).bytes ≡ (get_or pool k no_part).bytes → i ≡ k
entry_once pool d i k hi hk q =
    string_once (bytes_of pool) d i k (omega (arith, length_bytes pool)) (omega (arith, length_bytes pool)) (bytes_at_lem pool i ∙ q ∙ sym (bytes_at_lem pool k))

-- entries with the bytes of all the pool's are the pool
same_entries : (pool xs : List Part) → distinct (bytes_of pool) ≡ true → Entries pool xs → bytes_of xs ≡ bytes_of pool → xs ≡ pool
same_entries pool xs d h e = ext_get_or no_part xs pool long each
  where
    long : length xs ≡ length pool
    long = sym (length_bytes xs) ∙ ap length e ∙ length_bytes pool

    each : (k : ℕ) → k < length xs → get_or xs k no_part ≡ get_or pool k no_part
    each k hk =
        let f = entry_at pool xs h k hk in
        let q : (get_or pool f.index no_part).bytes ≡ (get_or pool k no_part).bytes =
        ap (λ (l : Part). l.bytes) (sym f.is_entry) ∙ sym (bytes_at_lem xs k) ∙ ap (λ (l : List (List ℕ)). get_or l k []) e ∙ bytes_at_lem pool k in
        f.is_entry ∙ ap (λ (i : ℕ). get_or pool i no_part) (entry_once pool d f.index k f.below (omega (arith, long)) q)

---- the pool of a payload that is a writing

module _ (c : Capacities) (small : Small c) (listed : List ℕ → Bool) (p : List ℕ) (u : Payload) (z : State) (e : read_payload c listed (start p) ≡ ok u z) (w : IsWriting c listed p (forget_script u.script)) where
  -- it has the strings of the writing's pool, and is the one that gathering gives
  pub read_pool_interned : interned_parts [] (gathered u.script) ≡ u.pool
  unfolding Entries
  read_pool_interned =
      let strings = read_strings_lem c small listed p u z e w in
      let d : distinct (bytes_of u.pool) ≡ true = rw strings (unfold pool_of in (interned_distinct _ [] (unfold distinct in refl))) in
      same_entries u.pool _ d (entries_interned u.pool [] (gathered u.script) tt (gathered_entries c listed (start p) u z e)) (pool_bytes u.script ∙ sym strings)

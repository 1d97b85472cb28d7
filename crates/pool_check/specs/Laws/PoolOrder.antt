-- The pool that was read is the one that gathering gives exactly where its strings differ and are first used in its order.
use Rattle.std.specs.Prelude.{Bool, ◌⊎◌, ◌≡◌, ◌*◌, ◌+◌, ◌/◌, ◌<◌, ◌≤◌, suc, zero, ℕ, eqb, get_or}
use Rattle.std.proofs.Math.Bool.{false, true}
use mathlib.Core.List.{List, [], ◌++◌, ◌∷◌, append_assoc, append-nil}
use Rattle.std.proofs.Common.{⊎_elim, inl, inr, ◌∙◌, sym, add-one, arith, get_or-take, take-suc}
use Rattle.std.proofs.Math.Path.{ap, refl}
use Rattle.std.proofs.Math.Dec.{ltb}
use Rattle.std.proofs.Math.ListN.{length, take}
use Rattle.std.proofs.lemmas.List.{get_or_at}
use Rattle.std.proofs.Math.Seq.{length-take-le, take-length}
use borrow.Author.Tests.{eq-eqb, le-ltb, lt-ltb, ltb-false, ltb-true, ne_eqb}
use Rattle.slices.specs.Laws.Same.{same_eq, same_refl}
use Rattle.slices.specs.Same.{same}
use Rattle.varint.specs.Laws.RoundTrip.{reads_within}
use Rattle.varint.specs.Varint.{varint_of}
use Rattle.varint.specs.Varint.{Varint}
use Rattle.varint.specs.Varint.{Number, Refused}
use Rattle.payload.specs.Choice.{◌or◌, when◌then◌else◌}
use Rattle.payload.proofs.Laws.Keeps.{invert, not_ok}
use Rattle.payload.specs.Numbers.{after_varint, varint}
use Rattle.payload.specs.Reader.{Part, State, ◌>>=◌, ◌>>◌, advanced, body, here, must, ok, pure}
use Rattle.payload.specs.Reading.{Payload, read_chunk, read_line_index, read_payload, read_pool, read_string, read_strings}
use Rattle.payload.specs.declared.Capacities.{Capacities}
use Rattle.payload.specs.Rows.{part_words}
use Rattle.payload.specs.Tables.{parts_words}
use Rattle.payload.specs.Write.{has_bytes, interned_parts}
use Rattle.pool_index.specs.Strings.{distinct}
use Rattle.gather.specs.Laws.Parts.{bytes_of}
use Rattle.pool_check.specs.Order as words
use Rattle.pool_check.specs.Laws.PoolEntries.{Entries, Entry, no_part}
use Rattle.pool_check.specs.Laws.PoolRead.{entry_once}

---- the offsets of a pool that was read rise

unfoldable pub Rising : ℕ → List Part → Type 0
Rising p [] = Unit {0}
Rising p (x ∷ xs) = (p < x.offset) × Rising x.offset xs

rising_from : (p q : ℕ) (xs : List Part) → p ≤ q → Rising q xs → Rising p xs
unfolding Rising
rising_from p q [] h r = tt
rising_from p q (x ∷ xs) h r = (omega (arith, r.0), r.1)

varint_on : (s : State) (n : ℕ) (s' : State) → varint s ≡ ok n s' → s.place < s'.place
unfolding varint after_varint
varint_on s n s' e = go (varint_of s.rest 0) refl e
  where
    go : (v : Varint) → varint_of s.rest 0 ≡ v → after_varint v s ≡ ok n s' → s.place < s'.place
    go (Number m used) h f = let w = reads_within s.rest 0 m used h in let q : advanced used s ≡ s' = cc in let r : s.place + used ≡ s'.place = ap (λ (z : State). z.place) q in omega (arith, w.after)
    go (Refused m q) h f = not_ok m s.place n s' f

must_on : (b : Bool) (n q : ℕ) (s : State) (u : Unit {0}) (s' : State) → must b n q s ≡ ok u s' → s ≡ s'
unfolding must
must_on true n q s u s' e = cc
must_on false n q s u s' e = not_ok n q u s' e

body_on : (n : ℕ) (s : State) (b : Part) (s' : State) → body n s ≡ ok b s' → (b.offset ≡ s.place) × (s.place ≤ s'.place)
unfolding body
body_on n s b s' e =
    let x = invert (must _ 1 s.place s) _ b s' e in
    let q : s ≡ x.1 = must_on _ 1 s.place s x.0 x.1 x.2 in
    let o : x.1.place ≡ b.offset = cc x.3 in
    let z : advanced n x.1 ≡ s' = cc x.3 in
    let r : x.1.place + n ≡ s'.place = ap (λ (z : State). z.place) z in
    let t : s.place ≡ x.1.place = ap (λ (z : State). z.place) q in
    (sym o ∙ sym t, omega arith)

string_on : (s : State) (b : Part) (s' : State) → read_string s ≡ ok b s' → (s.place < b.offset) × (b.offset ≤ s'.place)
unfolding read_string ◌>>=◌ ◌>>◌ here pure
string_on s b s' e =
    let x = invert (varint s) _ b s' e in
    let y = invert (here x.1) _ b s' x.3 in
    let v = invert (body x.0 y.1) _ b s' y.3 in
    let w = invert (must _ 3 y.0 v.1) _ b s' v.3 in
    let a = varint_on s x.0 x.1 x.2 in
    let b₁ : x.1 ≡ y.1 = cc y.2 in
    let d = body_on x.0 y.1 v.0 v.1 v.2 in
    let m = must_on _ 3 y.0 v.1 w.0 w.1 w.2 in
    let f : v.0 ≡ b = cc w.3 in
    let g : w.1 ≡ s' = cc w.3 in
    let p₁ : x.1.place ≡ y.1.place = ap (λ (z : State). z.place) b₁ in
    let p₂ : v.1.place ≡ s'.place = ap (λ (z : State). z.place) (m ∙ g) in
    let p₃ : v.0.offset ≡ b.offset = ap (λ (l : Part). l.offset) f in
    (omega (arith, d.0), omega (arith, d.0, d.1))

rising_cons : (p q : ℕ) (x : Part) (xs ls : List Part) → (x ∷ xs) ≡ ls → p < x.offset → x.offset ≤ q → Rising q xs → Rising p ls
unfolding Rising
rising_cons p q x xs ls e h l r = rw (← e) (h, rising_from x.offset q xs l r)

strings_rise : (most n k : ℕ) (s : State) (ls : List Part) (s' : State) → read_strings most n k s ≡ ok ls s' → Rising s.place ls
unfolding read_strings ◌>>=◌ ◌>>◌ here pure
strings_rise most zero k s ls s' e = let q : [] ≡ ls = cc in rw (← q) (unfold Rising in tt)
strings_rise most (suc n) k s ls s' e =
    let x = invert (here s) _ ls s' e in
    let y = invert (must (ltb k most) 21 x.0 x.1) _ ls s' x.3 in
    let z = invert (read_string y.1) _ ls s' y.3 in
    let w = invert (read_strings most n (suc k) z.1) _ ls s' z.3 in
    let a : s ≡ x.1 = cc x.2 in
    let b = must_on _ 21 x.0 x.1 y.0 y.1 y.2 in
    let p : s.place ≡ y.1.place = ap (λ (v : State). v.place) (a ∙ b) in
    let h = string_on y.1 z.0 z.1 z.2 in
    let q : (z.0 ∷ w.0) ≡ ls = cc w.3 in
    rising_cons s.place z.1.place z.0 w.0 ls q (omega (arith, h.0)) h.1 (strings_rise most n (suc k) z.1 w.0 w.1 w.2)

pub pool_rises : (c : Capacities) (listed : List ℕ → Bool) (s : State) (u : Payload) (s' : State) → read_payload c listed s ≡ ok u s' → Rising 0 u.pool
unfolding read_payload read_pool ◌>>=◌ pure
pool_rises c listed s u s' e =
    let x = invert (read_pool c.strings s) _ u s' e in
    let y = invert (read_chunk (record { capacities = c; pool = x.0; listed = listed }) x.1) _ u s' x.3 in
    let v = invert (read_line_index (record { capacities = c; pool = x.0; listed = listed }) y.1) _ u s' y.3 in
    let b : x.0 ≡ u.pool = cc v.3 in
    let z = invert (varint s) _ x.0 x.1 x.2 in
    rw (← b) (rising_from 0 z.1.place x.0 (omega arith) (strings_rise c.strings z.0 0 z.1 x.0 x.1 z.3))

abbrev offset_at : List Part → ℕ → ℕ
offset_at pool i = (get_or pool i no_part).offset

rises_above : (p : ℕ) (xs : List Part) → Rising p xs → (i : ℕ) → i < length xs → p < offset_at xs i
unfolding Rising
rises_above p [] r i h = absurd (omega arith)
rises_above p (x ∷ xs) r zero h = r.0
rises_above p (x ∷ xs) r (suc i) h = let g = rises_above x.offset xs r.1 i (omega arith) in omega (arith, r.0)

rises_between : (p : ℕ) (xs : List Part) → Rising p xs → (i j : ℕ) → i < j → j < length xs → offset_at xs i < offset_at xs j
unfolding Rising
rises_between p [] r i j l h = absurd (omega arith)
rises_between p (x ∷ xs) r i zero l h = absurd (omega arith)
rises_between p (x ∷ xs) r zero (suc j) l h = rises_above x.offset xs r.1 j (omega arith)
rises_between p (x ∷ xs) r (suc i) (suc j) l h = rises_between x.offset xs r.1 i j (omega arith) (omega arith)

---- strings met in the pool's order

-- how many entries are met after one more string: a new one where it is the next; past the count where it is a later one
unfoldable meet : List Part → ℕ → Part → ℕ
meet pool k x = when ltb k (length pool) then (when eqb x.offset (get_or pool k no_part).offset then suc k else when ltb (get_or pool k no_part).offset x.offset then suc (length pool) else k) else k

unfoldable meet_all : List Part → ℕ → List Part → ℕ
meet_all pool k [] = k
meet_all pool k (x ∷ xs) = meet_all pool (meet pool k x) xs

-- the words of a pool table tell the same
offset_word : (pool : List Part) (k : ℕ) → get_or (parts_words pool) (2 * k) 0 ≡ (get_or pool k no_part).offset
unfolding parts_words part_words
offset_word [] k = refl
offset_word (x ∷ pool) zero = refl
offset_word (x ∷ pool) (suc k) = let e : 2 * suc k ≡ suc (suc (2 * k)) = omega arith in rw e (offset_word pool k)

word_count : (pool : List Part) → length (parts_words pool) / 2 ≡ length pool
unfolding parts_words part_words
word_count [] = refl
word_count (x ∷ pool) = let e = word_count pool in omega arith

words_meet : (pool : List Part) (k o : ℕ) (x : Part) → o ≡ x.offset → words.meet (parts_words pool) k o ≡ meet pool k x
unfolding words.meet meet
words_meet pool k o x e = rw (offset_word pool k, word_count pool, e, add-one k, add-one (length pool))

words_meet_all : (pool : List Part) (k : ℕ) (xs : List Part) → words.meet_all (parts_words pool) k xs ≡ meet_all pool k xs
unfolding words.meet_all meet_all
words_meet_all pool k [] = refl
words_meet_all pool k (x ∷ xs) = ap (λ (j : ℕ). words.meet_all (parts_words pool) j xs) (words_meet pool k x.offset x refl) ∙ words_meet_all pool (meet pool k x) xs

meet_past : (pool : List Part) (k : ℕ) → length pool < k → (xs : List Part) → meet_all pool k xs ≡ k
unfolding meet_all meet when◌then◌else◌
meet_past pool k h [] = refl
meet_past pool k h (x ∷ xs) = rw (le-ltb k (length pool) (omega arith)) (meet_past pool k h xs)

-- interning keeps what was there
interned_begins : (l xs : List Part) → (more : List Part) × (interned_parts l xs ≡ l ++ more)
unfolding interned_parts
interned_begins l [] = ([], sym (append-nil l))
interned_begins l (x ∷ xs) = go (has_bytes x.bytes l) (interned_begins l xs) (interned_begins (l ++ (x ∷ [])) xs)
  where
    go : (t : Bool) → (more : List Part) × (interned_parts l xs ≡ l ++ more) → (more : List Part) × (interned_parts (l ++ (x ∷ [])) xs ≡ (l ++ (x ∷ [])) ++ more)
        → (more : List Part) × (interned_parts (when◌then◌else◌ t l (l ++ (x ∷ []))) xs ≡ l ++ more)
    go true v w = unfold when◌then◌else◌ in v
    go false v w = unfold when◌then◌else◌ in (x ∷ w.0, w.1 ∙ append_assoc l (x ∷ []) w.0)

has_at : (b : List ℕ) (l : List Part) (j : ℕ) → j < length l → same b (get_or l j no_part).bytes ≡ true → has_bytes b l ≡ true
unfolding has_bytes
has_at b [] j h e = absurd (omega arith)
has_at b (x ∷ l) zero h e = rw e
has_at b (x ∷ l) (suc j) h e = go (same b x.bytes) (has_at b l j (omega arith) e)
  where
    go : (t : Bool) → has_bytes b l ≡ true → (t or has_bytes b l) ≡ true
    go true q = refl
    go false q = q

has_none : (b : List ℕ) (l : List Part) → ((j : ℕ) → j < length l → same b (get_or l j no_part).bytes ≡ false) → has_bytes b l ≡ false
unfolding has_bytes
has_none b [] f = refl
has_none b (x ∷ l) f = rw (f 0 (omega arith)) (has_none b l (λ j h. f (suc j) (omega arith)))

module _ (pool : List Part) (rising : Rising 0 pool) (once : distinct (bytes_of pool) ≡ true) where
  module _ (k i : ℕ) (upto : k ≤ length pool) (below : i < length pool) where
    abbrev x : Part
    x = get_or pool i no_part

    first_has : i < k → has_bytes x.bytes (take k pool) ≡ true
    first_has h = has_at x.bytes (take k pool) i (omega (arith, length-take-le k pool upto)) (rw (get_or-take k pool i no_part h) (same_refl x.bytes))

    first_has_not : k ≤ i → has_bytes x.bytes (take k pool) ≡ false
    first_has_not h = has_none x.bytes (take k pool) (λ j l. go j (omega (arith, length-take-le k pool upto)) (same x.bytes (get_or (take k pool) j no_part).bytes) refl)
      where
        go : (j : ℕ) → j < k → (t : Bool) → same x.bytes (get_or (take k pool) j no_part).bytes ≡ t → same x.bytes (get_or (take k pool) j no_part).bytes ≡ false
        go j l false q = q
        go j l true q =
            let e : x.bytes ≡ (get_or pool j no_part).bytes = same_eq _ _ q ∙ ap (λ (y : Part). y.bytes) (get_or-take k pool j no_part l) in
            let z = entry_once pool once i j below (omega arith) e in
            absurd (omega arith)

    -- an entry that was met
    meet_old : i < k → meet pool k x ≡ k
    unfolding meet when◌then◌else◌
    meet_old h = go (ltb k (length pool)) refl
      where
        go : (t : Bool) → ltb k (length pool) ≡ t → when◌then◌else◌ t (when◌then◌else◌ (eqb x.offset (offset_at pool k)) (suc k) (when◌then◌else◌ (ltb (offset_at pool k) x.offset) (suc (length pool)) k)) k ≡ k
        go false q = refl
        go true q = let g = rises_between 0 pool rising i k h (ltb-true _ _ q) in rw (ne_eqb x.offset (offset_at pool k) (λ e. omega arith), le-ltb (offset_at pool k) x.offset (omega arith))

    -- the next one
    meet_next : i ≡ k → meet pool k x ≡ suc k
    unfolding meet when◌then◌else◌
    meet_next e = rw (lt-ltb k (length pool) (omega arith), eq-eqb x.offset (offset_at pool k) (ap (offset_at pool) e))

    -- a later one
    meet_late : k < i → meet pool k x ≡ suc (length pool)
    unfolding meet when◌then◌else◌
    meet_late h = let g = rises_between 0 pool rising k i h below in rw (lt-ltb k (length pool) (omega arith), ne_eqb x.offset (offset_at pool k) (λ e. omega arith), lt-ltb (offset_at pool k) x.offset g)

    interned_old : i < k → (xs : List Part) → interned_parts (take k pool) (x ∷ xs) ≡ interned_parts (take k pool) xs
    unfolding interned_parts when◌then◌else◌
    interned_old h xs = rw (first_has h)

    interned_new : k ≤ i → (xs : List Part) → interned_parts (take k pool) (x ∷ xs) ≡ interned_parts (take k pool ++ (x ∷ [])) xs
    unfolding interned_parts when◌then◌else◌
    interned_new h xs = rw (first_has_not h)

    taken_next : i ≡ k → take k pool ++ (x ∷ []) ≡ take (suc k) pool
    taken_next e = ap (λ (j : ℕ). take k pool ++ (get_or pool j no_part ∷ [])) e ∙ sym (take-suc pool k no_part (omega arith))

    -- gathering that has a later entry here does not give the pool
    not_late : k < i → (xs : List Part) → interned_parts (take k pool ++ (x ∷ [])) xs ≡ pool → ⊥
    not_late h xs e =
        let w = interned_begins (take k pool ++ (x ∷ [])) xs in
        let q : get_or pool k no_part ≡ x = ap (λ (l : List Part). get_or l k no_part) (sym e ∙ w.1 ∙ append_assoc (take k pool) (x ∷ []) w.0) ∙ get_or_at (take k pool) x w.0 no_part k (length-take-le k pool upto) in
        let g = rises_between 0 pool rising k i h below in
        let o : offset_at pool k ≡ offset_at pool i = ap (λ (y : Part). y.offset) q in
        omega arith

  by_place : (k i : ℕ) → (i < k) ⊎ ((i ≡ k) ⊎ (k < i))
  by_place k i = go (ltb i k) refl (ltb k i) refl
    where
      go : (a : Bool) → ltb i k ≡ a → (b : Bool) → ltb k i ≡ b → (i < k) ⊎ ((i ≡ k) ⊎ (k < i))
      go true p b q = inl (ltb-true i k p)
      go false p true q = inr (inr (ltb-true k i q))
      go false p false q = inr (inl (let g = ltb-false i k p in let h = ltb-false k i q in omega arith))

  -- one string more, where the pool is met by those after it
  one_met : (y : Part) (xs : List Part) (k : ℕ) → Entry pool y → k ≤ length pool → ((j : ℕ) → j ≤ length pool → meet_all pool j xs ≡ length pool → interned_parts (take j pool) xs ≡ pool)
      → meet_all pool (meet pool k y) xs ≡ length pool → interned_parts (take k pool) (y ∷ xs) ≡ pool
  one_met y xs k f u rest e = ⊎_elim old (λ z. ⊎_elim next late z) (by_place k f.index)
    where
      is : {A : Type 0} (m : Part → A) → m y ≡ m (get_or pool f.index no_part)
      is m = ap m f.is_entry

      from : (j : ℕ) → meet pool k (get_or pool f.index no_part) ≡ j → meet_all pool j xs ≡ length pool
      from j q = ap (λ (i : ℕ). meet_all pool i xs) (sym q ∙ sym (is (meet pool k))) ∙ e

      old : f.index < k → interned_parts (take k pool) (y ∷ xs) ≡ pool
      old l = is (λ z. interned_parts (take k pool) (z ∷ xs)) ∙ interned_old k f.index u f.below l xs ∙ rest k u (from k (meet_old k f.index u f.below l))

      next : f.index ≡ k → interned_parts (take k pool) (y ∷ xs) ≡ pool
      next l = is (λ z. interned_parts (take k pool) (z ∷ xs)) ∙ interned_new k f.index u f.below (omega arith) xs ∙ ap (λ (v : List Part). interned_parts v xs) (taken_next k f.index u f.below l)
          ∙ rest (suc k) (omega (arith, f.below)) (from (suc k) (meet_next k f.index u f.below l))

      late : k < f.index → interned_parts (take k pool) (y ∷ xs) ≡ pool
      late l = let q = from (suc (length pool)) (meet_late k f.index u f.below l) in let z = meet_past pool (suc (length pool)) (omega arith) xs in absurd (omega arith)

  all_met : (xs : List Part) → Entries pool xs → (k : ℕ) → k ≤ length pool → meet_all pool k xs ≡ length pool → interned_parts (take k pool) xs ≡ pool
  unfolding meet_all Entries
  all_met [] h k u e = unfold interned_parts in (ap (λ (j : ℕ). take j pool) e ∙ take-length pool)
  all_met (y ∷ xs) h k u e = one_met y xs k h.0 u (all_met xs h.1) e

  one_pooled : (y : Part) (xs : List Part) (k : ℕ) → Entry pool y → k ≤ length pool → ((j : ℕ) → j ≤ length pool → interned_parts (take j pool) xs ≡ pool → meet_all pool j xs ≡ length pool)
      → interned_parts (take k pool) (y ∷ xs) ≡ pool → meet_all pool (meet pool k y) xs ≡ length pool
  one_pooled y xs k f u rest e = ⊎_elim old (λ z. ⊎_elim next late z) (by_place k f.index)
    where
      is : {A : Type 0} (m : Part → A) → m y ≡ m (get_or pool f.index no_part)
      is m = ap m f.is_entry

      whole : interned_parts (take k pool) (get_or pool f.index no_part ∷ xs) ≡ pool
      whole = sym (is (λ z. interned_parts (take k pool) (z ∷ xs))) ∙ e

      old : f.index < k → meet_all pool (meet pool k y) xs ≡ length pool
      old l = ap (λ (j : ℕ). meet_all pool j xs) (is (meet pool k) ∙ meet_old k f.index u f.below l) ∙ rest k u (sym (interned_old k f.index u f.below l xs) ∙ whole)

      next : f.index ≡ k → meet_all pool (meet pool k y) xs ≡ length pool
      next l = ap (λ (j : ℕ). meet_all pool j xs) (is (meet pool k) ∙ meet_next k f.index u f.below l)
          ∙ rest (suc k) (omega (arith, f.below)) (ap (λ (v : List Part). interned_parts v xs) (sym (taken_next k f.index u f.below l)) ∙ sym (interned_new k f.index u f.below (omega arith) xs) ∙ whole)

      late : k < f.index → meet_all pool (meet pool k y) xs ≡ length pool
      late l = absurd (not_late k f.index u f.below l xs (sym (interned_new k f.index u f.below (omega arith) xs) ∙ whole))

  all_pooled : (xs : List Part) → Entries pool xs → (k : ℕ) → k ≤ length pool → interned_parts (take k pool) xs ≡ pool → meet_all pool k xs ≡ length pool
  unfolding meet_all Entries
  all_pooled [] h k u e = let q : take k pool ≡ pool = unfold interned_parts in e in let l : length (take k pool) ≡ length pool = ap length q in omega (arith, length-take-le k pool u)
  all_pooled (y ∷ xs) h k u e = one_pooled y xs k h.0 u (all_pooled xs h.1) e

  pub order_interned : (xs : List Part) → Entries pool xs → words.meet_all (parts_words pool) 0 xs ≡ length pool → interned_parts [] xs ≡ pool
  order_interned xs h e = all_met xs h 0 (omega arith) (sym (words_meet_all pool 0 xs) ∙ e)

  pub interned_order : (xs : List Part) → Entries pool xs → interned_parts [] xs ≡ pool → words.meet_all (parts_words pool) 0 xs ≡ length pool
  interned_order xs h e = words_meet_all pool 0 xs ∙ all_pooled xs h 0 (omega arith) e

-- A string is listed exactly if it is a name that ends at some index of the list.
use mathlib.Core.Bool.{Bool, true, false, ◌&&◌, ◌||◌, not, false≢true}
use mathlib.Core.List.{List, [], ◌∷◌, ◌++◌}
use mathlib.Core.Path.{◌≡◌, refl, ap, subst, sym, ◌∙◌}
use Prim.Native.Nat.{ℕ, zero, suc, ◌+◌, ◌-◌, ◌≤◌, ◌<◌}
use native.Mathlib.Omega.{arith}
use lib.Dec.{eqb, ltb}
use lib.ListN.{drop, drop_of_length-le, get_or, length, length-drop, length-take, take}
use lib.Seq.{drop-cons, get_or-drop, get_or-take}
use borrow.Author.Tests.{eq-eqb, eqb-false, eqb-true, ltb-false, ltb-true, ne_eqb}
use Rattle.std.specs.List.{list_any}
use Rattle.std.proofs.lemmas.List.Folds.{list_any_at}
use Rattle.slices.specs.Same.{same}
use Rattle.slices.specs.Laws.Same.{same_eq, same_refl}
use Rattle.payload.specs.Choice.{◌or◌, when◌then◌else◌}
use Rattle.payload.specs.Names.{is_listed, names_of, onto}
use Rattle.payload.specs.Pool.{is_in}
use Rattle.native_names.specs.NameEnds.{Clear, Decides, LastByte, MayEnd, NameEnds}

pub length_part : (p : List ℕ) (o n : ℕ) → o + n ≤ length p → length (take n (drop o p)) ≡ n
length_part p o n h = simp (length-take, length-drop) (omega arith)

-- what holds at no index before k, nor at k
pub range_more : (P : ℕ → Type 0) (from k : ℕ) → ((j : ℕ) → from ≤ j → j < k → P j → ⊥) → (P k → ⊥) → (j : ℕ) → from ≤ j → j < k + 1 → P j → ⊥
range_more P from k before here j f g p = go (eqb j k) refl
  where
    go : (t : Bool) → eqb j k ≡ t → ⊥
    go true q = here (subst P (eqb-true j k q) p)
    go false q = let d = eqb-false j k q in before j f (omega arith) p

-- what holds at no index before i, nor at one from i to j
pub range_join : (P : ℕ → Type 0) (i j : ℕ) → ((k : ℕ) → k < i → P k → ⊥) → (((k : ℕ) × (i ≤ k) × (k < j) × P k) → ⊥) → (k : ℕ) → k < j → P k → ⊥
range_join P i j before here k l p = go (ltb k i) refl
  where
    go : (t : Bool) → ltb k i ≡ t → ⊥
    go true q = before k (ltb-true k i q) p
    go false q = here (k, ltb-false k i q, l, p)

---- the names from an index on

module _ (s : List ℕ) where
  name_here :
      (n i : ℕ) → Clear s i (i + n) → i + n < length s → get_or s (i + n) 0 ≡ 0x0A → names_of (drop i s) ≡ take n (drop i s) ∷ names_of (drop (suc (i + n)) s)
  unfolding names_of when◌then◌else◌ onto
  name_here zero i h l e = let z : i + 0 ≡ i = omega arith in rw (z, drop-cons s i 0 (omega arith), eq-eqb (get_or s i 0) 0x0A (rw z at e))
  name_here (suc n) i h l e =
      let z : suc i + n ≡ i + suc n = omega arith in
      let ih = name_here n (suc i) (λ k f g. h k (omega arith) (omega arith)) (omega arith) (rw z e) in
      rw (drop-cons s i 0 (omega arith), ne_eqb (get_or s i 0) 0x0A (h i (omega arith) (omega arith)), ih, z)

  name_none : (n i : ℕ) → Clear s i (i + n) → i + n ≡ length s → names_of (drop i s) ≡ []
  unfolding names_of when◌then◌else◌ onto
  name_none zero i h l = let y : length s ≤ i = omega arith in rw (drop_of_length-le s y)
  name_none (suc n) i h l =
      rw (
        drop-cons s i 0 (omega arith),
        ne_eqb (get_or s i 0) 0x0A (h i (omega arith) (omega arith)),
        name_none n (suc i) (λ k f g. h k (omega arith) (omega arith)) (omega arith),
      )

-- the names after a 0A are the last ones
later : (s : List ℕ) (i : ℕ) → i < length s → get_or s i 0 ≡ 0x0A
    → (name : List ℕ) × (names : List (List ℕ)) × (names_of s ≡ name ∷ (names ++ names_of (drop (suc i) s)))
unfolding names_of when◌then◌else◌ onto
later [] i h e = absurd (omega arith)
later (b ∷ bs) zero h e = ([], [], rw (eq-eqb b 0x0A e))
later (b ∷ bs) (suc i) h e = go (eqb b 0x0A) refl (later bs i (omega arith) e)
  where
    go : (t : Bool) → eqb b 0x0A ≡ t → (name : List ℕ) × (names : List (List ℕ)) × (names_of bs ≡ name ∷ (names ++ names_of (drop (suc i) bs)))
        → (name : List ℕ) × (names : List (List ℕ)) × (names_of (b ∷ bs) ≡ name ∷ (names ++ names_of (drop (suc i) bs)))
    go true f w = ([], w.0 ∷ w.1, rw (f, w.2))
    go false f w = (b ∷ w.0, w.1, rw (f, w.2))

in_later : (x : List ℕ) (names more : List (List ℕ)) → is_in x more ≡ true → is_in x (names ++ more) ≡ true
unfolding is_in
in_later x [] more e = e
in_later x (y ∷ ys) more e = go (same x y) (in_later x ys more e)
  where
    go : (t : Bool) → is_in x (ys ++ more) ≡ true → (t or is_in x (ys ++ more)) ≡ true
    go true h = refl
    go false h = h

---- the two directions

module _ (s x : List ℕ) (n : ℕ) where
  pub listed_if : (k : ℕ) → k < length s → NameEnds s x n k → is_listed s x ≡ true
  unfolding is_listed is_in
  listed_if k h e = go (k - n) refl
    where
      here : is_in x (names_of (drop (k - n) s)) ≡ true
      here =
          let z : k - n + n ≡ k = omega (arith, e.long) in
          rw (name_here s n (k - n) (rw z e.clear) (omega (arith, e.long)) (rw z e.ends), e.bytes, same_refl x)

      go : (from : ℕ) → k - n ≡ from → is_in x (names_of s) ≡ true
      go zero f = rw f at here
      go (suc from) f =
          let y : k - (n + 1) ≡ from = omega arith in
          let w = later s from (omega arith) (rw y at (e.begins (omega arith))) in
          rw w.2 (in_later x (w.0 ∷ w.1) (names_of (drop (suc from) s)) (rw f at here))

  -- no name that ends before index i is x; the last one begun begins at `from`
  record Passed (from i : ℕ) : Type 0 where
    order : from ≤ i
    begins : 0 < from → get_or s (from - 1) 0 ≡ 0x0A
    clear : Clear s from i
    rest : is_listed s x ≡ is_in x (names_of (drop from s))

  module _ (from i : ℕ) (g : Passed from i) where
    on : (get_or s i 0 ≡ 0x0A → ⊥) → Passed from (i + 1)
    on h = record { order = omega (arith, g.order); begins = g.begins; clear = range_more (λ k. get_or s k 0 ≡ 0x0A) from i g.clear h; rest = g.rest }

    -- the list ends in the middle of a name
    at_end : i ≡ length s → is_listed s x ≡ false
    unfolding is_in
    at_end h =
        let z : from + (i - from) ≡ i = omega (arith, g.order) in
        g.rest ∙ ap (is_in x) (name_none s (i - from) from (rw z g.clear) (omega (arith, g.order)))

    module _ (h : i < length s) (e : get_or s i 0 ≡ 0x0A) where
      name_is : names_of (drop from s) ≡ take (i - from) (drop from s) ∷ names_of (drop (i + 1) s)
      name_is = let z : from + (i - from) ≡ i = omega (arith, g.order) in let y : suc (from + (i - from)) ≡ i + 1 = omega arith in
          name_here s (i - from) from (rw z g.clear) (omega arith) (rw z e) ∙ ap (λ (k : ℕ). take (i - from) (drop from s) ∷ names_of (drop k s)) y

      found : length x ≡ n → x ≡ take (i - from) (drop from s) → NameEnds s x n i
      found l q =
          let c : n ≡ i - from = omega (arith, g.order, simp (length-take, length-drop) at (ap length q)) in
          let a : i - n ≡ from = omega (arith, g.order) in
          let y : i - (n + 1) ≡ from - 1 = omega arith in
          record { long = omega arith; ends = e; begins = λ o. rw y (g.begins (omega arith)); bytes = rw (a, c) (sym q); clear = rw a g.clear }

      next : same x (take (i - from) (drop from s)) ≡ false → Passed (i + 1) (i + 1)
      unfolding is_in
      next q = record {
        order = omega arith;
        begins = λ o. let y : i + 1 - 1 ≡ i = omega arith in rw y e;
        clear = λ k f m. absurd (omega arith);
        rest = g.rest ∙ ap (is_in x) name_is ∙ rw q;
      }

  module _ (l : length x ≡ n) (none : (k : ℕ) → k < length s → NameEnds s x n k → ⊥) where
    pass : (m i from : ℕ) → i + m ≡ length s → Passed from i → is_listed s x ≡ false
    pass zero i from h g = at_end from i g (omega arith)
    pass (suc m) i from h g = byte (λ f p. pass m (i + 1) f (omega arith) p) (eqb (get_or s i 0) 0x0A) refl (same x (take (i - from) (drop from s))) refl
      where
        byte :
            ((f : ℕ) → Passed f (i + 1) → is_listed s x ≡ false) → (t : Bool) → eqb (get_or s i 0) 0x0A ≡ t → (u : Bool) →
            same x (take (i - from) (drop from s)) ≡ u → is_listed s x ≡ false
        byte ih true q true r = absurd (none i (omega arith) (found from i g (omega arith) (eqb-true _ _ q) l (same_eq _ _ r)))
        byte ih true q false r = ih (i + 1) (next from i g (omega arith) (eqb-true _ _ q) r)
        byte ih false q u r = ih from (on from i g (eqb-false _ _ q))

    pub listed_none : is_listed s x ≡ false
    unfolding is_listed
    listed_none =
        pass (length s) 0 0 (omega arith)
        (record { order = omega arith; begins = λ h. absurd (omega arith); clear = λ k f m. absurd (omega arith); rest = refl })

-- no name that ends before i is x, and r says whether one from i on is
pub listed_is : (s x : List ℕ) (n i : ℕ) (r : Bool) → length x ≡ n → ((k : ℕ) → k < i → NameEnds s x n k → ⊥)
    → Decides ((k : ℕ) × (i ≤ k) × (k < length s) × NameEnds s x n k) r → r ≡ is_listed s x
listed_is s x n i true l before d = let w = d.yes refl in sym (listed_if s x n w.0 w.2 w.3)
listed_is s x n i false l before d = sym (listed_none s x n l (range_join (NameEnds s x n) i (length s) before (d.no refl)))

---- the bytes that a block is tested for

abbrev tested : List ℕ → ℕ → ℕ → ℕ → Bool
tested s n last k = (eqb (get_or s k 0) 0x0A && eqb (get_or s (k - (n + 1)) 0) 0x0A) && eqb (get_or s (k - 1) 0) last

pub block_more : (s : List ℕ) (n last i k : ℕ) (any : Bool) → (any ≡ false → (j : ℕ) → i ≤ j → j < k → MayEnd s n last j → ⊥)
    → (any || tested s n last k) ≡ false → (j : ℕ) → i ≤ j → j < k + 1 → MayEnd s n last j → ⊥
block_more s n last i k true before e = absurd (false≢true (sym e))
block_more s n last i k false before e = range_more (MayEnd s n last) i k (before refl) (λ m. absurd (false≢true (sym e ∙ passes m)))
  where
    passes : MayEnd s n last k → tested s n last k ≡ true
    passes m = rw (eq-eqb _ _ m.0, eq-eqb _ _ m.1, eq-eqb _ _ m.2)

module _ (s p : List ℕ) (o last : ℕ) where
  pub may_end : (n k : ℕ) → LastByte p o n last → n < k → NameEnds s (take n (drop o p)) n k → MayEnd s n last k
  may_end zero k l h e = (e.ends, e.begins h, e.begins h ∙ sym (l.empty refl))
  may_end (suc m) k l h e =
      let y : k - suc m + m ≡ k - 1 = omega arith in
      let z : o + suc m - 1 ≡ o + m = omega arith in
      let small : m < suc m = omega arith in
      let q : get_or s (k - 1) 0 ≡ get_or p (o + m) 0 = rw y at (simp (get_or-take, get_or-drop) at (ap (λ (l : List ℕ). get_or l m 0) e.bytes)) in
      (e.ends, e.begins h, q ∙ sym (rw z at (l.some (omega arith))))

---- the tests for a name that ends at an index

module _ (s x : List ℕ) (i : ℕ) where
  -- the bytes before the index, as they are compared
  abbrev before : List ℕ
  before = take (i - (i - length x)) (drop (i - length x) s)

  pub name_ends : length x ≤ i → get_or s i 0 ≡ 0x0A → (0 < i - length x → get_or s (i - length x - 1) 0 ≡ 0x0A) → same x before ≡ true → Clear s (i - length x) i
      → NameEnds s x (length x) i
  name_ends l e b q c =
      let y : i - (length x + 1) ≡ i - length x - 1 = omega arith in
      let z : i - (i - length x) ≡ length x = omega arith in
      record { long = l; ends = e; begins = λ h. rw y (b (omega arith)); bytes = rw z at (sym (same_eq x before q)); clear = c }

  pub name_starts : NameEnds s x (length x) i → 0 < i - length x → get_or s (i - length x - 1) 0 ≡ 0x0A
  name_starts e h = let y : i - length x - 1 ≡ i - (length x + 1) = omega arith in rw y (e.begins (omega arith))

  pub name_same : NameEnds s x (length x) i → same x before ≡ true
  name_same e = let z : i - (i - length x) ≡ length x = omega (arith, e.long) in rw (z, e.bytes) (same_refl x)

---- the search for a 0A

an_end : (xs : List ℕ) → list_any (λ y. eqb y 0x0A) xs ≡ true → (k : ℕ) × (k < length xs) × (get_or xs k 0 ≡ 0x0A)
an_end [] e = absurd (false≢true e)
an_end (x ∷ xs) e = go (eqb x 0x0A) refl (an_end xs) e
  where
    go :
        (t : Bool) → eqb x 0x0A ≡ t → (list_any (λ y. eqb y 0x0A) xs ≡ true → (k : ℕ) × (k < length xs) × (get_or xs k 0 ≡ 0x0A)) →
        (t || list_any (λ y. eqb y 0x0A) xs) ≡ true → (k : ℕ) × (k < length (x ∷ xs)) × (get_or (x ∷ xs) k 0 ≡ 0x0A)
    go true f later e = (0, omega arith, eqb-true x 0x0A f)
    go false f later e = let w = later e in (suc w.0, omega (arith, w.1), w.2)

module _ (s : List ℕ) (from end : ℕ) (inside : (from ≤ end) × (end ≤ length s)) where
  part_at : (j : ℕ) → j < end - from → get_or (take (end - from) (drop from s)) j 0 ≡ get_or s (from + j) 0
  part_at j h = get_or-take (end - from) (drop from s) j 0 h ∙ get_or-drop from s j 0

  pub clear_by : (r : Bool) → r ≡ list_any (λ y. eqb y 0x0A) (take (end - from) (drop from s)) → Decides (Clear s from end) (not r)
  clear_by true e = record {
    yes = λ f. absurd (false≢true f);
    no = λ f clear.
        let w = an_end (take (end - from) (drop from s)) (sym e) in
        let l : w.0 < end - from = omega (arith, w.1, length-take (end - from) (drop from s)) in
        clear (from + w.0) (omega arith) (omega arith) (sym (part_at w.0 l) ∙ w.2);
  }
  clear_by false e = record {
    yes = λ f k h l g.
        let j : from + (k - from) ≡ k = omega arith in
        let m : k - from < end - from = omega arith in
        false≢true (e ∙ list_any_at (λ y. eqb y 0x0A) (take (end - from) (drop from s)) (k - from) 0 (simp (length-take, length-drop) (omega arith)) (eq-eqb _ _ (part_at (k - from) m ∙ rw j g)));
    no = λ f. absurd (false≢true (sym f));
  }

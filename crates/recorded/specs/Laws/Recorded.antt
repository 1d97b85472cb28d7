-- Laws of recorded numbers and tables: the number at an index, the zeros behind the last, one more number that is put into a table.
use Rattle.std.specs.Prelude.{Bool, true, ◌&&◌, List, [], ◌∷◌, ◌++◌, ◌≡◌, refl, ℕ, zero, suc, ◌+◌, ◌-◌, ◌*◌, ◌^◌, ◌≤◌, ◌<◌, leb, eqb, get_or, set, take, drop, min}
use Rattle.std.proofs.Math.Bool.{and_assoc, and_comm, and-true}
use Rattle.std.proofs.Common.{append-nil, ⊎_elim, eq-zero-or-pos, ap, ◌∙◌, zero-add, suc-add, mul-zero, mul-suc, add-one, length-append, length-drop, length-set, length-take, drop-cons, drop-drop, length-take-le, take-suc}
use Rattle.std.proofs.Math.Path.{sym}
use Rattle.std.proofs.Math.Nat.{pow-le-pow_right, min-eq_left, min-eq_right}
use Rattle.std.proofs.lemmas.Bool.Decides.{nat_tests}
use native.Mathlib.Omega.{arith}
use Rattle.std.proofs.Math.ListN.{length, drop_of_length-le}
use Rattle.std.proofs.lemmas.List.{length-replicate, get_or_at, set_at}
use Rattle.std.proofs.Math.Seq.{append_snoc, drop-nil, take_all, take-nil}
use Rattle.slices.specs.LittleEndian.{from_le_bytes}
use Rattle.slices.specs.Put.{put}
use Rattle.slices.specs.Same.{same}
use Rattle.std.specs.Cmp.Lexicographic.{pointwise, bytes_decides}
use Rattle.slices.specs.Zeros.{zeros}
use Rattle.slices.specs.Laws.LittleEndian.{Bytes, part_bytes, from_le_bytes_append, from_le_bytes_lt}
use Rattle.slices.specs.Laws.Put.{drop_put}
use Rattle.slices.specs.Laws.Same.{same_iff}
use Rattle.recorded.specs.Recorded.{number_at, numbers, numbers_by, agrees, agrees_by}

---- a part

module _ (bytes : List ℕ) (from size : ℕ) where
  pub part_none : length bytes ≤ from → take size (drop from bytes) ≡ []
  part_none h = rw (drop_of_length-le bytes h) (take-nil size)

  pub part_rest : length bytes - from ≤ size → take size (drop from bytes) ≡ drop from bytes
  part_rest h = take_all size (drop from bytes) (simp length-drop h)

---- a number

from_le_bytes_zeros : (n : ℕ) → from_le_bytes (zeros n) ≡ 0
unfolding from_le_bytes
from_le_bytes_zeros zero = refl
from_le_bytes_zeros (suc n) = omega (arith, from_le_bytes_zeros n)

drop_zeros : (n k : ℕ) → drop k (zeros n) ≡ zeros (n - k)
drop_zeros n zero = let e : n - 0 ≡ n = omega arith in rw e
drop_zeros zero (suc k) = let e : 0 - suc k ≡ 0 = omega arith in rw e
drop_zeros (suc n) (suc k) = let e : suc n - suc k ≡ n - k = omega arith in rw e (drop_zeros n k)

-- at most eight bytes, stored at the front of eight zeros
pub number_in_word : (s : List ℕ) → length s ≤ 8 → from_le_bytes (take 8 (drop 0 (put (zeros 8) 0 s))) ≡ from_le_bytes s
number_in_word s h =
    let e : drop 0 (put (zeros 8) 0 s) ≡ s ++ drop (length s) (zeros 8) = drop_put (zeros 8) 0 s (omega arith) ∙ rw (zero-add (length s)) in
    let l : length (s ++ zeros (8 - length s)) ≤ 8 = simp (length-append, length-replicate) (omega arith) in
    let z : 256 ^ length s * 0 ≡ 0 = mul-zero (256 ^ length s) in
    rw (e, drop_zeros 8 (length s), take_all 8 (s ++ zeros (8 - length s)) l, from_le_bytes_append s (zeros (8 - length s)), from_le_bytes_zeros (8 - length s), z)
    (omega arith)

-- fewer bytes make a smaller number
pub number_small : (width at : ℕ) (bytes : List ℕ) → Bytes bytes → number_at width bytes at < 256 ^ width
number_small width at bytes b =
    let s = take width (drop at bytes) in
    let l : length s ≤ width = simp length-take (omega arith) in
    let m : 256 ^ length s ≤ 256 ^ width = pow-le-pow_right (omega arith) {i = length s} {j = width} l in
    omega (arith, from_le_bytes_lt s (part_bytes bytes at width b))

---- numbers

module _ {A : Type 0} (of_bytes : List ℕ → A) (width : ℕ) where
  length_numbers : (count : ℕ) (bytes : List ℕ) → length (numbers_by of_bytes width count bytes) ≡ count
  unfolding numbers_by
  length_numbers zero bytes = refl
  length_numbers (suc count) bytes = ap suc (length_numbers count (drop width bytes))

  number_of : (count i : ℕ) (bytes : List ℕ) (d : A) → i < count → get_or (numbers_by of_bytes width count bytes) i d ≡ of_bytes (take width (drop (width * i) bytes))
  unfolding numbers_by
  number_of zero i bytes d h = absurd (omega arith)
  number_of (suc count) zero bytes d h = rw (mul-zero width)
  number_of (suc count) (suc i) bytes d h =
      let e : width + width * i ≡ width * suc i = omega (arith, mul-suc width i) in
      number_of count i (drop width bytes) d (omega arith) ∙ rw (drop-drop (width * i) width bytes, e)

numbers_none : (width count : ℕ) → numbers width count [] ≡ zeros count
unfolding numbers_by from_le_bytes
numbers_none width zero = refl
numbers_none width (suc count) = rw (take-nil width, drop-nil width, numbers_none width count)

-- zeros behind what is recorded
pub numbers_past : (width count more : ℕ) (bytes : List ℕ) → length bytes ≤ width * count → numbers width (count + more) bytes ≡ numbers width count bytes ++ zeros more
unfolding numbers_by
numbers_past width zero more bytes h =
    let e : length bytes ≤ 0 = omega (arith, mul-zero width) in
    let f : bytes ≡ [] = drop_of_length-le bytes {i = 0} e in
    rw (zero-add more, f, numbers_none width more)
numbers_past width (suc count) more bytes h =
    let l : length (drop width bytes) ≤ width * count = simp length-drop (omega (arith, mul-suc width count)) in
    rw (suc-add count more, numbers_past width count more (drop width bytes) l)

---- a table that the numbers are put into

none_left : (a b : ℕ) → eqb (a - b) 0 ≡ leb a b
none_left a b = grind (arith, nat_tests)

-- what follows the first `width` bytes, or nothing
pub rest_after : (width m : ℕ) (s : List ℕ) → m ≡ min width (length s) → take (length s - m) (drop m s) ≡ drop width s
rest_after width m s e =
    let n : length s - m ≤ length s - m = omega arith in
    part_rest s m (length s - m) n ∙ ⊎_elim some all (eq-zero-or-pos (width - length s))
  where
    some : width - length s ≡ 0 → drop m s ≡ drop width s
    some h = ap (λ (k : ℕ). drop k s) (e ∙ min-eq_left (omega arith))

    all : 0 < width - length s → drop m s ≡ drop width s
    all h = ap (λ (k : ℕ). drop k s) (e ∙ min-eq_right (omega arith)) ∙ drop_of_length-le s {i = length s} (omega arith) ∙ sym (drop_of_length-le s {i = width} (omega arith))

module _ {A : Type 0} (eq : A → A → Bool) where
  -- one element more
  pointwise_next : (s t : List A) (n : ℕ) (d : A) → n < length s → n < length t
      → pointwise eq (take (suc n) s) (take (suc n) t) ≡ (pointwise eq (take n s) (take n t) && eq (get_or s n d) (get_or t n d))
  pointwise_next [] t n d h k = absurd (omega arith)
  pointwise_next (a ∷ s) [] n d h k = absurd (omega arith)
  pointwise_next (a ∷ s) (b ∷ t) zero d h k = and-true (eq a b)
  pointwise_next (a ∷ s) (b ∷ t) (suc n) d h k =
      rw (pointwise_next s t n d (omega arith) (omega arith)) (sym (and_assoc (eq a b) (pointwise eq (take n s) (take n t)) (eq (get_or s n d) (get_or t n d))))

module _ {A : Type 0} (eq : A → A → Bool) (of_bytes : List ℕ → A) (width : ℕ) (recorded : List ℕ) (before : List A) where
  abbrev recorded_numbers : List A
  recorded_numbers = numbers_by of_bytes width (length before) recorded

  -- the first i numbers are put in, the others are left, and it is told whether the first i stood there before
  pub record PutIn (table : List A) (rest : List ℕ) (told : Bool) (i : ℕ) : Type 0 where
    pub long : length table ≡ length before
    pub left : rest ≡ drop (width * i) recorded
    pub is : table ≡ take i recorded_numbers ++ drop i before
    pub same_as : told ≡ pointwise eq (take i before) (take i recorded_numbers)

  pub put_start : PutIn before recorded true 0
  put_start = record { long = refl; left = rw (mul-zero width); is = refl; same_as = refl }

  module _ (table : List A) (rest : List ℕ) (told : Bool) (i : ℕ) (p : PutIn table rest told i) where
    pub put_next :
        (d n : A) (agree : Bool) (rest' : List ℕ) → n ≡ of_bytes (take width rest) → agree ≡ eq (get_or table i d) n → rest' ≡ drop width rest → i < length table →
        PutIn (set table i n) rest' (told && agree) (i + 1)
    put_next d n agree rest' f q r h =
        let l = p.long in
        let s = recorded_numbers in
        let size : length s ≡ length before = length_numbers of_bytes width (length before) recorded in
        let m : i < length before = omega arith in
        let k : i < length s = omega arith in
        let front : length (take i s) ≡ i = length-take-le i s (omega arith) in
        let is : n ≡ get_or s i d = f ∙ rw p.left (sym (number_of of_bytes width (length before) i recorded d m)) in
        let stands : table ≡ take i s ++ get_or before i d ∷ drop (suc i) before = p.is ∙ rw (drop-cons before i d m) in
        let was : get_or table i d ≡ get_or before i d = ap (λ (t : List A). get_or t i d) stands ∙ get_or_at (take i s) (get_or before i d) (drop (suc i) before) d i front in
        let far : width * i + width ≡ width * (i + 1) = omega (arith, mul-suc width i, add-one i) in
        record {
          long = length-set table i n ∙ p.long;
          left = r ∙ ap (drop width) p.left ∙ drop-drop width (width * i) recorded ∙ ap (λ (k : ℕ). drop k recorded) far;
          is =
              ap (λ (t : List A). set t i n) stands
              ∙ set_at (take i s) (get_or before i d) (drop (suc i) before) n i front
              ∙ rw (is, add-one i, take-suc s i d k) (sym (append_snoc (take i s) (get_or s i d) (drop (suc i) before)));
          same_as =
              ap (λ (t : Bool). t && agree) p.same_as
              ∙ ap (λ (t : Bool). pointwise eq (take i before) (take i s) && t) (q ∙ ap (λ (y : A). eq y n) was ∙ ap (eq (get_or before i d)) is)
              ∙ rw (add-one i) (sym (pointwise_next eq before s i d m k));
        }

    pub put_end : length table ≤ i → i ≤ length table → ((told && eqb (length rest) 0) ≡ agrees_by eq of_bytes width before recorded) × (table ≡ recorded_numbers)
    unfolding agrees_by
    put_end h k =
        let l = p.long in
        let size : length recorded_numbers ≡ length before = length_numbers of_bytes width (length before) recorded in
        let m : length before ≤ i = omega arith in
        let n : length recorded_numbers ≤ i = omega arith in
        let e : i ≡ length before = omega arith in
        let f : length rest ≡ length recorded - width * length before = ap length p.left ∙ length-drop (width * i) recorded ∙ ap (λ (j : ℕ). length recorded - width * j) e in
        let g : pointwise eq (take i before) (take i recorded_numbers) ≡ pointwise eq before recorded_numbers = rw (take_all i before m, take_all i recorded_numbers n) in (
          ap (λ (t : Bool). t && eqb (length rest) 0) (p.same_as ∙ g)
              ∙ and_comm (pointwise eq before recorded_numbers) (eqb (length rest) 0)
              ∙ ap (λ (t : Bool). t && pointwise eq before recorded_numbers) (ap (λ (j : ℕ). eqb j 0) f ∙ none_left (length recorded) (width * length before)),
          p.is ∙ rw (take_all i recorded_numbers n, drop_of_length-le before m, append-nil),
        )

-- for numbers the test of equality is `same`
pub agrees_same : (width : ℕ) (table recorded : List ℕ) → agrees width table recorded ≡ (leb (length recorded) (width * length table) && same table (numbers width (length table) recorded))
unfolding agrees_by
agrees_same width table recorded =
    let s = numbers width (length table) recorded in
    ap (λ (t : Bool). leb (length recorded) (width * length table) && t) (same_iff table s (pointwise eqb table s) (bytes_decides table s).0 (bytes_decides table s).1)

-- What was found of one reader tells what is found of a longer one.
use Rattle.std.specs.Prelude.{List, ◌≡◌, refl, Ok, Err}
use Prim.Native.Nat.{◌+◌, ◌-◌, ◌<◌, ◌≤◌, suc, ℕ}
use native.Mathlib.Omega.{arith}
use Rattle.payload.specs.Reader.{Part, Reader, Result, State, ◌>>=◌, and_then, ok, pure, refused}
use Rattle.payload.specs.Reading.{read_many}
use Rattle.payload.specs.Trees.{Node, cons, nil}
use Rattle.scan_rows.specs.Found.{Scanned, Scan}
use Rattle.scan_rows.specs.declared.BrokenRow.{BrokenRow}
use Rattle.scan_rows.specs.Laws.Steps.{Leads, leads_is, leads_made, leads_then}
use Rattle.scan_rows.specs.Laws.Under.{skip_add}
use Rattle.scan_rows.specs.Row.{at_row}
use Rattle.scan_rows.specs.Under.{Skip, stay}

module _ {A : Type 0} {rows : List ℕ} {n i : ℕ} where
  pub next_of : {r : Scan} {x : Result A} {j : ℕ} → r ≡ Ok j → Scanned rows n i r x → (a : A) × (x ≡ ok a (at_row rows j)) × Skip rows n i j
  next_of e s = (rw e at s).found

  pub bad_of : {r : Scan} {x : Result A} {b : BrokenRow} → r ≡ Err b → Scanned rows n i r x → x ≡ refused 17 b.row
  bad_of e s = (rw e at s).found

-- from row i the scan x came to row j, over n rows with those under them; the rest is y
pub record Sofar {A B : Type 0} (rows : List ℕ) (x : Result A) (y : Result B) (n i j : ℕ) : Type 0 where
  pub leads : Leads x y
  pub skipped : Skip rows n i j

module _ {A : Type 0} {rows : List ℕ} {x : Result A} {i : ℕ} where
  pub sofar_none : Sofar rows x x 0 i i
  sofar_none = record { leads = leads_is refl; skipped = stay }

  pub sofar_then : {B C : Type 0} {y : Result B} {z : Result C} {n m j k : ℕ} → Sofar rows x y n i j → Leads y z → Skip rows m j k → Sofar rows x z (n + m) i k
  sofar_then s l k = record { leads = leads_then s.leads l; skipped = skip_add s.skipped k }

  pub sofar_end : {B : Type 0} {y : Result B} {n j : ℕ} (b : B) → Sofar rows x y n i j → y ≡ ok b (at_row rows j) → Scanned rows n i (Ok j) x
  sofar_end {j = j} b s e = let w = s.leads.on_ok b (at_row rows j) e in record { found = (w.0, w.1, s.skipped) }

  pub sofar_bad : {B : Type 0} {y : Result B} {n m j : ℕ} {b : BrokenRow} → Sofar rows x y n i j → y ≡ refused 17 b.row → Scanned rows m i (Err b) x
  sofar_bad {b = b} s e = record { found = s.leads.on_refused 17 b.row e }

-- what leads to a scan, found by that scan
pub found_by : {A B : Type 0} {rows : List ℕ} {x : Result A} {y : Result B} {n m i j : ℕ} {r : Scan} → Leads x y → ((k : ℕ) → Skip rows n i k → Skip rows m j k) → Scanned rows n i r y → Scanned rows m j r x
found_by {r = Ok k} l f s = let w = l.on_ok s.found.0 _ s.found.1 in record { found = (w.0, w.1, f k s.found.2) }
found_by {r = Err b} l f s = record { found = l.on_refused 17 b.row s.found }

pub found_count : {A : Type 0} {rows : List ℕ} {x : Result A} {n m i : ℕ} {r : Scan} → n ≡ m → Scanned rows n i r x → Scanned rows m i r x
found_count e s = rw (← e) s

---- many trees

module _ (rows : List ℕ) (r : Reader (Node Part)) where
  pub many_next : {n k j j' : ℕ} (t : Node Part) → k < n → r (at_row rows j) ≡ ok t (at_row rows j') → Leads (read_many (n - k) r (at_row rows j)) (read_many (n - (k + 1)) r (at_row rows j'))
  unfolding read_many
  many_next {n} {k} {j} {j'} t h e =
      let z : n - k ≡ suc (n - (k + 1)) = omega arith in
      leads_then (leads_is (rw z (unfold ◌>>=◌ and_then in (rw e)))) (leads_made (read_many (n - (k + 1)) r) (λ ts. cons t ts) (at_row rows j'))

  pub many_bad : {n k j p : ℕ} → k < n → r (at_row rows j) ≡ refused 17 p → read_many (n - k) r (at_row rows j) ≡ refused 17 p
  unfolding read_many ◌>>=◌ and_then
  many_bad {n} {k} h e = let z : n - k ≡ suc (n - (k + 1)) = omega arith in rw z (rw e)

  pub many_end : {n k : ℕ} (s : State) → n ≤ k → read_many (n - k) r s ≡ ok nil s
  unfolding read_many pure
  many_end {n} {k} s h = let z : n - k ≡ 0 = omega arith in rw z

-- after k of n trees the scan stands at row `at`
pub record Many (rows : List ℕ) (r : Reader (Node Part)) (n i k at : ℕ) : Type 0 where
  pub upto : k ≤ n
  pub sofar : Sofar rows (read_many n r (at_row rows i)) (read_many (n - k) r (at_row rows at)) k i at

module _ {rows : List ℕ} {r : Reader (Node Part)} {n i : ℕ} where
  pub many_start : Many rows r n i 0 i
  many_start = let e : n - 0 ≡ n = omega arith in record { upto = omega arith; sofar = rw e sofar_none }

  pub many_more : {k at j : ℕ} {x : Scan} → Many rows r n i k at → k < n → x ≡ Ok j → Scanned rows 1 at x (r (at_row rows at)) → Many rows r n i (k + 1) j
  many_more {k} {at} {j} s h e d = let g = next_of e d in record { upto = omega arith; sofar = sofar_then s.sofar (many_next rows r {n = n} {k = k} {j = at} {j' = j} g.0 h g.1) g.2 }

  pub many_stop : {k at m : ℕ} {b : BrokenRow} {x : Scan} → Many rows r n i k at → k < n → x ≡ Err b → Scanned rows 1 at x (r (at_row rows at)) → Scanned rows m i (Err b) (read_many n r (at_row rows i))
  many_stop s h e d = sofar_bad s.sofar (many_bad rows r h (bad_of e d))

  pub many_done : {k at : ℕ} → Many rows r n i k at → n ≤ k → Scanned rows n i (Ok at) (read_many n r (at_row rows i))
  many_done {k} {at} s h = let e : k ≡ n = omega (arith, s.upto) in rw e at (sofar_end nil s.sofar (many_end rows r (at_row rows at) h))

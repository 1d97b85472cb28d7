-- What a part of the reader did: its answer is the definition's, and the lent tables hold what was read.
use Rattle.std.specs.Prelude.{List, ◌≡◌, ℕ, ◌+◌, ◌*◌, ◌≤◌, length}
use Rattle.std.specs.Prelude as std
use Rattle.slices.specs.Put.{put}
use Rattle.payload.specs.Reader.{Part, Result, ok, refused}
use Rattle.payload.specs.Reading.{Context}
use Rattle.payload.specs.declared.Capacities.{Capacities}
use Rattle.payload.specs.Rows.{row_table, row_width, span_table}
use Rattle.payload.specs.Tables.{limits, span_words}
use Rattle.payload.specs.Trees.{Node, Trees, single}
use Rattle.read_items.specs.Context.{context_of}
use Rattle.refusal.specs.Number.{number}
use Rattle.refusal.specs.declared.Refusal.{Refusal}
use Rattle.key_test.specs.Told.{Told}
use Rattle.read_values.specs.State.{state_of}
use Rattle.read_values.specs.declared.sources.Source.{Source}
use Rattle.read_values.specs.declared.State.{State}

abbrev pub context : Capacities → List ℕ → List ℕ → List ℕ → Context
context l p names pool = context_of l p names pool

-- what is read, as trees
pub record View (A : Type 0) : Type 0 where
  pub trees_of : A → Trees Part

abbrev pub many_trees : View (Trees Part)
many_trees = record { trees_of = λ ts. ts }

abbrev pub one_tree : View (Node Part)
one_tree = record { trees_of = λ t. single t }

-- its words in the row table, and in the span table
abbrev pub rows_in : {A : Type 0} → View A → A → List ℕ
rows_in view t = row_table (view.trees_of t)

abbrev pub spans_in : {A : Type 0} → View A → A → List ℕ
spans_in view t = span_words (span_table (view.trees_of t))

-- what is asked of the tables and the state
pub record Fit (capacities : Capacities) (p rows spans : List ℕ) (s : State) : Type 0 where
  pub place : s.at ≤ length p
  pub used : s.rows ≤ capacities.rows
  pub covered : s.spans ≤ capacities.spans
  pub room : row_width * capacities.rows ≤ length rows
  pub cover : 2 * capacities.spans ≤ length spans
  pub few : capacities.rows ≤ limits.rows
  pub few_spans : capacities.spans ≤ limits.spans

-- the state after a part of the reader, or its refusal
abbrev pub Step : Type 0
Step = std.Result State Refusal

-- x is t and the state s; t's words were stored into rows from row i on and into spans from span j on, and nothing else changed
pub record Ran {A : Type 0} (view : View A) (capacities : Capacities) (p rows rows' spans spans' : List ℕ) (i j : ℕ) (s : State) (t : A) (x : Result A) : Type 0 where
  pub is : x ≡ ok t (state_of p s)
  pub wrote : rows' ≡ put rows (row_width * i) (rows_in view t)
  pub size : row_width * s.rows ≡ row_width * i + length (rows_in view t)
  pub filled : spans' ≡ put spans (2 * j) (spans_in view t)
  pub spanned : 2 * s.spans ≡ 2 * j + length (spans_in view t)
  pub used : s.rows ≤ capacities.rows
  pub covered : s.spans ≤ capacities.spans
  pub place : s.at ≤ length p
  pub told : Told (view.trees_of t)

abbrev pub Out : {A : Type 0} → View A → Capacities → List ℕ → List ℕ → List ℕ → List ℕ → List ℕ → ℕ → ℕ → Step → Result A → Type 0
Out {A} view capacities p rows rows' spans spans' i j (std.Ok s) x = (t : A) × Ran view capacities p rows rows' spans spans' i j s t x
Out {A} view capacities p rows rows' spans spans' i j (std.Err e) x = x ≡ refused (number e.reason) e.place

-- The contract of a part of the reader. After a refusal nothing is said of the tables.
pub record Did {A : Type 0} (view : View A) (capacities : Capacities) (p rows rows' spans spans' : List ℕ) (i j : ℕ) (r : Step) (x : Result A) : Type 0 where
  pub out : Out view capacities p rows rows' spans spans' i j r x

-- a source as the definition's context
abbrev pub context_in : Source → Context
context_in e = context e.capacities e.payload.now e.names.now e.pool.now

abbrev pub Fits : Source → List ℕ → List ℕ → State → Type 0
Fits e rows spans s = Fit e.capacities e.payload.now rows spans s

-- A loop that reads so many trees alike.
use mathlib.Core.Path.{◌≡◌, refl, sym, ◌∙◌}
use Prim.Native.Nat.{ℕ, suc, ◌≤◌, ◌<◌, ◌+◌, ◌-◌}
use native.Mathlib.Omega.{arith}
use Rattle.slices.specs.Laws.Put.{put_none}
use Rattle.payload.specs.Reader.{Part, Reader, ◌>>=◌, and_then, pure}
use Rattle.payload.specs.Reading.{Context, read_many}
use Rattle.payload.specs.Rows.{row_table, span_table}
use Rattle.payload.specs.Tables.{span_words}
use Rattle.payload.specs.Trees.{Node, nil}
use Rattle.key_test.specs.Told.{Told}
use Rattle.refusal.specs.declared.Refusal.{Refusal}
use Rattle.std.specs.Prelude.{Result, Ok, Err}
use Rattle.read_values.specs.Did.{many_trees, one_tree}
use Rattle.read_values.specs.Does.{Does}
use Rattle.read_values.specs.Laws.Did.{did_front, did_same}
use Rattle.read_values.specs.Laws.Does.{did_from}
use Rattle.read_values.specs.declared.values.Decoder.{Decoder}

-- no tree: nothing is stored
pub does_none : (s : Decoder) {u : Unit {0}} → Does many_trees s s (Ok u) (λ e. pure nil)
unfolding pure row_table span_table span_words Told
does_none s = record {
  same = refl;
  did = record {
    out = (
      nil,
      record {
        is = refl;
        wrote = sym (put_none s.rows.now _);
        size = omega arith;
        filled = sym (put_none s.spans.now _);
        spanned = omega arith;
        used = s.fits.used;
        covered = s.fits.covered;
        place = s.fits.place;
        told = tt;
      },
    );
  };
}

module _ {s r : Decoder} {rd : Context → Reader (Node Part)} where
  -- one tree, and the rest
  pub does_more :
      (n : ℕ) {u : Unit {0}} {z : Decoder} {x : Result (Unit {0}) Refusal} → Does one_tree s r (Ok u) rd → Does many_trees r z x (λ e. read_many n (rd e)) →
      Does many_trees s z x (λ e. read_many (suc n) (rd e))
  unfolding read_many ◌>>=◌ and_then
  does_more n h k = record { same = k.same ∙ h.same; did = did_same (rw h.did.out.1.is) (did_front h.did.out.1 (did_from s h.same k)) }

  -- one tree is refused
  pub does_stop : (n : ℕ) {a : Refusal} → Does one_tree s r (Err a) rd → Does many_trees s r (Err a) (λ e. read_many (suc n) (rd e))
  unfolding read_many ◌>>=◌ and_then
  does_stop n h = record { same = h.same; did = record { out = rw h.did.out } }

  -- one tree alone
  pub does_one : {x : Result (Unit {0}) Refusal} → Does one_tree s r x rd → Does many_trees s r x (λ e. read_many 1 (rd e))
  unfolding read_many
  does_one {x = Err a} h = does_stop 0 h
  does_one {x = Ok u} h = does_more 0 h (does_none r)

-- After k trees: whatever the rest does from here, all of it does from the start.
pub record Sofar (s r : Decoder) (rd : Context → Reader (Node Part)) (count k : ℕ) : Type 0 where
  pub upto : k ≤ count
  pub rest : (z : Decoder) (x : Result (Unit {0}) Refusal) → Does many_trees r z x (λ e. read_many (count - k) (rd e)) →
      Does many_trees s z x (λ e. read_many count (rd e))

module _ {s : Decoder} {rd : Context → Reader (Node Part)} {count : ℕ} where
  pub sofar_start : Sofar s s rd count 0
  sofar_start = record { upto = omega arith; rest = λ z x d. let e : count - 0 ≡ count = omega arith in rw e at d }

  module _ {r : Decoder} {k : ℕ} (g : Sofar s r rd count k) where
    pub sofar_next : {z : Decoder} {u : Unit {0}} → k < count → Does one_tree r z (Ok u) rd → Sofar s z rd count (k + 1)
    sofar_next h d = record {
      upto = omega arith;
      rest = λ z x l. let e : count - k ≡ suc (count - (k + 1)) = omega arith in g.rest z x (rw e (does_more (count - (k + 1)) d l));
    }

    pub sofar_stop : {z : Decoder} {a : Refusal} → k < count → Does one_tree r z (Err a) rd → Does many_trees s z (Err a) (λ e. read_many count (rd e))
    sofar_stop h d = let e : count - k ≡ suc (count - (k + 1)) = omega arith in g.rest _ _ (rw e (does_stop (count - (k + 1)) d))

    pub sofar_end : {u : Unit {0}} → count ≤ k → Does many_trees s r (Ok u) (λ e. read_many count (rd e))
    unfolding read_many
    sofar_end h = let e : count - k ≡ 0 = omega arith in g.rest r _ (rw e (does_none r))

-- A reader of a row either goes on to the row's next words or refuses the row: its result is a test of the words, and then what follows.
use Rattle.std.specs.Prelude.{Bool, ◌&&◌, ◌≡◌, ℕ}
use Rattle.std.proofs.Math.Bool.{false, true}
use Rattle.std.proofs.Common.{◌∙◌}
use Rattle.std.proofs.Math.Path.{refl}
use Rattle.payload.specs.Choice.{◌and◌}
use Rattle.payload.specs.Reader.{Reader, Result, State, ◌>>=◌, and_then, must, ok, pure, refused}
use Rattle.payload.specs.Scan.{row_must}

-- x where a test of row i holds, else the row is refused
unfoldable pub pass : {A : Type 0} → Bool → ℕ → Result A → Result A
pass true i x = x
pass false i x = refused 17 i

module _ {A : Type 0} where
  pub pass_refused : (b : Bool) (i : ℕ) → pass {A = A} b i (refused 17 i) ≡ refused 17 i
  unfolding pass
  pass_refused true i = refl
  pass_refused false i = refl

  pub pass_refused_twice : (a b : Bool) (i : ℕ) → pass {A = A} a i (pass b i (refused 17 i)) ≡ refused 17 i
  pass_refused_twice a b i = rw (pass_refused b i) (pass_refused a i)

  pub pass_and : (a b : Bool) (i : ℕ) (x : Result A) → pass (a and b) i x ≡ pass a i (pass b i x)
  unfolding pass ◌and◌
  pass_and true b i x = refl
  pass_and false b i x = refl

  pub pass_both : (a b : Bool) (i : ℕ) (x : Result A) → pass (a && b) i x ≡ pass a i (pass b i x)
  unfolding pass
  pass_both true b i x = refl
  pass_both false b i x = refl

pub must_pass : (b : Bool) (s : State) → row_must b s ≡ pass b s.rows (ok tt s)
unfolding row_must must pass
must_pass true s = refl
must_pass false s = refl

pub and_pass : {A B : Type 0} (b : Bool) (i : ℕ) (x : Result A) (f : A → Reader B) → and_then (pass b i x) f ≡ pass b i (and_then x f)
unfolding pass and_then
and_pass true i x f = refl
and_pass false i x f = refl

-- a value made in two steps
pub made_twice : {A B C D : Type 0} (x : Result A) (k : Reader B) (c : A → B → C) (h : C → D) → and_then (and_then x (λ a. k >>= λ b. pure (c a b))) (λ z. pure (h z)) ≡ and_then x (λ a. k >>= λ b. pure (h (c a b)))
unfolding and_then ◌>>=◌ pure
made_twice {A} {B} {C} {D} (ok a s) k c h = go (k s)
  where
    go : (y : Result B) → and_then (and_then y (λ b. pure (c a b))) (λ z. pure (h z)) ≡ and_then y (λ b. pure (h (c a b)))
    go (ok b s) = refl
    go (refused n p) = refl
made_twice (refused n p) k c h = refl

---- the end of a chain of readers: y's result decides x's

pub record Leads {A B : Type 0} (x : Result A) (y : Result B) : Type 0 where
  pub on_ok : (b : B) (s : State) → y ≡ ok b s → (a : A) × (x ≡ ok a s)
  pub on_refused : (n p : ℕ) → y ≡ refused n p → x ≡ refused n p

pub leads_is : {A : Type 0} {x y : Result A} → x ≡ y → Leads x y
leads_is e = record { on_ok = λ b s f. (b, e ∙ f); on_refused = λ n p f. e ∙ f }

pub leads_then : {A B C : Type 0} {x : Result A} {y : Result B} {z : Result C} → Leads x y → Leads y z → Leads x z
leads_then f g = record { on_ok = λ b s e. let w = g.on_ok b s e in f.on_ok w.0 s w.1; on_refused = λ n p e. f.on_refused n p (g.on_refused n p e) }

-- a value made of the one that was read
pub leads_made : {A B : Type 0} (m : Reader A) (h : A → B) (s : State) → Leads (◌>>=◌ m (λ a. pure (h a)) s) (m s)
unfolding ◌>>=◌ and_then pure
leads_made m h s = record { on_ok = λ a s' e. (h a, rw e refl); on_refused = λ n p e. rw e refl }

-- Items read one after another by a loop: whatever the rest of the reading answers from here, with the items so far in front, the whole of it answers.
use Rattle.std.specs.Prelude.{List, [], ◌∷◌, ◌++◌, ℕ, ◌≤◌, length}
use Rattle.std.proofs.Common.{append_assoc, append-nil}
use Rattle.payload.specs.Reader.{Reader, ◌>>=◌, pure}
use Rattle.cursor.specs.Reads.{Answer, read, stopped, Reads}
use Rattle.cursor.specs.Laws.Reads.{reads_pure, reads_then, reads_stop}

-- items that were read, in front of what the rest answers
abbrev pub after : {A : Type 0} → List A → Answer (List A) → Answer (List A)
after xs (read ys next) = read (xs ++ ys) next
after xs (stopped n q) = stopped n q

pub record Sofar {A : Type 0} (p : List ℕ) (at : ℕ) (whole : Reader (List A)) (xs : List A) (next : ℕ) (rest : Reader (List A)) : Type 0 where
  pub inside : next ≤ length p
  pub all : (x : Answer (List A)) → Reads p next rest x → Reads p at whole (after xs x)

-- one item, read already, in front of what the rest answers
pub in_front : {A : Type 0} {p : List ℕ} {at : ℕ} {rest : Reader (List A)} (a : A) (x : Answer (List A)) → Reads p at rest x → Reads p at (rest >>= λ more. pure (a ∷ more)) (after (a ∷ []) x)
in_front a (read more next) g = reads_then _ g (reads_pure _ g.inside)
in_front a (stopped n q) g = reads_stop _ g

module _ {A : Type 0} {p : List ℕ} {at : ℕ} {whole : Reader (List A)} where
  pub sofar_none : at ≤ length p → Sofar p at whole [] at whole
  sofar_none h = record { inside = h; all = go }
    where
      go : (x : Answer (List A)) → Reads p at whole x → Reads p at whole (after [] x)
      go (read more q) g = g
      go (stopped n q) g = g

  module _ {xs : List A} {next : ℕ} {rest : Reader (List A)} (f : Sofar p at whole xs next rest) where
    pub sofar_more : {a : A} {next' : ℕ} {rest' : Reader (List A)} → next' ≤ length p →
        ((x : Answer (List A)) → Reads p next' rest' x → Reads p next rest (after (a ∷ []) x)) → Sofar p at whole (xs ++ (a ∷ [])) next' rest'
    sofar_more {a} {next'} {rest'} h one = record { inside = h; all = λ x g. joined x (f.all (after (a ∷ []) x) (one x g)) }
      where
        joined : (x : Answer (List A)) → Reads p at whole (after xs (after (a ∷ []) x)) → Reads p at whole (after (xs ++ (a ∷ [])) x)
        joined (read more q) g = rw append_assoc g
        joined (stopped n q) g = g

    pub sofar_stop : {n q : ℕ} → Reads p next rest (stopped n q) → Reads p at whole (stopped n q)
    sofar_stop {n} {q} g = f.all (stopped n q) g

    pub sofar_all : Reads p next rest (read [] next) → Reads p at whole (read xs next)
    sofar_all g = rw append-nil at (f.all (read [] next) g)

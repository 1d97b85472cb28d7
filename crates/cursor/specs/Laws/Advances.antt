-- Calls that move a cursor on, one after another, follow the text of a reader.
use Rattle.std.specs.Prelude.{Bool, true, false, ◌≡◌, refl, ℕ}
use Rattle.std.proofs.Common.{◌∙◌, subst}
use Rattle.payload.specs.Reader.{Reader, ◌>>=◌, ◌>>◌, pure, here, must}
use Rattle.cursor.specs.Advances.{Advances}
use Rattle.cursor.specs.Laws.Reads.{reads_pure, reads_then, reads_stop, reads_here, reads_must, reads_must_not}
use Rattle.cursor.specs.Reads.{Answer, read, stopped, Reads}
use Rattle.cursor.specs.declared.Cursor.{Cursor}

-- by a law of what is read at a place
pub by_law : {A B : Type 0} {c c' : Cursor} {r : Reader A} {s : Reader B} {x : Answer A} {y : Answer B}
    → (Reads c.payload.now c.at r x → Reads c.payload.now c.at s y) → Advances c c' r x → Advances c c' s y
by_law law g = record { payload = g.payload; reads = law g.reads }

-- nothing is read
pub stays : {A : Type 0} {c : Cursor} {r : Reader A} {x : Answer A} → Reads c.payload.now c.at r x → Advances c c r x
stays g = record { payload = refl; reads = g }

module _ {A B : Type 0} {c c' : Cursor} {r : Reader A} (f : A → Reader B) where
  pub then_reads : {a : A} {c'' : Cursor} {x : Answer B} → Advances c c' r (read a c'.at) → Advances c' c'' (f a) x → Advances c c'' (r >>= f) x
  then_reads {a} {x = x} g h = record {
    payload = h.payload ∙ g.payload;
    reads = reads_then f g.reads (subst (λ b. Reads b.now c'.at (f a) x) g.payload h.reads);
  }

  pub stop_reads : {n q : ℕ} → Advances c c' r (stopped n q) → Advances c c' (r >>= f) (stopped n q)
  stop_reads g = record { payload = g.payload; reads = reads_stop f g.reads }

module _ {B : Type 0} {c c' : Cursor} {x : Answer B} where
  pub here_reads : (f : ℕ → Reader B) → Advances c c' (f c.at) x → Advances c c' (here >>= f) x
  here_reads f g = record { payload = g.payload; reads = reads_here f g.reads }

  pub must_reads : {b : Bool} (n q : ℕ) {f : Reader B} → b ≡ true → Advances c c' f x → Advances c c' (must b n q >> f) x
  must_reads n q e g = record { payload = g.payload; reads = reads_must n q e g.reads }

pub must_not_reads : {B : Type 0} {c c' : Cursor} {b : Bool} {n q : ℕ} (f : Reader B) → b ≡ false → c'.payload ≡ c.payload → Advances c c' (must b n q >> f) (stopped n q)
must_not_reads f e h = record { payload = h; reads = reads_must_not f e }

pub pure_reads : {A : Type 0} {c : Cursor} (a : A) → Advances c c (pure a) (read a c.at)
pure_reads {c = c} a = record { payload = refl; reads = reads_pure a c.inside }

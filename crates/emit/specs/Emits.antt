-- What a call does to an emitter.
use Rattle.std.specs.Prelude.{Bool, not, is_some, ◌&&◌, List, ◌≡◌, ℕ, leb, length}
use Rattle.emit.specs.declared.Emitter.{Emitter}
use Rattle.emit.specs.Emit.{further, Emitted}
use Rattle.emit.specs.Expected.{bytes_of}

-- s became r: the bytes b were emitted, by way of the same output and the same expected payload
pub record Emits (s r : Emitter) (b : List ℕ) : Type 0 where
  pub same_output : r.out.ghost_name ≡ s.out.ghost_name
  pub same_expected : r.expected ≡ s.expected
  pub wrote : Emitted (is_some s.expected) (bytes_of s.expected) s.out.now r.out.now s.at r.at b

-- s became r: n bytes further on, and nothing was stored
pub record Advances (s r : Emitter) (n : ℕ) : Type 0 where
  pub same_output : r.out.ghost_name ≡ s.out.ghost_name
  pub same_expected : r.expected ≡ s.expected
  pub same_bytes : r.out.now ≡ s.out.now
  pub place : r.at ≡ further s.at n

-- whether bytes from here on are only measured
unfoldable pub only_measures : Emitter → Bool
only_measures s = not (is_some s.expected) && leb (length s.out.now) s.at

-- Calls on the items of a payload: the payload stays, so the pool's strings still lie in it, and calls follow one another.
use Rattle.std.specs.Prelude.{List, [], ◌≡◌, ℕ, Result}
use Rattle.std.specs.Borrow.{Bor}
use Rattle.std.proofs.Common.{◌∙◌}
use Rattle.payload.specs.declared.Capacities.{Capacities}
use Rattle.payload.specs.declared.Extent.{Extent}
use Rattle.refusal.specs.declared.Refusal.{Refusal}
use Rattle.cursor.specs.declared.Cursor.{Cursor}
use Rattle.read_items.specs.Context.{PoolFits, ReadsIndex, ReadsPart}
use Rattle.read_items.specs.Over.{ReadsOver}
use Rattle.read_items.specs.declared.items.Items.{Items}

-- what an index or its string is read as holds for any capacities
none : Capacities
none = record { rows = 0; spans = 0; strings = 0; starts = 0 }

module _ {c c' : Cursor} {pool : List ℕ} where
  pub index_keeps_payload : {r : Result ℕ Refusal} → ReadsIndex c c' pool r → c'.payload ≡ c.payload
  index_keeps_payload g = (g.is [] none).payload

  pub payload_kept : {r : Result Extent Refusal} → ReadsPart c c' pool r → c'.payload ≡ c.payload
  payload_kept g = (g.is [] none).payload

-- so the strings of the pool lie in it still
pub fits_still : {p p' : Bor (List ℕ)} (pool : List ℕ) → p' ≡ p → PoolFits p.now pool → PoolFits p'.now pool
fits_still pool e fits = rw e fits

---- one call, and one after another, where what they say of the cursor has a law

module _ {Moves Told : Cursor → Cursor → List ℕ → Type 0} {s m : Items} where
  pub over_by : (Moves s.cursor m.cursor s.pool.now → Told s.cursor m.cursor s.pool.now) → ReadsOver s m Moves → ReadsOver s m Told
  over_by law g = record { same_pool = g.same_pool; moves = law g.moves }

  module _ {Next : Cursor → Cursor → List ℕ → Type 0} {s' : Items} where
    pub over_then : (Moves s.cursor m.cursor s.pool.now → Next m.cursor s'.cursor s.pool.now → Told s.cursor s'.cursor s.pool.now)
        → ReadsOver s m Moves → ReadsOver m s' Next → ReadsOver s s' Told
    over_then law g h = record { same_pool = h.same_pool ∙ g.same_pool; moves = law g.moves (rw g.same_pool at h.moves) }

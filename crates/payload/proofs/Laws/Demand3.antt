-- Demand 3: the house check passes exactly the writings of sound programs, reading gives the program back, and one writing has one program.
use Rattle.std.specs.Prelude.{true, List, [], ◌↔◌, ◌≡◌, ℕ, length}
use Rattle.std.proofs.Common.{◌∙◌, arith}
use Rattle.std.proofs.Math.Path.{ap, sym}
use Rattle.slices.specs.Laws.LittleEndian.{Bytes}
use Rattle.payload.specs.Demand3.{HouseProgram, Writes}
use Rattle.payload.specs.Equal.{Equal}
use Rattle.payload.specs.House.{house, is_ok}
use Rattle.payload.proofs.Laws.Equal.{view_holds, view_script}
use Rattle.payload.proofs.Laws.House.{Bounded, IsWriting, house_passes, house_reads, is_named, named_is, one_script, read_back, read_holds, reading_short}
use Rattle.payload.specs.Laws.Rules.{Small}
use Rattle.payload.proofs.Laws.SoundTables.{sound_holds, sound_script_lem}
use Rattle.payload.specs.Names.{is_listed}
use Rattle.payload.specs.Reader.{State, ok}
use Rattle.payload.specs.Reading.{Payload}
use Rattle.payload.specs.declared.Capacities.{Capacities}
use Rattle.payload.specs.Sound.{Tables}
use Rattle.payload.specs.Tables.{capacities_of, reading, tables_of}
use Rattle.payload.specs.Trees.{forget_script}

-- the capacities of lent tables are small
pub small_capacities : (rows spans starts pool : ℕ) → Small (capacities_of rows spans starts pool)
unfolding capacities_of
small_capacities rows spans starts pool = record { small_rows = omega arith; small_spans_lem = omega arith; small_strings = omega arith; small_starts = omega arith }

module _ (c : Capacities) (small : Small c) (names p : List ℕ) (bytes : Bytes p) where
  -- its script, without the places of parts, has that writing
  pub is_writing_lem : (T : Tables) (h : HouseProgram c names p T) → IsWriting c (is_listed names) p (forget_script h.script)
  is_writing_lem T h = record { sound = sound_script_lem T h.script h.end h.sound; named = named_is (forget_script h.script) h.named; in_list = h.in_list; fits = h.held; its_writing = h.its_writing; within = h.short }

  -- the check passes a payload exactly when some sound program that the tables hold, with its native names listed, has exactly those bytes as its writing
  pub demand_3 : (is_ok (house c names p) ≡ true) ↔ ((T : Tables) × HouseProgram c names p T)
  demand_3 = (to, λ x. house_passes c small names p bytes (forget_script x.1.script) (is_writing_lem x.0 x.1))
    where
      to : is_ok (house c names p) ≡ true → (T : Tables) × HouseProgram c names p T
      to e = let x = house_reads c small names p bytes e in
          let w = x.3 in (
            tables_of p x.0.script,
            record {
              script = x.0.script;
              end = x.4;
              sound = x.5;
              small_store = unfold tables_of in w.within;
              in_list = w.in_list;
              held = w.fits;
              named = is_named _
                  w.named;
              its_writing = w.its_writing;
              short = w.within;
            },
          )

  -- then reading is accepted, takes every byte and gives that program, equal in everything
  pub demand_3_back : (T : Tables) (h : HouseProgram c names p T)
      → (u : Payload) × (s : State) × (reading c names p ≡ ok u s) × (s.rest ≡ []) × (s.place ≡ length p) × (forget_script u.script ≡ forget_script h.script) × Equal T (tables_of p u.script)
  unfolding Equal
  demand_3_back T h =
      let w = is_writing_lem T h in
      let r = read_back c small (is_listed names) p (forget_script h.script) w in
      let holds = read_holds c p (is_listed names) bytes r.0 r.1 r.2 in (
        r.0,
        r.1,
        reading_short c names p h.short ∙ r.2,
        r.3,
        r.4,
        r.5,
        view_holds T h.script (sound_holds T h.script h.end h.sound) w.sound
            ∙ ap view_script (sym r.5)
            ∙ sym (view_holds (tables_of p r.0.script) r.0.script holds (rw r.5 w.sound)),
      )

-- two sound programs with one writing are equal, whichever tables they stand in
pub demand_3_one : (p : List ℕ) (T U : Tables) → Writes T p → Writes U p → Equal T U
unfolding Equal
demand_3_one p T U t u =
    let a = sound_script_lem T t.script t.end t.sound in
    let b = sound_script_lem U u.script u.end u.sound in
    let e = one_script (forget_script t.script) (forget_script u.script) a (named_is _ t.named) (bounded T t) b (named_is _ u.named) (bounded U u) (t.its_writing ∙ sym u.its_writing) in
    view_holds T t.script (sound_holds T t.script t.end t.sound) a ∙ ap view_script e ∙ sym (view_holds U u.script (sound_holds U u.script u.end u.sound) b)
  where
    bounded : (T : Tables) (t : Writes T p) → Bounded (forget_script t.script)
    bounded T t = record { bound_rows = t.few_rows; bound_spans = t.few_spans; bound_starts = t.few_starts; bound_writing = rw t.its_writing t.short }

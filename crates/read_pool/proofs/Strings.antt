-- Strings read one after another, with their offsets and lengths in the table.
use Rattle.std.specs.Prelude.{List, [], ◌∷◌, ◌++◌, ◌≡◌, refl, ℕ, suc, ◌+◌, ◌*◌, ◌-◌, ◌/◌, ◌≤◌, ◌<◌, length, set, take, drop, Result, Ok, Err}
use Rattle.std.proofs.Common.{sym, ◌∙◌, subst, arith, le-ltb, lt-ltb, length-append, length-set, length-take-le}
use Rattle.std.proofs.lemmas.List.{take-append-le}
use Rattle.std.proofs.Math.Numerals.{add-one}
use Rattle.slices.specs.Put.{put}
use Rattle.slices.specs.Laws.Put.{put_none}
use Rattle.refusal.specs.declared.Refusal.{Refusal}
use Rattle.payload.specs.Laws.Tables.{length_parts_words}
use Rattle.payload.specs.Numbers.{varint}
use Rattle.payload.specs.Reader.{Part}
use Rattle.payload.specs.Reading.{read_pool, read_string, read_strings}
use Rattle.payload.specs.Tables.{parts_words}
use Rattle.cursor.specs.Reads.{Answer, read, stopped, Reads, part_of}
use Rattle.cursor.specs.Advances.{Advances}
use Rattle.cursor.specs.declared.Cursor.{Cursor}
use Rattle.cursor.specs.Laws.Advances.{then_reads}
use Rattle.cursor.specs.Laws.Reads.{reads_pure, reads_then, reads_stop, reads_here, reads_must, reads_must_not}
use Rattle.cursor.specs.Laws.Sofar.{after, Sofar, in_front, sofar_none, sofar_more, sofar_stop, sofar_all}
use Rattle.read_items.specs.Laws.Context.{length_part}
use Rattle.read_items.specs.Laws.Front.{put_front}
use Rattle.read_pool.specs.PoolRead.{PoolFilled}
use Rattle.read_pool.specs.Strings.{Stored, StringsRead}
use Rattle.read_pool.specs.Laws.PoolTable.{part_more, AllIn, part_in_lem, all_in_last, strings_of_words, words_fit_lem, words_stored}

-- k strings are read by cursors from c₀ to c
pub record Storing (c₀ c : Cursor) (table₀ table : List ℕ) (most count k : ℕ) : Type 0 where
  pub payload : c.payload ≡ c₀.payload
  pub parts : List Part
  pub sofar : Sofar c₀.payload.now c₀.at (read_strings most count 0) parts c.at (read_strings most (count - k) k)
  pub each : length parts ≡ k
  pub fits : k ≤ most
  pub upto : k ≤ count
  pub same : length table ≡ length table₀
  pub stored : table ≡ put table₀ 0 (parts_words parts)
  pub stand : AllIn c₀.payload.now parts

module _ {c₀ : Cursor} {table₀ : List ℕ} {most count : ℕ} where
  pub storing_none : Storing c₀ c₀ table₀ table₀ most count 0
  unfolding parts_words AllIn
  storing_none = record {
    payload = refl;
    parts = [];
    sofar = let e : count - 0 ≡ count = omega arith in rw e (sofar_none c₀.inside);
    each = refl;
    fits = omega arith;
    upto = omega arith;
    same = refl;
    stored = sym (put_none table₀ 0);
    stand = tt;
  }

  module _ {c : Cursor} {table : List ℕ} {k : ℕ} (f : Storing c₀ c table₀ table most count k) where
    module _ (h : k < count) where
      one : count - k ≡ suc (count - suc k)
      one = omega arith

      pub storing_full : most ≤ k → Advances c₀ c (read_strings most count 0) (stopped 21 c.at)
      unfolding read_strings
      storing_full l = record { payload = f.payload; reads = sofar_stop f.sofar (rw one (reads_here _ (reads_must_not _ (le-ltb k most l)))) }

      module _ {c' : Cursor} (l : k < most) where
        pub storing_stop : {n q : ℕ} → Advances c c' read_string (stopped n q) → Advances c₀ c' (read_strings most count 0) (stopped n q)
        unfolding read_strings
        storing_stop {n} {q} g = record {
          payload = g.payload ∙ f.payload;
          reads = sofar_stop f.sofar (rw one (reads_here _ (reads_must _ _ (lt-ltb k most l) (reads_stop _ (subst (λ b. Reads b.now c.at read_string (stopped n q)) f.payload g.reads)))));
        }

        pub storing_more :
            (o n : ℕ) → Advances c c' read_string (read (part_of c.payload.now o n) c'.at) → o + n ≤ length c.payload.now →
            Storing c₀ c' table₀ (set (set table (2 * k) o) (2 * k + 1) n) most count (k + 1)
        unfolding read_strings
        storing_more o n g i = record {
          payload = g.payload ∙ f.payload;
          parts = f.parts ++ (part_of p o n ∷ []);
          sofar = sofar_more f.sofar here_now.inside string_first;
          each = omega (arith, length-append f.parts (part_of p o n ∷ []), f.each);
          fits = omega arith;
          upto = omega arith;
          same = simp length-set f.same;
          stored = rw f.stored (part_more table₀ f.parts o k (part_of p o n) f.each refl (sym (length_part p o n inside)));
          stand = all_in_last p f.parts (part_of p o n) f.stand (part_in_lem p o n inside);
        }
          where
            p : List ℕ
            p = c₀.payload.now

            inside : o + n ≤ length p
            inside = subst (λ b. o + n ≤ length b.now) f.payload i

            here_now : Reads p c.at read_string (read (part_of p o n) c'.at)
            here_now = subst (λ b. Reads b.now c.at read_string (read (part_of b.now o n) c'.at)) f.payload g.reads

            string_first :
                (x : Answer (List Part)) → Reads p c'.at (read_strings most (count - (k + 1)) (k + 1)) x →
                Reads p c.at (read_strings most (count - k) k) (after (part_of p o n ∷ []) x)
            string_first x y = rw one (reads_here _ (reads_must _ _ (lt-ltb k most l) (reads_then _ here_now (in_front _ x (rw add-one at y)))))

    pub storing_all : count ≤ k → Stored c₀ c table₀ table most count count
    unfolding read_strings
    storing_all h = record {
      parts = f.parts;
      reads = record { payload = f.payload; reads = sofar_all f.sofar (let z : count - k ≡ 0 = omega arith in rw z (reads_pure [] f.sofar.inside)) };
      each = omega (arith, f.each, f.upto);
      fits = omega (arith, f.fits, f.upto);
      stored = f.stored;
      strings = strings_of_words c₀.payload.now f.parts f.stand;
      strings_inside = words_fit_lem c₀.payload.now f.parts f.stand;
    }

---- the count, and then the strings

module _ {c c' c'' : Cursor} {table table' : List ℕ} {most count : ℕ} (g : Advances c c' varint (read count c'.at)) where
  pub pool_read : {r : Result ℕ Refusal} → 2 * most ≤ length table → StringsRead c' c'' table table' most count r → PoolFilled c c'' table table' most r
  unfolding read_pool
  pool_read {r = Ok n} h f =
      let s = f.outcome in
      let words : take (2 * n) table' ≡ parts_words s.parts = rw s.stored (words_stored table s.parts n s.each (omega (arith, s.fits))) in
      record {
        outcome = record {
          parts = s.parts;
          is = then_reads _ g s.reads;
          each = s.each;
          stored = s.stored;
          fits = s.fits;
          strings = rw (words, ← g.payload) s.strings;
          strings_inside = rw (words, ← g.payload) s.strings_inside;
        };
      }
  pool_read {r = Err e} h f = record { outcome = then_reads _ g f.outcome }

---- a table of which the front part was lent, with room for as many strings as are read at most

module _ (table part : List ℕ) {most : ℕ} (room : 2 * most ≤ length table) (same : length part ≡ length (take (2 * most) table)) where
  pub front_filled :
      {c c' : Cursor} {r : Result ℕ Refusal} → PoolFilled c c' (take (2 * most) table) part (length (take (2 * most) table) / 2) r →
      PoolFilled c c' table (part ++ drop (2 * most) table) most r
  front_filled {c} {c'} {r} f = whole r (rw half at f)
    where
      half : length (take (2 * most) table) / 2 ≡ most
      half = omega (arith, length-take-le (2 * most) table room)

      whole : (r : Result ℕ Refusal) → PoolFilled c c' (take (2 * most) table) part most r → PoolFilled c c' table (part ++ drop (2 * most) table) most r
      whole (Ok n) f =
          let a = f.outcome in
          let words : take (2 * n) (part ++ drop (2 * most) table) ≡ take (2 * n) part =
          take-append-le (2 * n) part (drop (2 * most) table) (omega (arith, a.fits, same, length-take-le (2 * most) table room)) in
          record {
            outcome = record {
              parts = a.parts;
              is = a.is;
              each = a.each;
              stored = rw a.stored (put_front (2 * most) table (parts_words a.parts) (omega (arith, a.fits, a.each, length_parts_words a.parts)) room);
              fits = a.fits;
              strings = rw words a.strings;
              strings_inside = rw words a.strings_inside;
            };
          }
      whole (Err e) f = record { outcome = f.outcome }

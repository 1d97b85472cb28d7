-- Starts read one after another, and kept in the table.
use Rattle.std.specs.Prelude.{List, [], ◌∷◌, ◌++◌, ◌≡◌, refl, ℕ, suc, ◌+◌, ◌-◌, ◌%◌, ◌^◌, ◌≤◌, ◌<◌, ℤ, pos, length, set}
use Rattle.std.proofs.Common.{sym, ◌∙◌, subst, arith, le-ltb, lt-ltb, length-append, length-set}
use Rattle.std.proofs.Math.Numerals.{add-one}
use Rattle.slices.specs.Put.{put}
use Rattle.slices.specs.Laws.Put.{put_none, put_snoc}
use Rattle.signed.specs.Signed.{word_of}
use Rattle.payload.specs.Reading.{read_starts}
use Rattle.payload.specs.Spans.{read_position}
use Rattle.cursor.specs.Reads.{Answer, read, stopped, Reads}
use Rattle.cursor.specs.Advances.{Advances}
use Rattle.cursor.specs.declared.Cursor.{Cursor}
use Rattle.cursor.specs.Laws.Reads.{reads_pure, reads_then, reads_stop, reads_here, reads_must, reads_must_not}
use Rattle.cursor.specs.Laws.Sofar.{after, Sofar, in_front, sofar_none, sofar_more, sofar_stop, sofar_all}
use Rattle.read_lines.specs.Starts.{Stored}

-- k starts are read by cursors from c₀ to c
pub record Storing (c₀ c : Cursor) (table₀ table : List ℕ) (most count k : ℕ) (sum : ℤ) : Type 0 where
  pub payload : c.payload ≡ c₀.payload
  pub starts : List ℕ
  pub sofar : Sofar c₀.payload.now c₀.at (read_starts most count 0 (pos 0)) starts c.at (read_starts most (count - k) k sum)
  pub each : length starts ≡ k
  pub fits : k ≤ most
  pub upto : k ≤ count
  pub same : length table ≡ length table₀
  pub stored : table ≡ put table₀ 0 starts

module _ {c₀ : Cursor} {table₀ : List ℕ} {most count : ℕ} where
  pub storing_none : Storing c₀ c₀ table₀ table₀ most count 0 (pos 0)
  storing_none = record {
    payload = refl;
    starts = [];
    sofar = let e : count - 0 ≡ count = omega arith in rw e (sofar_none c₀.inside);
    each = refl;
    fits = omega arith;
    upto = omega arith;
    same = refl;
    stored = sym (put_none table₀ 0);
  }

  module _ {c : Cursor} {table : List ℕ} {k : ℕ} {sum : ℤ} (f : Storing c₀ c table₀ table most count k sum) where
    module _ (h : k < count) where
      one : count - k ≡ suc (count - suc k)
      one = omega arith

      pub storing_full : most ≤ k → Advances c₀ c (read_starts most count 0 (pos 0)) (stopped 24 c.at)
      unfolding read_starts
      storing_full l = record { payload = f.payload; reads = sofar_stop f.sofar (rw one (reads_here _ (reads_must_not _ (le-ltb k most l)))) }

      module _ {c' : Cursor} (l : k < most) where
        pub storing_stop : {n q : ℕ} → Advances c c' (read_position sum) (stopped n q) → Advances c₀ c' (read_starts most count 0 (pos 0)) (stopped n q)
        unfolding read_starts
        storing_stop {n} {q} g = record {
          payload = g.payload ∙ f.payload;
          reads = sofar_stop f.sofar (rw one (reads_here _ (reads_must _ _ (lt-ltb k most l) (reads_stop _ (subst (λ b. Reads b.now c.at (read_position sum) (stopped n q)) f.payload g.reads)))));
        }

        pub storing_more :
            {new : ℤ} {w : ℕ} → Advances c c' (read_position sum) (read new c'.at) → w ≡ word_of new % 2 ^ 32 →
            Storing c₀ c' table₀ (set table k w) most count (k + 1) new
        unfolding read_starts
        storing_more {new} {w} g e = rw e (record {
          payload = g.payload ∙ f.payload;
          starts = f.starts ++ (word_of new % 2 ^ 32 ∷ []);
          sofar = sofar_more f.sofar here_now.inside start_first;
          each = omega (arith, length-append f.starts (word_of new % 2 ^ 32 ∷ []), f.each);
          fits = omega arith;
          upto = omega arith;
          same = simp length-set f.same;
          stored = rw f.stored start_last;
        })
          where
            p : List ℕ
            p = c₀.payload.now

            here_now : Reads p c.at (read_position sum) (read new c'.at)
            here_now = subst (λ b. Reads b.now c.at (read_position sum) (read new c'.at)) f.payload g.reads

            start_first :
                (x : Answer (List ℕ)) → Reads p c'.at (read_starts most (count - (k + 1)) (k + 1) new) x →
                Reads p c.at (read_starts most (count - k) k sum) (after (word_of new % 2 ^ 32 ∷ []) x)
            start_first x y = rw one (reads_here _ (reads_must _ _ (lt-ltb k most l) (reads_then _ here_now (in_front _ x (rw add-one at y)))))

            start_last : set (put table₀ 0 f.starts) k (word_of new % 2 ^ 32) ≡ put table₀ 0 (f.starts ++ (word_of new % 2 ^ 32 ∷ []))
            start_last = let j : k ≡ 0 + length f.starts = omega (arith, f.each) in rw j (put_snoc table₀ 0 f.starts (word_of new % 2 ^ 32))

    pub storing_all : count ≤ k → Stored c₀ c table₀ table most count count
    unfolding read_starts
    storing_all h = record {
      starts = f.starts;
      reads = record { payload = f.payload; reads = sofar_all f.sofar (let z : count - k ≡ 0 = omega arith in rw z (reads_pure [] f.sofar.inside)) };
      each = omega (arith, f.each, f.upto);
      fits = omega (arith, f.fits, f.upto);
      stored = f.stored;
    }

-- Reading a varint at a place of a list is reading it at the front of what stands from there on.
use Rattle.std.specs.Prelude.{Bool, cond, true, false, List, [], ◌∷◌, ◌≡◌, refl, ℕ, zero, suc, ◌+◌, ◌%◌, ltb, drop}
use Rattle.std.proofs.Common.{sym, ap, ◌∙◌, add_assoc, add-zero}
use Rattle.varint.specs.Varint.{cut, scan, under, varint_of}
use Rattle.varint.specs.Varint.{Varint}
use Rattle.varint.specs.Varint.{Number, Refused}

-- found k places further on, as a varint that begins at `first`
abbrev pub moved_to : ℕ → ℕ → Varint → Varint
moved_to first k (Number n next) = Number n (k + next)
moved_to first k (Refused number place) = Refused number first

moved_under : (first k group : ℕ) (x : Varint) → under group (moved_to first k x) ≡ moved_to first k (under group x)
moved_under first k group (Number n next) = refl
moved_under first k group (Refused number place) = refl

moved_cut : (first k : ℕ) (x : Varint) → cut (moved_to first k x) ≡ moved_to first k (cut x)
moved_cut first k (Number n next) = refl
moved_cut first k (Refused number place) = refl

scan_moved : (first other k most : ℕ) (bytes : List ℕ) (next : ℕ) → scan first most bytes (k + next) ≡ moved_to first k (scan other most bytes next)
unfolding scan
scan_moved first other k zero bytes next = refl
scan_moved first other k (suc most) [] next = refl
scan_moved first other k (suc most) (b ∷ bytes) next = rw (add_assoc k next 1, scan_moved first other k most bytes (next + 1), moved_under first k (b % 128)) (go (ltb b 128))
  where
    go : (t : Bool) → cond t (Number b (k + (next + 1))) (moved_to first k (under (b % 128) (scan other most bytes (next + 1))))
        ≡ moved_to first k (cond t (Number b (next + 1)) (under (b % 128) (scan other most bytes (next + 1))))
    go true = refl
    go false = refl

pub varint_moved : (s : List ℕ) (at : ℕ) → varint_of s at ≡ moved_to at at (varint_of (drop at s) 0)
unfolding varint_of
varint_moved s at = ap cut (ap (scan at 10 (drop at s)) (sym (add-zero at)) ∙ scan_moved at 0 at 10 (drop at s) 0) ∙ moved_cut at at (scan 0 10 (drop at s) 0)

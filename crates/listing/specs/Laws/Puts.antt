-- One text put after another is both texts put.
use Rattle.std.specs.Prelude.{◌≡◌, refl, List, [], ◌∷◌, ◌++◌, ℕ, ◌+◌, ◌-◌, length, set, replicate}
use Rattle.std.proofs.Common.{sym, ap, ◌∙◌, add-zero, arith, length-append}
use Rattle.std.proofs.lemmas.List.{length-replicate}
use Rattle.slices.specs.Put.{put}
use Rattle.slices.specs.Laws.Put.{length_put, put_last, put_none, put_put}
use Rattle.listing.specs.declared.Text.{Text}
use Rattle.listing.specs.Listing.{column, decimal}
use Rattle.listing.specs.Puts.{Adds, Puts}

pub puts_none : (out : List ℕ) (at : ℕ) → Puts out at [] at out
puts_none out at = record { end_is = sym (add-zero at); out_is = sym (put_none out at) }

pub puts_one : (out : List ℕ) (at b : ℕ) → Puts out at (b ∷ []) (at + 1) (set out at b)
puts_one out at b = record { end_is = refl; out_is = put_last out at b }

pub puts_then : {out out' out'' s t : List ℕ} {at i j : ℕ} → Puts out at s i out' → Puts out' i t j out'' → Puts out at (s ++ t) j out''
puts_then {out} {out'} {out''} {s} {t} {at} {i} {j} p q = record {
  end_is = let a = p.end_is in let b = q.end_is in simp length-append (omega arith);
  out_is = q.out_is ∙ ap (λ (l : List ℕ). put l i t) p.out_is ∙ ap (λ (k : ℕ). put (put out at s) k t) p.end_is ∙ put_put out at s t;
}

pub puts_length : {out out' s : List ℕ} {at i : ℕ} → Puts out at s i out' → length out' ≡ length out
puts_length {out} {out'} {s} {at} p = ap length p.out_is ∙ length_put out at s

pub adds_none : (t : Text) → Adds t [] t
adds_none t = record { puts = puts_none _ _; long = refl; same_reference = refl }

pub adds_then : {t t' t'' : Text} {s u : List ℕ} → Adds t s t' → Adds t' u t'' → Adds t (s ++ u) t''
adds_then p q = record { puts = puts_then p.puts q.puts; long = q.long ∙ p.long; same_reference = q.same_reference ∙ p.same_reference }

-- spaces, and then the digits of a number
pub puts_column : {out out' out'' : List ℕ} (at spaces width n k : ℕ) (digits : List ℕ) → digits ≡ decimal n → length digits ≡ k → spaces ≡ width - k
    → out' ≡ put out at (replicate spaces 32) → out'' ≡ put out' (at + spaces) digits → Puts out at (column width n) (at + spaces + k) out''
unfolding column
puts_column {out} {out'} {out''} at spaces width n k digits e l m p q =
    let before : Puts out at (replicate spaces 32) (at + spaces) out' = record { end_is = ap (λ (j : ℕ). at + j) (sym (length-replicate spaces 32)); out_is = p } in
    let number : Puts out' (at + spaces) digits (at + spaces + k) out'' = record { end_is = ap (λ (j : ℕ). at + spaces + j) (sym l); out_is = q } in
    rw (← e, l, ← m) (puts_then before number)

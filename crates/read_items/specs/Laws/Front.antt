-- A run stored into the front part of a table, which was lent.
use Rattle.std.specs.Prelude.{List, ◌++◌, ◌≡◌, ℕ, ◌≤◌, length, take, drop}
use Rattle.std.proofs.Common.{sym, ap, ◌∙◌, arith, append_assoc, zero-add, take-append-drop, length-take-le}
use Rattle.std.proofs.lemmas.List.{drop-append-le}
use Rattle.slices.specs.Put.{put}
use Rattle.slices.specs.Laws.Put.{put_parts}

pub put_front : {A : Type 0} (n : ℕ) (xs ys : List A) → length ys ≤ n → n ≤ length xs → put (take n xs) 0 ys ++ drop n xs ≡ put xs 0 ys
put_front n xs ys h g =
    let l = length-take-le n xs g in
    rw (put_parts (take n xs) 0 ys (omega arith), put_parts xs 0 ys (omega arith), zero-add (length ys), append_assoc ys (drop (length ys) (take n xs)) (drop n xs))
    (ap (λ zs. ys ++ zs) (sym (drop-append-le (length ys) (take n xs) (drop n xs) (omega arith)) ∙ ap (drop (length ys)) (take-append-drop n xs)))

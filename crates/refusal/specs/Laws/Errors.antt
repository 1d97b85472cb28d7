-- What `?` returns where a call was refused: that call's refusal.
use Rattle.std.specs.Prelude.{◌≡◌, Result, Ok, Err, IsErrAnd}
use Rattle.std.proofs.Common.{ap}
use Rattle.refusal.specs.declared.Refusal.{Refusal}

pub same_error : {A : Type 0} (r : Result A Refusal) (e : Refusal) → IsErrAnd r (λ y. y ≡ e) → r ≡ Err e
same_error (Ok a) e h = absurd h
same_error (Err y) e h = ap Err h

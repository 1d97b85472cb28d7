-- An answer as the definitions have it: what is accepted, or a refusal's number and place.
use Rattle.std.specs.Prelude.{ℕ, Result, Ok, Err}
use Rattle.refusal.specs.Number.{number}
use Rattle.refusal.specs.declared.Refusal.{Refusal}

pub data Answer (A : Type 0) : Type 0 where
  accepted : A → Answer A
  refused : ℕ → ℕ → Answer A

-- the answer of a result
abbrev pub answer_of : {A : Type 0} → Result A Refusal → Answer A
answer_of (Ok a) = accepted a
answer_of (Err e) = refused (number e.reason) e.place

-- 0, or the refusal's number
abbrev pub number_of : {A : Type 0} → Answer A → ℕ
number_of (accepted a) = 0
number_of (refused n p) = n

-- `rlc2_house_check` meets its contract: the number of `house_check` with tables of these lengths.
use Rattle.std.proofs.Common.{◌≡◌, ℕ, ◌*◌, List, length, ap, ◌∙◌}
use lib.ListN.{length-replicate, replicate}
use Rattle.payload.specs.Answers.{read_number}
use Rattle.payload.specs.House.{house}
use Rattle.payload.specs.Rows.{row_width}
use Rattle.payload.specs.Tables.{Leaves, capacities_of, read_answer}
use Rattle.payload.specs.declared.Capacities.{Capacities}
use Rattle.payload.specs.Answers.{Read}
use Rattle.host.specs.Host.{check_capacities}
use Rattle.host.proofs.rlc2_house_check.Goals as goal

capacities_are :
    (rows spans starts pool : List ℕ) → length rows ≡ 512 * row_width → length spans ≡ 2 * 1024 → length starts ≡ 512 → length pool ≡ 2 * 256 →
    capacities_of (length rows) (length spans) (length starts) (length pool) ≡ check_capacities
unfolding capacities_of
capacities_are rows spans starts pool a b c d = rw (a, b, c, d)

number_is :
    (names p rows spans starts pool : List ℕ) {rows' spans' starts' pool' : List ℕ} {r : Read} → length rows ≡ 512 * row_width → length spans ≡ 2 * 1024 →
    length starts ≡ 512 → length pool ≡ 2 * 256 →
    Leaves (house (capacities_of (length rows) (length spans) (length starts) (length pool)) names p) rows spans starts pool rows' spans' starts' pool' r →
    read_number r ≡ read_number (read_answer (house check_capacities names p))
number_is names p rows spans starts pool a b c d h =
    ap read_number h.answer ∙ ap (λ (k : Capacities). read_number (read_answer (house k names p))) (capacities_are rows spans starts pool a b c d)

-- the same of the four tables of zeros
number_of : (names p : List ℕ) {rows' spans' starts' pool' : List ℕ} {r : Read} → (
    let rows : List ℕ = replicate (512 * row_width) 0 in
    let spans : List ℕ = replicate (2 * 1024) 0 in
    let starts : List ℕ = replicate 512 0 in
    let pool : List ℕ = replicate (2 * 256) 0 in
    Leaves (house (capacities_of (length rows) (length spans) (length starts) (length pool)) names p) rows spans starts pool rows' spans' starts' pool' r
    ) → read_number r ≡ read_number (read_answer (house check_capacities names p))
number_of names p h =
    number_is names p _ _ _ _ (length-replicate {A = ℕ} (512 * row_width) 0) (length-replicate {A = ℕ} (2 * 1024) 0) (length-replicate {A = ℕ} 512 0)
    (length-replicate {A = ℕ} (2 * 256) 0) h

pub returns-in-Ok : goal.returns-in-Ok
returns-in-Ok c = rw c.in-Ok.is at (number_of c.args.names.now c.args.payload.now c.house_check.ensures)

pub returns-in-Err : goal.returns-in-Err
returns-in-Err c = c.from.ensures ∙ (rw c.in-Err.is at (number_of c.args.names.now c.args.payload.now c.house_check.ensures))

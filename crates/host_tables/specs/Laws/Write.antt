-- A host's write is the write of the program that its words are.
use Rattle.std.specs.Prelude.{List, ◌≡◌, ℕ, length}
use Rattle.std.proofs.Common.{sym, ap, ◌∙◌}
use Rattle.slices.specs.Zeros.{pad_to}
use Rattle.payload.specs.Answers.{Written, written_fields, written_number}
use Rattle.payload.specs.Tables.{capacities_of}
use Rattle.payload.specs.Write.{Writing, held_tables, program_of_words, write_tables, write_answer, writing_fields, written_over, written_pool, WriteLeaves}
use Rattle.payload.specs.declared.Program.{Program}
use Rattle.answer.specs.PutIfRoom.{put_if_room}
use Rattle.host_tables.specs.Write.{host_writing}

-- what the write of that program leaves is what the host's write leaves
pub leaves_host : (store counts rows spans starts pool out : List ℕ) {pool' out' : List ℕ} {r : Written} {p : Program} → p ≡ program_of_words counts
    → WriteLeaves (write_tables (capacities_of (length rows) (length spans) (length starts) (length pool)) (length out) p (held_tables store p rows spans starts)) pool out pool' out' r
    → WriteLeaves (host_writing store counts rows spans starts (length pool) (length out)) pool out pool' out' r
leaves_host store counts rows spans starts pool out e h = rw e at h

-- number, pool table, output and answer
pub host_answer : {x : Writing} (pool out : List ℕ) {pool' out' : List ℕ} {r s : Written} (answer : List ℕ) {answer' : List ℕ}
    → WriteLeaves x pool out pool' out' r → r ≡ s → answer' ≡ put_if_room answer 0 (written_fields s)
    → (written_number s ≡ written_number (write_answer x)) × ((pool' ≡ pad_to (length pool) (written_pool x)) × ((out' ≡ written_over x out) × (answer' ≡ put_if_room answer 0 (writing_fields x))))
host_answer pool out answer h e f = (ap written_number (sym e ∙ h.answer), (h.pool_is, (h.out_is, f ∙ ap (put_if_room answer 0) (ap written_fields (sym e) ∙ h.fields))))

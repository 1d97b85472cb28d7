-- `serialize::write_sound` meets its contract: refusal 21, or what the gathered strings and the tables give is the script's writing. The pool table keeps the used entries
-- of an accepted write, without links, and nothing at a refusal.
use Rattle.std.specs.Prelude.{Result, Ok, Err, is_ok}
use Rattle.std.proofs.Common.{ℕ, true, false, ◌≡◌, refl, sym, ap, ◌∙◌, length, length-take-le}
use native.Mathlib.Omega.{arith}
use Rattle.refusal.specs.Answer.{answer_of}
use Rattle.refusal.specs.Answer as write
use Rattle.refusal.specs.declared.Refusal.{Refusal}
use Rattle.slices.specs.Zeros.{zero_from}
use Rattle.slices.specs.Laws.Zeros.{pad_to_nil}
use Rattle.payload.specs.Held.{tables_in}
use Rattle.payload.specs.Write.{write_answer}
use Rattle.serialize.specs.Laws.Pooled.{gathered_accepted, gathered_refused}
use Rattle.serialize.specs.Laws.Sound.{entries_in, entries_writable, leaves_gathered, leaves_full}
use Rattle.serialize.proofs.write_sound.Goals as goal

accepted : (r : Result ℕ Refusal) → true ≡ is_ok r → (n : ℕ) × (answer_of r ≡ write.accepted n)
accepted (Ok n) h = (n, refl)
accepted (Err e) h = absurd cc

refused : (r : Result ℕ Refusal) → false ≡ is_ok r → (n q : ℕ) × (answer_of r ≡ write.refused n q)
refused (Ok n) h = absurd cc
refused (Err e) h = (_, _, refl)

pub overflow_mul-end : goal.overflow_mul-end
overflow_mul-end c = omega (arith, entries_in c.in-Some.is c.gather_strings.ensures.result_in_bounds.0)

pub slice_bounds-write_pooled-end : goal.slice_bounds-write_pooled-end
slice_bounds-write_pooled-end c = entries_in c.in-Some.is c.gather_strings.ensures.result_in_bounds.0

pub slice_bounds-write_pooled-end-2 : goal.slice_bounds-write_pooled-end-2
slice_bounds-write_pooled-end-2 c = sym (length-take-le _ c.gather_strings.new.pool (entries_in c.in-Some.is c.gather_strings.ensures.result_in_bounds.0))

pub write_pooled-written-requires : goal.write_pooled-written-requires
write_pooled-written-requires c = entries_writable _ _ _ c.requires.script.2 _ c.gather_strings.ensures.value _ c.in-Some.is c.gather_strings.ensures.result_in_bounds c.requires.store_len_bound

pub unlink-requires : goal.unlink-requires
unlink-requires c = entries_in c.in-Some.is c.gather_strings.ensures.result_in_bounds.0

pub returns-then-is_ok : goal.returns-then-is_ok
returns-then-is_ok c =
    let is = (accepted _ c.if-is_ok.ensures.value).1 in
    let found = c.gather_strings in
    rw is
    (leaves_gathered _ _ _ c.requires.script.2 _ found.ensures.value _ c.in-Some.is found.ensures.result_in_bounds c.requires.store_len_bound _ found.auto.pool
    (gathered_accepted (tables_in c.args.tables.now) (length c.args.out.now) _ found.new.pool
    c.write_pooled-written.ensures is (entries_in c.in-Some.is found.ensures.result_in_bounds.0) (c.zero_from.ensures ∙ ap (zero_from _) c.unlink.ensures)))

pub returns-else-is_ok : goal.returns-else-is_ok
unfolding write_answer
returns-else-is_ok c =
    let is = (refused _ c.if-is_ok.ensures.value).2 in
    let found = c.gather_strings in
    leaves_gathered _ _ _ c.requires.script.2 _ found.ensures.value _ c.in-Some.is found.ensures.result_in_bounds c.requires.store_len_bound _ found.auto.pool
    (gathered_refused (tables_in c.args.tables.now) (length c.args.out.now) _ found.new.pool
    c.write_pooled-written.ensures is is (c.fill.ensures.after (λ y e. e) ∙ sym (pad_to_nil _)))

pub returns-in_default : goal.returns-in_default
returns-in_default c =
    rw c.at.ensures (leaves_full _ _ _ c.requires.script.2 _ c.gather_strings.ensures.value _ _ _ c.in_default.is c.gather_strings.ensures.pool_after)

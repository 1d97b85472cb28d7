-- `equal_ends` meets its contract: the first words agree or decide, and where they agree the last ones decide.
use Rattle.std.specs.Prelude.{refl, ◌-◌, length, take, drop}
use Rattle.std.proofs.Common.{sym, ◌∙◌, arith, eq-eqb, ne_eqb}
use Rattle.slices.specs.LittleEndian.{from_le_bytes}
use Rattle.slices.specs.Laws.LittleEndian.{Bytes}
use Rattle.slices.specs.Laws.Same.{same_word, take_same, same_last, same_part_no}
use Rattle.slices.proofs.equal_ends.Goals as goal

pub returns-then-word : goal.returns-then-word
returns-then-word c =
    let a = c.args.a.now in
    let b = c.args.b.now in
    let last = length a - 8 in
    let p : Bytes a = λ j. omega (arith, c.type_inv.a j) in
    let q : Bytes b = λ j. omega (arith, c.type_inv.b j) in
    let first = take_same a b 0 8 refl (sym (same_word a b 0 8 (omega arith) (omega arith) p q) ∙ eq-eqb _ _ (sym c.word.ensures ∙ c.if-word.true ∙ c.word-2.ensures)) in
    rw (c.word-then-word.ensures, c.word-then-word-2.ensures)
    (same_word a b last 8 (omega arith) (omega arith) p q ∙ same_last a b last 8 8 (omega arith) (omega arith) (omega arith) first)

pub returns-else-word : goal.returns-else-word
returns-else-word c =
    let a = c.args.a.now in
    let b = c.args.b.now in
    let p : Bytes a = λ j. omega (arith, c.type_inv.a j) in
    let q : Bytes b = λ j. omega (arith, c.type_inv.b j) in
    let apart = ne_eqb (from_le_bytes (take 8 (drop 0 a))) (from_le_bytes (take 8 (drop 0 b))) (λ e. c.if-word.false (c.word.ensures ∙ e ∙ sym c.word-2.ensures)) in
    ne_eqb _ _ c.if-word.false ∙ sym (same_part_no a b 0 8 (sym (same_word a b 0 8 (omega arith) (omega arith) p q) ∙ apart))

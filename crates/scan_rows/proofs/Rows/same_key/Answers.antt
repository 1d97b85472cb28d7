-- `scan_rows::Rows::same_key` meets its contract: a key that is no string is one word; a string's bytes lie in the store.
use mathlib.Core.Path.{ap₂, sym, ◌∙◌}
use native.Mathlib.Omega.{arith}
use lib.Dec.{eqb}
use lib.ListN.{take, drop}
use Rattle.payload.specs.Choice.{when◌then◌else◌}
use Rattle.row_layout.specs.Row.{row_word}
use Rattle.slices.specs.Laws.Same.{same_refl}
use Rattle.scan_rows.specs.Laws.Keys.{key_in, key_part, tags_differ, numbers_same, lengths_differ, strings_same}
use Rattle.scan_rows.proofs.Rows.same_key.Goals as goal

pub invariant_of-one : goal.invariant_of-one
invariant_of-one c =
    let h = key_in c.args.self.now.store.now c.args.self.now.words.now c.args.a c.requires.a_value in record { inside = omega arith }

pub invariant_of-other : goal.invariant_of-other
invariant_of-other c =
    let h = key_in c.args.self.now.store.now c.args.self.now.words.now c.args.b c.requires.b_value in record { inside = omega arith }

pub returns-then-tag : goal.returns-then-tag
unfolding row_word when◌then◌else◌
returns-then-tag c =
    let args = c.args in
    sym
    (tags_differ args.self.now.store.now args.self.now.words.now args.a args.b
    (λ e. c.if-tag.true (c.tag-tag.ensures ∙ e ∙ sym c.tag.ensures)))

pub returns-then-tag-ne-STRING : goal.returns-then-tag-ne-STRING
unfolding row_word when◌then◌else◌
returns-then-tag-ne-STRING c =
    let args = c.args in
    ap₂ eqb c.word-w.ensures c.word-v.ensures
    ∙ numbers_same args.self.now.store.now args.self.now.words.now args.a args.b c.requires.a_value c.requires.b_value
    (sym c.tag-tag.ensures ∙ c.if-tag.false ∙ c.tag.ensures) (λ e. c.if-tag-ne-STRING.true (c.tag-tag.ensures ∙ e))

pub returns-then-n-word : goal.returns-then-n-word
unfolding row_word when◌then◌else◌
returns-then-n-word c =
    let args = c.args in
    sym
    (lengths_differ args.self.now.store.now args.self.now.words.now args.a args.b c.requires.a_value c.requires.b_value
    (sym c.tag-tag.ensures ∙ c.if-tag.false ∙ c.tag.ensures) (sym c.tag-tag.ensures ∙ c.if-tag-ne-STRING.false)
    (λ e. c.if-n-word.true (c.word-n.ensures ∙ e ∙ sym c.word.ensures)))

pub returns-then-w-v : goal.returns-then-w-v
unfolding row_word when◌then◌else◌
returns-then-w-v c =
    let if1 = c.if-tag in
    let args = c.args in
    sym (same_refl (take c.word-n.result (drop c.word-w.result args.self.now.store.now)))
    ∙ strings_same args.self.now.store.now args.self.now.words.now args.a args.b c.requires.a_value c.requires.b_value
    (sym c.tag-tag.ensures ∙ if1.false ∙ c.tag.ensures) (sym c.tag-tag.ensures ∙ c.if-tag-ne-STRING.false) c.word-n.ensures
    (c.if-n-word.false ∙ c.word.ensures) (c.if-w-v.true ∙ c.word-v.ensures) c.word-w.ensures

pub equal_parts-requires : goal.equal_parts-requires
unfolding row_word when◌then◌else◌
equal_parts-requires c =
    let if2 = c.if-tag-ne-STRING in
    let if1 = c.if-tag in
    let args = c.args in (
      omega (
        arith,
        key_part args.self.now.store.now args.self.now.words.now args.b c.requires.b_value
            (sym (sym c.tag-tag.ensures ∙ if1.false ∙ c.tag.ensures) ∙ sym c.tag-tag.ensures ∙ if2.false),
        c.word-v.ensures,
        c.word-w.ensures,
        c.word-n.ensures,
        c.word.ensures,
        c.if-n-word.false,
      ),
      omega (
        arith,
        key_part args.self.now.store.now args.self.now.words.now args.a c.requires.a_value (sym c.tag-tag.ensures ∙ if2.false),
        c.word-v.ensures,
        c.word-w.ensures,
        c.word-n.ensures,
        c.word.ensures,
        c.if-n-word.false,
      ),
    )

pub returns : goal.returns
unfolding row_word when◌then◌else◌
returns c =
    let if2 = c.if-tag-ne-STRING in
    let args = c.args in
    c.equal_parts.ensures
    ∙ strings_same args.self.now.store.now args.self.now.words.now args.a args.b c.requires.a_value c.requires.b_value
    (sym c.tag-tag.ensures ∙ c.if-tag.false ∙ c.tag.ensures) (sym c.tag-tag.ensures ∙ if2.false) c.word-n.ensures
    (c.if-n-word.false ∙ c.word.ensures) c.word-v.ensures c.word-w.ensures

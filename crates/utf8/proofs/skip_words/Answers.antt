-- A word of ASCII is whole characters, and so is what the last word has behind the place.
use mathlib.Core.Path.{sym, ◌∙◌}
use mathlib.Core.List.{List}
use Prim.Native.Nat.{ℕ, ◌-◌}
use native.Mathlib.Omega.{arith}
use lib.ListN.{length}
use borrow.Author.Rules.{rules}
use Rattle.slices.specs.Laws.LittleEndian.{Bytes}
use Rattle.utf8.proofs.Ascii.{word_ascii}
use Rattle.utf8.proofs.Skips.{skips_on, skips_ascii, part_word}
use Rattle.utf8.proofs.skip_words.Goals as goal

pub skip_while-i-requires-clause-whole : goal.skip_while-i-requires-clause-whole
skip_while-i-requires-clause-whole c = λ i h p.
    let said = p.says.met in
    part_word _ _ i (λ k. omega (arith, c.type_inv.s k)) p.shows h (search rules)

pub returns-then-high_bits-eq0 : goal.returns-then-high_bits-eq0
returns-then-high_bits-eq0 c =
    let s : List ℕ = c.args.s.now in
    let small : Bytes s = λ k. omega (arith, c.type_inv.s k) in
    let ascii = word_ascii s (length s - 8) (omega arith) small (sym c.high_bits.ensures ∙ c.if-high_bits-eq0.true) in
    skips_on c.skip_blocks.ensures
    (skips_on c.skip_while-i.ensures (skips_ascii s _ (length s) (omega arith) (omega arith) (λ k p q. ascii k (omega arith) (omega arith))))

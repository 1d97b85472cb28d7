-- `trie::hash_words` meets its contract: the words left, from the hash of those passed.
use Rattle.std.proofs.Common.{◌≡◌, ◌+◌, ◌*◌, drop, sym, ◌∙◌, arith}
use Rattle.trie.specs.Laws.Hash.{words_eight, words_end}
use Rattle.trie.proofs.hash_words.Goals as goal

pub loop-i-preserved : goal.loop-i-preserved
loop-i-preserved c =
    let loop = c.loop-i in
    let e : 8 * (loop.i + 1) ≡ 8 * loop.i + 8 = omega arith in
    rw (e, c.mix_word-h.ensures, c.word.ensures) (loop.invariant ∙ words_eight c.args.s.now loop.h (8 * loop.i) (omega arith))

pub returns : goal.returns
returns c = sym (c.loop-i.invariant ∙ words_end (drop (8 * c.loop-i.i) c.args.s.now) _ c.loop-i.h (omega arith))

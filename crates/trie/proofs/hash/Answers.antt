-- `trie::hash` meets its contract: by its three cases.
use Rattle.trie.specs.Hash.{spread}
use Rattle.trie.specs.Laws.Hash.{hash_few, hash_some, hash_many}
use Rattle.trie.proofs.hash.Goals as goal

pub returns-then-n-lt4 : goal.returns-then-n-lt4
unfolding spread
returns-then-n-lt4 c = rw (c.spread.ensures, c.hash_bytes.ensures) (hash_few c.args.s.now c.if-n-lt4.true)

pub returns-then-n-lt8 : goal.returns-then-n-lt8
unfolding spread
returns-then-n-lt8 c = rw (c.spread-then-n-lt8.ensures, c.mix_word.ensures, c.half.ensures.0, c.half-then-n-lt8.ensures.0) (hash_some c.args.s.now c.if-n-lt4.false c.if-n-lt8.true)

pub returns : goal.returns
unfolding spread
returns c = rw (c.spread-2.ensures, c.mix_word-2.ensures, c.hash_words.ensures, c.word.ensures) (hash_many c.args.s.now c.if-n-lt8.false)

use Rattle.std.proofs.Common.{◌≡◌, ◌-◌, ◌*◌, length, drop}
use Rattle.trie.specs.Hash.{of_words}
use Rattle.trie.proofs.hash_words.Given as goal

abbrev pub invariant-loop-i : goal.invariant-loop-i
invariant-loop-i l = of_words (length l.s) (length l.s) l.s ≡ of_words (length l.s - 8 * l.i) l.h (drop (8 * l.i) l.s)

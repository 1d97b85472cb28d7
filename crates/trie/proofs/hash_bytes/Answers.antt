-- `trie::hash_bytes` meets its contract: it is a fold over the bytes.
use Rattle.std.proofs.Common.{rules}
use Rattle.trie.specs.Laws.Hash.{bytes_fold}
use Rattle.trie.proofs.hash_bytes.Goals as goal

pub returns : goal.returns
returns c = rw bytes_fold (search rules)

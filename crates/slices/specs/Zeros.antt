-- Tables of numbers with zeros, or another word, past a used part.
use Rattle.std.specs.Prelude.{List, ◌++◌, ℕ, ◌-◌, length, take, replicate}

-- the first n elements of a table, then one element to its length
abbrev pub same_from : {A : Type 0} → A → ℕ → List A → List A
same_from a n l = take n l ++ replicate (length l - n) a

abbrev pub zeros : ℕ → List ℕ
zeros n = replicate n 0

-- the first n words of a table, then zeros to its length
abbrev pub zero_from : ℕ → List ℕ → List ℕ
zero_from = same_from 0

-- a used part, then zeros, in a table of so many words
abbrev pub pad_to : ℕ → List ℕ → List ℕ
pad_to words used = used ++ zeros (words - length used)

-- The tests of words by number, as the code makes them.
use Rattle.std.specs.Prelude.{Bool, ◌&&◌, ◌||◌, true, List, ◌+◌, ℕ, eqb, leb, ltb, length, if◌then◌else◌}
use Rattle.utf8.specs.Utf8.{part_is_utf8}

-- the word w passes a number's test
unfoldable pub number_fits : ℕ → ℕ → Bool
number_fits test w =
    if eqb test 2 then ltb w 0x1_0000_0000
    else if eqb test 3 then ltb w 0x1_0000
    else if eqb test 4 then ltb w 256
    else if eqb test 5 then ltb w 2
    else if eqb test 6 then leb w 5
    else if eqb test 7 then ltb w 0xd800 || (leb 0xe000 w && ltb w 0x110000)
    else if eqb test 8 then ltb w 0x8000_0000 || leb 0xffff_ffff_8000_0000 w
    else if eqb test 9 then ltb w 0x8000 || leb 0xffff_ffff_ffff_8000 w
    else if eqb test 10 then ltb w 0x80 || leb 0xffff_ffff_ffff_ff80 w
    else true

-- the word a, or the part at a of b bytes, passes an item's test
unfoldable pub words_fit : List ℕ → ℕ → ℕ → ℕ → Bool
words_fit store test a b =
    if eqb test 11 then part_is_utf8 store a b
    else if eqb test 12 then leb (a + b) (length store)
    else number_fits test a

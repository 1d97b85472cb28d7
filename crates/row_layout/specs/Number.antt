-- The numbers of forms, of tests and of rules, as the tables of digits have them.
use Rattle.std.specs.Prelude.{ℕ}
use Rattle.row_layout.specs.declared.Form.{Form}
use Rattle.row_layout.specs.declared.Form.TheVariants as form
use Rattle.row_layout.specs.declared.Rules.{Rules}
use Rattle.row_layout.specs.declared.Rules.TheVariants as rules
use Rattle.row_layout.specs.declared.Test.{Test}
use Rattle.row_layout.specs.declared.Test.TheVariants as test
use Rattle.row_layout.specs.declared.Under.{Under}
use Rattle.row_layout.specs.declared.Under.TheVariants as under

abbrev pub form_number : Form → ℕ
form_number form.NoItem = 0
form_number form.Varint = 1
form_number form.Zigzag = 2
form_number form.Byte = 3
form_number form.EightBytes = 4
form_number form.FourBytes = 5
form_number form.Text = 6
form_number form.Code = 7

abbrev pub under_number : Under → ℕ
under_number under.Nothing = 0
under_number under.OneRow = 1
under_number under.Counted = 2
under_number under.CountedPairs = 3
under_number under.Template = 4

abbrev pub test_number : Test → ℕ
test_number test.NoItem = 0
test_number test.AnyWord = 1
test_number test.Bits32 = 2
test_number test.Bits16 = 3
test_number test.Byte = 4
test_number test.Bool = 5
test_number test.HandleKind = 6
test_number test.Scalar = 7
test_number test.Signed32 = 8
test_number test.Signed16 = 9
test_number test.Signed8 = 10
test_number test.Text = 11
test_number test.Code = 12

abbrev pub rules_number : Rules → ℕ
rules_number rules.Nothing = 0
rules_number rules.OneValue = 1
rules_number rules.Values = 2
rules_number rules.Keys = 3
rules_number rules.Pairs = 4
rules_number rules.Chunk = 5
rules_number rules.Fields = 6
rules_number rules.Template = 7

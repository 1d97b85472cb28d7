-- `ends_at` meets its contract: each of its tests is a field of `NameEnds`.
use mathlib.Core.Path.{sym, ◌∙◌}
use Rattle.std.proofs.Common.{rules}
use Rattle.native_names.proofs.Listed.{name_ends}
use Rattle.native_names.proofs.ends_at.Goals as goal

pub returns-then-equal : goal.returns-then-equal
returns-then-equal c =
    let begins = c.begins_at.ensures.yes (search rules) in
    let same = sym c.equal.ensures ∙ c.if-equal.true in
    record { yes = λ e. name_ends _ _ _ c.requires.1 c.if-names-i-ne10.false begins same (c.is_clear.ensures.yes e); no = λ e w. c.is_clear.ensures.no e w.clear }

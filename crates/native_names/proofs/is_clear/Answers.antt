-- `is_clear` meets its contract: it looks for a 0A in the part.
use Rattle.native_names.proofs.Listed.{clear_by}
use Rattle.native_names.proofs.is_clear.Goals as goal

pub returns : goal.returns
returns c = clear_by _ _ _ c.requires _ c.contains.ensures.value

-- `set_above` meets its contract: the word below the base stays.
use mathlib.Core.Path.{refl}
use Prim.Native.Nat.{◌%◌}
use lib.ListN.{length-set}
use Rattle.deserialize.proofs.PlainWords.{hinted_plain}
use Rattle.deserialize.proofs.hints.Strings.set_above.Goals as goal

pub invariant_of-self : goal.invariant_of-self
invariant_of-self c = record { fits = rw (hinted_plain c.args.self.now.pool.now c.args.i (c.args.hint % 549755813888)) c.args.self.now.fits }

pub returns : goal.returns
returns c =
    record {
      same_pool = refl;
      same_words = hinted_plain c.args.self.now.pool.now c.args.i (c.args.hint % 549755813888);
      same_length = length-set _ _ _;
    }

-- `emit::store_body` meets its contract: only what lies in the output is stored.
use Rattle.emit.specs.Laws.Emit.{put_store}
use Rattle.emit.proofs.store_body.Goals as goal

pub returns : goal.returns
returns c = put_store c.args.out.now c.args.at c.args.s.now c.requires c.min-k.ensures c.copy_part.ensures

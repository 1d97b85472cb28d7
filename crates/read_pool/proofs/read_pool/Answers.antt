-- `read_pool` meets its contract: the strings go into the front part of the table, and zeros into the whole of it at a refusal.
use Rattle.std.proofs.Common.{rules}
use Rattle.read_pool.proofs.Strings.{front_filled}
use Rattle.read_pool.proofs.read_pool.Goals as goal

pub returns-else-is_err : goal.returns-else-is_err
returns-else-is_err c =
    let fill = c.fill_pool-count in
    record { outcome = (front_filled c.args.pool.now fill.new.pool c.requires fill.auto.pool fill.ensures).outcome; cleared = search rules }

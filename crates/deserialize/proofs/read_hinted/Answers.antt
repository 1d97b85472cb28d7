-- `read_hinted` meets its contract: hints make no difference to what is read, and are taken away.
use Rattle.std.proofs.Common.{rules}
use Rattle.deserialize.proofs.Script.{same_leaves}
use Rattle.deserialize.proofs.read_hinted.Goals as goal

pub returns-clause-reads_script : goal.returns-clause-reads_script
returns-clause-reads_script c =
    let x = c.args in
    let read = c.read-counts.ensures in
    record {
      same = read.same;
      leaves = same_leaves x.tables.now.capacities x.cursor.payload.now x.names.now _ x.pool.now x.cursor.at (search rules) read.leaves;
    }

use Rattle.std.proofs.Common.{arith}
use Rattle.text.proofs.PutLaws.{writing}
use Rattle.lines.proofs.RowLaws.{rows_more, row_within}
use Rattle.lines.proofs.put_rows.Goals as goal

pub put_row-requires-clause-takes : goal.put_row-requires-clause-takes
put_row-requires-clause-takes c =
    let a = c.args.t.now in
    let w = row_within a.head.board a.bytes.now _ c.loop-k.k c.loop-k-test.true in
    grind (arith, writing)

pub loop-k-preserved : goal.loop-k-preserved
loop-k-preserved c =
    let a = c.args.t.now in
    let w = row_within a.head.board a.bytes.now _ c.loop-k.k c.loop-k-test.true in
    grind (arith, writing, rows_more)

-- Before turn k the rows of the slots below k are written.
use Rattle.std.proofs.Common.{◌≡◌}
use Rattle.text.specs.Put.{added}
use Rattle.lines.specs.Lines.{rows_in, rows_text}
use Rattle.lines.proofs.put_rows.Given as goal

abbrev pub invariant-loop-k : goal.invariant-loop-k
invariant-loop-k l = l.text ≡ added l.initial.text (rows_text l.t.head.board (rows_in l.t.head.board l.t.bytes.now l.k))

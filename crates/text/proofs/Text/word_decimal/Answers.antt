-- The word is written, then the number past it.
use mathlib.Core.Path.{sym}
use Rattle.text.specs.Dec.{dec}
use Rattle.text.specs.Put.{Fits, Wrote, added}
use Rattle.text.proofs.PutLaws.{first_fits, next_fits, then, added_wrote}
use Rattle.text.proofs.Text.word_decimal.Goals as goal

pub returns-clause-wrote : goal.returns-clause-wrote
unfolding added
returns-clause-wrote c =
    let x = c.args.self.now in
    let word = c.args.word.now in
    let number = dec c.args.n in
    let first = added_wrote x word (first_fits word number c.requires) in
    let y = added x word in
    let second : Wrote y.buf.now y.at number (added y number).buf.now (added y number).at = added_wrote y number (next_fits first c.requires) in
    rw (c.decimal.ensures, c.bytes.ensures) (then first second)

-- A good trailer's distance is at most the slice's length.
use Rattle.std.specs.Prelude.{Some}
use mathlib.Core.Path.{◌≡◌, sym}
use Rattle.trailer.specs.Trailer.{trailer_of}
use Rattle.trailer.proofs.TrailerLaws.{trailer_good}
use Rattle.trailer.proofs.headed.table_in.Goals as goal

pub overflow_sub-start : goal.overflow_sub-start
overflow_sub-start c =
    let e : trailer_of c.args.s.now ≡ Some c.in_ok-head.head = sym c.in_ok-head.ensures in
    (trailer_good c.args.s.now e).size_in

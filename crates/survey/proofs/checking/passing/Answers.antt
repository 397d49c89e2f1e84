-- What is read of the slice, then the table's first fault, whose place is small.
use Rattle.std.proofs.Common.{rules}
use Rattle.std.specs.Prelude.{Ok, Err}
use mathlib.Core.Path.{◌≡◌, sym, ap, ◌∙◌}
use Rattle.table.specs.declared.refusals.Refusal.TheVariants.{Trailer, Fault}
use Rattle.survey.specs.Check.{fault_or, checked_in}
use Rattle.survey.proofs.CheckLaws.{fault_fits, slice_unread, slice_read}
use Rattle.survey.proofs.checking.passing.Goals as goal

pub returns-in_err-t-clause-refused : goal.returns-in_err-t-clause-refused
returns-in_err-t-clause-refused c =
    let e : c.from_residual.result ≡ Err Trailer = search rules in
    rw e (slice_unread c.args.s.now c.table_in.ensures.head c.in_err-t.ensures.ok_part)

pub overflow_cast-result : goal.overflow_cast-result
overflow_cast-result c =
    let t = c.in_ok-t.t in
    fault_fits t.head t.bytes.now _ t.sized.board (sym c.in-Some.ensures)

pub returns-in-Some-clause-refused : goal.returns-in-Some-clause-refused
unfolding checked_in
returns-in-Some-clause-refused c =
    let e = c.table_in.ensures in
    slice_read c.args.s.now e.head e.bytes c.in_ok-t.ensures.ok_part
    ∙ ap (fault_or (λ place. Err (Fault place)) (Ok tt)) (sym c.in-Some.ensures)

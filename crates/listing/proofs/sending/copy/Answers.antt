-- The input's length, the trailer, and then what the copy answers.
use Rattle.std.specs.Prelude.{Some, Err}
use Rattle.std.proofs.Common.{rules}
use mathlib.Core.Path.{◌≡◌, refl, sym, ◌∙◌}
use native.Mathlib.Omega.{arith}
use lib.ListN.{take-append-drop}
use lib.Seq.{length-take-le}
use Rattle.network.proofs.Tests.{clash}
use Rattle.trailer.specs.Trailer.{trailer_of}
use Rattle.table.specs.declared.refusals.Refusal.TheVariants.{Trailer}
use Rattle.listing.proofs.OutwardLaws.{sent-long, sent_bad, copy_fits, sent_refused, sent-done, copy_laid}
use Rattle.listing.proofs.sending.copy.Goals as goal

pub returns-then-s-gt-MOST-clause-refused : goal.returns-then-s-gt-MOST-clause-refused
returns-then-s-gt-MOST-clause-refused c = (sent-long c.args.s.now c.if-s-gt-MOST.true, refl)

pub returns-in_err-size-clause-refused : goal.returns-in_err-size-clause-refused
returns-in_err-size-clause-refused c =
    let e : c.from_residual.result ≡ Err Trailer = search rules in
    rw e (sent_bad c.args.s.now c.if-s-gt-MOST.false (sym c.trailer.ensures ∙ c.in_err-size.ensures.ok_part), refl)

pub slice_bounds-copy_outward-end : goal.slice_bounds-copy_outward-end
slice_bounds-copy_outward-end c =
    let e : trailer_of c.args.s.now ≡ Some c.in_ok-size.field-0 = sym c.trailer.ensures ∙ c.in_ok-size.ensures.ok_part in
    omega (arith, copy_fits _ c.if-s-gt-MOST.false _ e, c.requires)

pub slice_bounds-copy_outward-end-2 : goal.slice_bounds-copy_outward-end-2
slice_bounds-copy_outward-end-2 c =
    let e : trailer_of c.args.s.now ≡ Some c.in_ok-size.field-0 = sym c.trailer.ensures ∙ c.in_ok-size.ensures.ok_part in
    sym (length-take-le _ _ (omega (arith, copy_fits _ c.if-s-gt-MOST.false _ e, c.requires)))

pub returns-in_err-copy_outward-clause-refused : goal.returns-in_err-copy_outward-clause-refused
returns-in_err-copy_outward-clause-refused c =
    let out = c.args.out.now in
    let e : trailer_of c.args.s.now ≡ Some c.in_ok-size.field-0 = sym c.trailer.ensures ∙ c.in_ok-size.ensures.ok_part in
    let size = c.in_ok-size.field-0.size in
    let m = length-take-le size out (omega (arith, copy_fits _ c.if-s-gt-MOST.false _ e, c.requires)) in
    let d = sent_refused _ c.if-s-gt-MOST.false _ e _ m c.in_err-copy_outward.ensures (λ k. clash cc) in
    let r : c.from_residual-in_err-copy_outward.result ≡ Err c.in_err-copy_outward.field-0.0 = search rules in
    rw r (d.0, rw d.1 (take-append-drop size out))

pub returns-clause-done : goal.returns-clause-done
returns-clause-done c = λ line.
    let out = c.args.out.now in
    let e : trailer_of c.args.s.now ≡ Some c.in_ok-size.field-0 = sym c.trailer.ensures ∙ c.in_ok-size.ensures.ok_part in
    let m = length-take-le c.in_ok-size.field-0.size out (omega (arith, copy_fits _ c.if-s-gt-MOST.false _ e, c.requires)) in
    copy_laid c.args.s.now out line _ (sent-done _ c.if-s-gt-MOST.false _ e _ m c.in_ok-copy_outward.ensures refl)

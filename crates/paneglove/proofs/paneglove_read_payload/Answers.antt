-- The part has eight bytes, which cross by value, and a refusal crosses with zeros.
use Prim.Native.Nat.{ℕ}
use mathlib.Core.Path.{sym, ap, ◌∙◌}
use mathlib.Core.List.{[]}
use lib.ListN.{length, replicate}
use Rattle.judging.proofs.VerdictLaws.{number_not_zero}
use Rattle.router.specs.ReadPayload.{Reading}
use Rattle.paneglove.specs.Across.{read_across}
use Rattle.paneglove.proofs.Payloads.{answered, eight, crosses_refused}
use Rattle.paneglove.proofs.paneglove_read_payload.Goals as goal

pub copy_from_slice-requires : goal.copy_from_slice-requires
copy_from_slice-requires c =
    let e = c.in-Ok.ensures.answer in
    sym (ap (λ (r : Reading). length r.bytes) e ∙ eight _ _ (sym (ap (λ (r : Reading). r.number) e)))

pub returns-in-Err : goal.returns-in-Err
returns-in-Err c =
    ap (λ (n : ℕ). answered n (replicate 8 0)) c.number.ensures
    ∙ crosses_refused _ [] (number_not_zero _)
    ∙ ap read_across c.in-Err.ensures.answer

-- Where the serial's flag is down, no lower slot has the serial, and its flag is then raised.
use Prim.Native.Nat.{ℕ}
use mathlib.Core.Path.{sym, ap, ◌∙◌}
use Rattle.network.proofs.Tests.{held, failed, and_yes}
use Rattle.survey.specs.Check.{has_serial}
use Rattle.survey.proofs.MetLaws.{unmet, met_raise}
use Rattle.survey.proofs.checking.repeats.Goals as goal

pub returns-clause-value : goal.returns-clause-value
returns-clause-value c =
    let h = held c.held.ensures c.if-not-held.false in
    let d = failed c.flag.ensures c.if-flag.false in
    sym (and_yes h ∙ ap (λ (i : ℕ). has_serial c.args.t.now i c.args.k) (sym c.slot_serial-serial.ensures) ∙ unmet c.requires.met _ d)

pub returns-clause-met_next : goal.returns-clause-met_next
returns-clause-met_next c =
    rw c.raise.ensures (met_raise c.requires.met c.slot_serial-serial.ensures (failed c.flag.ensures c.if-flag.false))

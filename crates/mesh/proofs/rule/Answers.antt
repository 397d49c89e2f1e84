-- An offered hop goes toward the destination, so `lead` has its room.
use Rattle.std.proofs.Common.{◌∙◌, sym, arith}
use Rattle.mesh.proofs.Offers.{offered_toward, toward_room}
use Rattle.mesh.proofs.rule.Goals as goal

pub lead-requires : goal.lead-requires
lead-requires c =
    let h = c.args.here.node in
    let d = c.args.destination in
    let step = c.in-Some.step in
    let offered = rw c.signs_of-s.ensures at (sym c.offered.ensures ∙ c.if-offered.true) in
    toward_room h d (omega arith) (omega arith) step (offered_toward h d step c.args.here.kind offered)

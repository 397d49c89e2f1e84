use Prim.Native.Nat.{◌+◌, ◌*◌}
use mathlib.Core.Path.{◌≡◌, ap, subst, ◌∙◌}
use native.Mathlib.Omega.{arith}
use lib.ListN.{length}
use Rattle.slots.specs.Slots.{with_slot}
use Rattle.board.specs.Layout.{layout_of}
use Rattle.survey.proofs.ShownLaws.{Shown, shown_more, shown_all}
use Rattle.survey.proofs.copying.veil.Goals as goal

pub loop-k-preserved : goal.loop-k-preserved
loop-k-preserved c =
    let t = c.args.t.now in
    let at = c.loop-k in
    let full : 16 * (layout_of t.head.board).size + 16 ≡ length t.bytes.now = omega (arith, t.sized.full) in
    shown_more (layout_of t.head.board).size t.bytes.now at.out full at.invariant.0 at.k _ _ (omega (arith, c.slots_of-n.ensures)) c.veiled_slot.ensures c.write_slot.ensures at.invariant.1

pub returns : goal.returns
returns c =
    let t = c.args.t.now in
    let at = c.loop-k in
    let n = (layout_of t.head.board).size in
    let full : 16 * n + 16 ≡ length t.bytes.now = omega (arith, t.sized.full) in
    let e : at.k ≡ n = omega (arith, c.slots_of-n.ensures) in
    let put = c.write_slot-2.ensures ∙ ap (with_slot at.out _) c.read_slot.ensures in
    (shown_all n t.bytes.now at.out full at.invariant.0 _ (rw c.slots_of-n.ensures at put) (subst (Shown t.bytes.now at.out) e at.invariant.1)).1

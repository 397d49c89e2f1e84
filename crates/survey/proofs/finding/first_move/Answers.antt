use Prim.Native.Nat.{◌-◌}
use mathlib.Core.Path.{◌≡◌, sym, ap, ◌∙◌}
use native.Mathlib.Omega.{arith}
use Rattle.network.specs.Search.{lowest_with, is_at}
use Rattle.network.proofs.SearchLaws.{lowest_step}
use Rattle.network.proofs.Tests.{cond_false}
use Rattle.board.specs.Layout.{layout_of}
use Rattle.board.proofs.BoardLaws.{slots_most}
use Rattle.survey.specs.Find.{movable, move_at, found_in}
use Rattle.survey.proofs.finding.first_move.Goals as goal

pub overflow_cast-n : goal.overflow_cast-n
overflow_cast-n c =
    let t = c.args.t.now in
    record { fits = omega (arith, c.slots_of-n.ensures, slots_most _ t.sized.board) }

pub loop-slot-init : goal.loop-slot-init
unfolding found_in
loop-slot-init c =
    let t = c.args.t.now in
    let e : (layout_of t.head.board).size ≡ c.slots_of-n.result - 0 = omega (arith, c.slots_of-n.ensures) in
    ap (λ n. move_at t.head t.bytes.now (lowest_with (movable t.head t.bytes.now) 0 n)) e

pub loop-slot-preserved : goal.loop-slot-preserved
loop-slot-preserved c =
    let t = c.args.t.now in
    let at = c.loop-slot in
    let e = sym c.in_default.ensures in
    at.invariant ∙ ap (move_at t.head t.bytes.now) (lowest_step _ at.slot _ c.loop-slot-test.true ∙ cond_false _ _ (ap is_at e))

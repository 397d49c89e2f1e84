-- The queue left is one of the table's, and has no more slots than a count holds.
use native.Mathlib.Omega.{arith}
use Rattle.board.specs.Layout.{layout_of}
use Rattle.board.proofs.BoardLaws.{layout_laws}
use Rattle.table.proofs.QueueLaws.{empties_most}
use Rattle.router.proofs.moving.hand_out.Goals as goal

pub room_at-room-requires : goal.room_at-room-requires
room_at-room-requires c = rw c.place_of-here.ensures ((layout_laws _ c.requires.sized.board).on_net _ c.requires.slot_bound)

pub overflow_add-left : goal.overflow_add-left
overflow_add-left c =
    let here = (layout_of c.args.head.board).place_of c.args.slot in
    let on_board = (layout_laws _ c.requires.sized.board).on_net _ c.requires.slot_bound in
    let most = empties_most c.args.head.board c.requires.sized.board here on_board c.args.t.now in
    rw (c.room_at-room.ensures.empty_value, c.place_of-here.ensures) (omega (arith, most))

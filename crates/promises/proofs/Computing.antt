-- What the worked examples compute with. To unfold one of these is to unfold all that its own line names, so each list is written once.
-- Assumes nothing.
use Rattle.network.specs.Packet.{weight, good}
use Rattle.mesh.specs.Grid.{distance_of}
use Rattle.mesh.specs.Rule.{profile_of, step_of, signs_of, ruled}
use Rattle.mesh.specs.Published.{published}
use Rattle.slots.specs.Bytes.{bytes32}
use Rattle.slots.specs.Slots.{slot_at, with_slot}
use Rattle.board.specs.Board.{board_ok, net_of, published_on}
use Rattle.board.specs.Layout.{layout_of}
use Rattle.trailer.specs.Trailer.{head_ok, trailer_of, with_taken, with_delivered, trailer_bytes, fresh}
use Rattle.table.specs.Refusals.{number_of, place_of}
use Rattle.table.specs.Packets.{good_at}
use Rattle.table.specs.Queues.{room_at, empties_at}
use Rattle.table.specs.Carriage.{vacated, carried}
use Rattle.way.specs.Way.{first_hop_in_b, gives_way}
use Rattle.judging.specs.Moves.{move_due}
use Rattle.router.specs.Clear.{cleared_as, cleared_slice}
use Rattle.router.specs.TakeIn.{new_record, took_in, taken_in, taken_slice}
use Rattle.router.specs.Move.{gone, handed_out, moved_in, moved_slice}
use Rattle.router.specs.ReadPayload.{read_in, read_slice}
use Rattle.survey.specs.Check.{first_spoiled, first_repeat, miscount, fault_in, checked_in, checked_slice}
use Rattle.calls.specs.Slices.{head_in, table_in, before_in}

-- a table's bytes
unfoldable pub bytes : Unit {0}
unfolding bytes32 slot_at with_slot board_ok layout_of head_ok trailer_of with_taken with_delivered trailer_bytes fresh head_in table_in before_in
bytes = tt

-- the rule of moves, the packets and the queues
unfoldable pub rules : Unit {0}
unfolding bytes net_of published_on distance_of profile_of step_of signs_of ruled published weight good good_at room_at empties_at vacated carried
rules = tt

-- the calls
unfoldable pub calls : Unit {0}
unfolding rules cleared_as cleared_slice new_record took_in taken_in taken_slice first_hop_in_b gives_way move_due gone handed_out moved_in moved_slice read_in read_slice
calls = tt

unfoldable pub checks : Unit {0}
unfolding rules number_of place_of first_spoiled first_repeat miscount fault_in checked_in checked_slice
checks = tt

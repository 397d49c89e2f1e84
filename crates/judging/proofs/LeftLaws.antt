-- What a verdict says is left: how many slots of the queue are empty once the lowest empty one is used.
-- Assumes nothing.
use Rattle.std.specs.Prelude.{Some}
use Prim.Native.Nat.{ℕ, ◌<◌}
use mathlib.Core.Path.{◌≡◌}
use mathlib.Core.Logic.{◌≢◌}
use mathlib.Core.Bool.{true, false}
use mathlib.Core.List.{List}
use native.Mathlib.Omega.{arith}
use Rattle.network.specs.declared.Place.{Place}
use Rattle.slots.specs.Slots.{slot_at}
use Rattle.board.specs.declared.Board.{Board}
use Rattle.board.specs.Board.{GoodBoard, net_of}
use Rattle.board.specs.Layout.{layout_of}
use Rattle.table.specs.Queues.{empty_at, room_at, empties_at}
use Rattle.table.proofs.QueueLaws.{room_lowest, room_within, room_there, empties_more}
use Rattle.judging.specs.Verdicts.{into_queue}

-- counted in any table where that slot is held and the queue's others are as they were
pub verdict_left : (b : Board) (g : GoodBoard b) (p : Place) (on : (net_of b).valid p.node ≡ true) (t u : List ℕ) (k hops : ℕ) → room_at b t p ≡ Some k
    → empty_at u k ≡ false → ((i : ℕ) → i < (layout_of b).size → (layout_of b).place_of i ≡ p → i ≢ k → slot_at u i ≡ slot_at t i)
    → (into_queue b t p hops).left ≡ empties_at b u p
verdict_left b g p on t u k hops e held rest =
    rw e
    (omega (arith, empties_more b g p on u t k (room_within b t p k e g on) (room_there b t p k e g on) held (room_lowest b t p k e).has rest))

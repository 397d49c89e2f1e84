-- Document 01's example: its table is listed as it says, byte for byte; and the refusals are worded as it says. What is sent outward of it, of no
-- bytes, and of the table with one payload byte in an empty slot.
-- Assumes nothing.
use Prim.Native.Nat.{ℕ, ◌+◌}
use mathlib.Core.Path.{◌≡◌, refl, sym, ◌∙◌}
use mathlib.Core.Bool.{true, false, ◌&&◌}
use mathlib.Core.List.{List, [], ◌∷◌, ◌++◌}
use lib.ListN.{take, replicate}
use native.Mathlib.Omega.{arith}
use lib.Dec.{eqb}
use borrow.Author.Tests.{eq-eqb}
use Rattle.network.specs.Packet.{good}
use Rattle.network.proofs.Tests.{and_yes}
use Rattle.slots.specs.Slots.{slot_at}
use Rattle.board.specs.Board.{board_ok, net_of}
use Rattle.board.specs.Layout.{layout_of}
use Rattle.board.proofs.BoardLaws.{net_laws}
use Rattle.trailer.specs.Trailer.{head_ok, trailer_of}
use Rattle.table.specs.Refusals.{number_of}
use Rattle.table.specs.Packets.{good_at}
use Rattle.survey.specs.Check.{first_spoiled, first_repeat, miscount, fault_in, checked_slice}
use Rattle.text.specs.Dec.{dec, dec_from}
use Rattle.text.specs.Text.{text}
use Rattle.lines.proofs.Example.{packet, trailer, head, table_example}
use Rattle.listing.specs.Output.{refusal_line, fault_line, listing, verdict}
use Rattle.listing.specs.Outward.{copy_alone, words_alone, sent_of}

-- it is good in slot 0, whatever follows
packet_good : (v : List ℕ) → good_at head (packet ++ v) 0 ≡ true
unfolding good_at good net_of layout_of slot_at
packet_good v =
    let net = net_of head.board in
    let ahead = net.distance 0 1 in
    let course : (eqb (0 + ahead) ahead && true) ≡ true = and_yes (eq-eqb (0 + ahead) ahead (omega arith)) in
    and_yes (eq-eqb 0 (net.distance 0 0) (sym ((net_laws head.board).self 0))) ∙ course

-- one payload byte in slot 1, which has no mark
abbrev unmarked : List ℕ
unmarked = replicate 15 0 ++ (1 ∷ replicate 64 0) ++ trailer

spoiled : good_at head (packet ++ unmarked) 1 ≡ false
unfolding good_at good slot_at
spoiled = refl

-- what the examples compute with: to unfold one of these is to unfold all that its own line names
unfoldable words : Unit {0}
unfolding refusal_line fault_line number_of dec dec_from
words = tt

unfoldable checks : Unit {0}
unfolding words slot_at board_ok layout_of head_ok trailer_of first_spoiled first_repeat miscount fault_in
checks = tt

pub example : listing (packet ++ replicate 80 0 ++ trailer)
    ≡ text "grid 2 1 depth 1 taken 1 delivered 0\n0 W 0,0 from 0,0 to 1,0 hops 0 serial 0\nheld 1\n"
unfolding checks listing
example = rw (packet_good (replicate 80 0 ++ trailer)) table_example

pub refusals : (refusal_line 9 ≡ text "refused 9\n") × ((refusal_line 1 ≡ text "refused 1\n") × (fault_line 27 ≡ text "refused 10 at 27\n"))
unfolding words
refusals = (refl, (refl, refl))

pub outward_example : (sent_of (packet ++ replicate 80 0 ++ trailer) ≡ copy_alone (take 8 packet ++ replicate 88 0 ++ trailer))
    × ((sent_of [] ≡ words_alone (text "refused 1\n"))
    × (sent_of (packet ++ unmarked) ≡ words_alone (text "refused 10 at 1\n")))
unfolding checks sent_of verdict checked_slice
outward_example = (rw (packet_good (replicate 80 0 ++ trailer)), (refl, rw (packet_good unmarked, spoiled)))

-- What a move does to the slots (document 01, "The rule of moves"): the packet leaves its slot, which is made 16 zeros, and goes, with its hops,
-- into the new slot.
-- Assumes nothing.
use Rattle.std.specs.Prelude.{ℕ, ◌+◌, List, get_or, set}
use Rattle.slots.specs.Slots.{slot_at, with_slot, empty_slot}
use Rattle.board.specs.declared.Board.{Board}

-- a packet's bytes with more hops made
abbrev pub hop : List ℕ → ℕ → List ℕ
hop v more = set v 3 (get_or v 3 0 + more)

-- what leaving slot k of a board's table does
unfoldable pub vacated : Board → List ℕ → ℕ → List ℕ
vacated b t k = with_slot t k empty_slot

-- the packet of slot a, with more hops, gone from there into slot c
unfoldable pub carried : Board → List ℕ → ℕ → ℕ → ℕ → List ℕ
carried b t a c more = with_slot (vacated b t a) c (hop (slot_at t a) more)

-- What the functions that judge a call compute, before it writes. No call is defined by it: a reader may pass over this file.
-- Assumes nothing.
use Rattle.std.specs.Prelude.{ℕ, ◌-◌, ◌≡◌, Bool, true, false, cond, List, eqb, Option, Some, None, Result, Ok, Err}
use Rattle.network.specs.declared.Kind.TheVariants.{Waiting}
use Rattle.network.specs.declared.Place.{Place}
use Rattle.network.specs.declared.Lead.{Lead}
use Rattle.network.specs.declared.Lead.TheVariants.{Hop, Turn, Out, NotOffered}
use Rattle.network.specs.Net.{Net, at}
use Rattle.board.specs.declared.Board.{Board}
use Rattle.board.specs.Layout.{layout_of}
use Rattle.trailer.specs.declared.Head.{Head}
use Rattle.table.specs.declared.refusals.Refusal.{Refusal}
use Rattle.table.specs.Refusals.{Row, first_due, not_offered, no_room, number_of}
use Rattle.table.specs.Queues.{room_at, empties_at}
use Rattle.judging.specs.declared.verdict.Berth.{Berth}
use Rattle.judging.specs.declared.verdict.Onward.{Onward}
use Rattle.judging.specs.declared.verdict.Onward.TheVariants.{Leaves, Into}
use Rattle.judging.specs.Moves.{lead_of, move_rows}
use Rattle.judging.specs.Takings.{take_rows}

-- the number of the first refusal that is due, or 0 and what is done: the packet leaves, or goes to a slot with more hops, where so many slots of the
-- queue are left empty
pub record Verdict : Type 0 where
  pub number : ℕ
  pub leaves : Bool
  pub slot : ℕ
  pub hops : ℕ
  pub left : ℕ

abbrev pub refused_by : ℕ → Verdict
refused_by number = record { number = number; leaves = false; slot = 0; hops = 0; left = 0 }

-- a packet goes into the lowest of so many empty slots, with so many hops more
abbrev pub into : Option ℕ → ℕ → ℕ → Verdict
into (Some slot) empty hops = record { number = 0; leaves = false; slot = slot; hops = hops; left = empty - 1 }
into None empty hops = refused_by no_room

abbrev pub into_queue : Board → List ℕ → Place → ℕ → Verdict
into_queue b t p hops = into (room_at b t p) (empties_at b t p) hops

abbrev pub out : Verdict
out = record { number = 0; leaves = true; slot = 0; hops = 0; left = 0 }

abbrev pub onward : Onward → Verdict
onward Leaves = out
onward (Into slot hops left) = record { number = 0; leaves = false; slot = slot; hops = hops; left = left }

-- what the functions that judge a call answer: of a move, and of a packet that goes into a slot with so many hops more
abbrev pub verdict_of : Result Onward Refusal → Verdict
verdict_of (Ok o) = onward o
verdict_of (Err e) = refused_by (number_of e)

abbrev pub berthed : ℕ → Result Berth Refusal → Verdict
berthed hops (Ok b) = onward (Into b.slot hops b.left)
berthed hops (Err e) = refused_by (number_of e)

-- what the rule's answer comes to, in the table as it is
unfoldable pub ahead : Board → List ℕ → Place → Lead → Verdict
ahead b t here (Hop n) = into_queue b t (at n here.kind) 1
ahead b t here (Turn k) = into_queue b t (at here.node k) 0
ahead b t here Out = out
ahead b t here NotOffered = refused_by not_offered

abbrev pub judged : List Row → Verdict → Verdict
judged rows v = cond (eqb (first_due rows) 0) v (refused_by (first_due rows))

unfoldable pub move_verdict : Head → List ℕ → ℕ → ℕ → Verdict
move_verdict h t k code = judged (move_rows h t k code) (ahead h.board t ((layout_of h.board).place_of k) (lead_of h.board t k code))

unfoldable pub take_verdict : Head → List ℕ → ℕ → ℕ → Verdict
take_verdict h t source destination = judged (take_rows h t source destination) (into_queue h.board t (at source Waiting) 0)

-- an offered hop goes to a node, and a turn stays at one
abbrev pub Targets : Net → Place → Lead → Type 0
Targets N here (Hop n) = N.valid n ≡ true
Targets N here (Turn k) = N.valid here.node ≡ true
Targets N here Out = Unit {0}
Targets N here NotOffered = Unit {0}

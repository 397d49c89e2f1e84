-- The history: over any calls since the last accepted clear, accepted takings equal accepted deliveries plus packets held; both counts come from
-- the answers, and the trailer agrees. By the packets: those taken in are those handed out and those held, each once, and the accepted hops of
-- a packet, counted by its serial, are its distance from source to destination when it is handed out.
-- Assumes nothing.
use Rattle.std.specs.Prelude.{ℕ, ◌+◌, ◌<◌, ◌≡◌, Bool, false, cond, eqb, length}
use mathlib.Core.List.{List, [], ◌∷◌, ◌++◌, Permᴰ}
use Rattle.network.specs.declared.Lead.{Lead}
use Rattle.network.specs.declared.Lead.TheVariants.{Hop, Turn, Out, NotOffered}
use Rattle.network.specs.Lists.{total, All}
use Rattle.network.specs.Net.{Net}
use Rattle.slots.specs.Bytes.{bytes32}
use Rattle.board.specs.declared.Board.{Board}
use Rattle.table.specs.Packets.{packet_of}
use Rattle.calls.specs.Slices.{Bytes, head_in, net_in, slots_in, packet_in, held_in}
use Rattle.calls.specs.Router.{Router}
use Rattle.calls.specs.Calls.{Call, clears, takes, moves, looks, Handed, Given, left_by, given_by}
use Rattle.promises.specs.Conditions.{HeldAt, lead_in}
use Rattle.promises.specs.Demand3.{bounds_in}

-- what a packet taken in is bound for: mark 1, source, destination, as many hops as the distance, the serial answered, the payload handed in
abbrev pub bound_for : Net → ℕ → ℕ → ℕ → List ℕ → Given
bound_for N source destination serial payload =
    record { node = destination; packet = 1 ∷ source ∷ destination ∷ N.distance source destination ∷ (bytes32 serial ++ payload) }

-- the serial, where the lead is a hop
abbrev pub hop_by : Lead → ℕ → List ℕ
hop_by (Hop n) serial = serial ∷ []
hop_by (Turn k) serial = []
hop_by Out serial = []
hop_by NotOffered serial = []

module _ (R : Router) (s : List ℕ) where
  -- the packet that an accepted taking in takes in
  abbrev pub taken_by : Call → List Given
  taken_by (clears b) = []
  taken_by (takes source destination payload) =
      let a = (R.take_in s source destination payload).answer in
      cond (eqb a.number 0) (bound_for (net_in s) source destination a.serial payload ∷ []) []
  taken_by (moves slot code) = []
  taken_by (looks l) = []

  -- the serial of the packet that an accepted move leads by a hop
  abbrev pub hopped_by : Call → List ℕ
  hopped_by (clears b) = []
  hopped_by (takes source destination payload) = []
  hopped_by (moves slot code) = cond (eqb (R.make_move s slot code).answer.number 0) (hop_by (lead_in s slot code) (packet_in s slot).packet.serial) []
  hopped_by (looks l) = []

  -- is it an accepted clear?
  abbrev pub cleared_by : Call → Bool
  cleared_by (clears b) = eqb (R.clear s b).answer 0
  cleared_by (takes source destination payload) = false
  cleared_by (moves slot code) = false
  cleared_by (looks l) = false

-- the slice; and since the last accepted clear, the latest first, the packets taken in, those handed out, and the serials of those that hopped
pub record Ledger : Type 0 where
  pub last : List ℕ
  pub taken : List Given
  pub given : List Given
  pub hopped : List ℕ

abbrev pub opened : List ℕ → Ledger
opened s = record { last = s; taken = []; given = []; hopped = [] }

-- an accepted clear opens it anew
abbrev pub entered : Router → Call → Ledger → Ledger
entered R c r =
    let s = r.last in
    let past = cond (cleared_by R s c) (opened s) r in
    record {
      last = left_by R s c;
      taken = taken_by R s c ++ past.taken;
      given = given_by R s c ++ past.given;
      hopped = hopped_by R s c ++ past.hopped;
    }

abbrev pub ledger : Router → Ledger → List Call → Ledger
ledger R r [] = r
ledger R r (c ∷ cs) = ledger R (entered R c r) cs

-- how many of the hops are of that serial
abbrev pub hops_of : ℕ → List ℕ → ℕ
hops_of serial hopped = total (λ (n : ℕ). cond (eqb n serial) 1 0) hopped

pub record Balanced (R : Router) (r : Ledger) : Type 0 where
  pub balance : length r.taken ≡ length r.given + held_in r.last
  pub taken : (head_in r.last).taken ≡ length r.taken
  pub delivered : (head_in r.last).delivered ≡ length r.given
  pub passes : (R.full_check r.last).answer.number ≡ 0
  -- each packet taken in has been handed out as it was bound for, or is still held and bound for the same; each once
  pub accounted : Permᴰ r.taken (r.given ++ bounds_in r.last)
  -- each one handed out has made as many accepted hops, counted by its serial, as the distance from its source to its destination
  pub hops : All (λ (g : Given). hops_of (packet_of g.packet).serial r.hopped
      ≡ (net_in r.last).distance (packet_of g.packet).source (packet_of g.packet).destination) r.given
  -- and each one still held as many as its slot says
  pub hops_held : (k : ℕ) → k < slots_in r.last → HeldAt r.last k
      → hops_of (packet_in r.last k).packet.serial r.hopped ≡ (packet_in r.last k).packet.hops

-- from any accepted clear on
abbrev pub History : Router → Type 0
History R = (s : List ℕ) → Bytes s → (b : Board) → (R.clear s b).answer ≡ 0 → (calls : List Call) → All Handed calls
    → Balanced R (ledger R (opened (R.clear s b).bytes) calls)

-- Demand 3: from any table that passes the full check on, by moves alone. While a packet is undelivered some move is accepted; no more moves than
-- the sum are accepted; and when none is left to accept, every packet of the start has been delivered once, at its destination, with its
-- payload, after exactly as many hops as the grid distance from its source.
-- Assumes nothing.
use Rattle.std.specs.Prelude.{ℕ, ◌+◌, ◌<◌, ◌≤◌, ◌≡◌, ◌≢◌, ◌↔◌, ◌⊎◌, cond, get_or, set}
use mathlib.Core.List.{List, [], ◌∷◌, ◌++◌, Permᴰ}
use Rattle.network.specs.Lists.{collect}
use Rattle.network.specs.Net.{Net}
use Rattle.network.specs.Drain.{sum}
use Rattle.slots.specs.Slots.{zeros}
use Rattle.calls.specs.Slices.{Bytes, net_in, slots_in, slot_in, contents_in}
use Rattle.promises.specs.Conditions.{HeldAt, NothingHeld}
use Rattle.calls.specs.Router.{Router}
use Rattle.calls.specs.Calls.{Call, Given, Course, course, MovesAlone, following}

-- three plus its distance still to go for each waiting packet, two plus that distance for each in A, one plus that distance for each in B
abbrev pub sum_in : List ℕ → ℕ
sum_in s = sum (net_in s) (contents_in s)

-- what a held slot's packet is bound for: to be handed out at its destination, its 16 bytes with byte 3 the distance from source to destination
abbrev pub bound_of : Net → List ℕ → Given
bound_of N v = record { node = get_or v 2 0; packet = set v 3 (N.distance (get_or v 1 0) (get_or v 2 0)) }

abbrev pub bound_at : List ℕ → ℕ → List Given
bound_at s k = cond (zeros (slot_in s k)) [] (bound_of (net_in s) (slot_in s k) ∷ [])

abbrev pub bounds_in : List ℕ → List Given
bounds_in s = collect (bound_at s) (slots_in s)

-- what holds after any calls
pub record Drained (R : Router) (s : List ℕ) (c : Course) : Type 0 where
  -- the table passes the full check
  pub passes : (R.full_check c.last).answer.number ≡ 0
  -- no more moves than the sum
  pub bounded : c.accepted + sum_in c.last ≤ sum_in s
  -- each packet of the start has been handed out as it was bound for, or is still held and bound for the same; each once
  pub conserved : Permᴰ (bounds_in s) (c.given ++ bounds_in c.last)
  -- while a packet is held, some move is accepted
  pub onward : (k : ℕ) → k < slots_in c.last → HeldAt c.last k → (slot : ℕ) × (code : ℕ) × ((R.make_move c.last slot code).answer.number ≡ 0)
  -- when no move is accepted, nothing is held, and every packet of the start has been handed out as it was bound for
  pub finished : ((slot code : ℕ) → (R.make_move c.last slot code).answer.number ≢ 0) → NothingHeld c.last × Permᴰ (bounds_in s) c.given
  -- find names the lowest slot, and for it the lowest code, whose move is accepted, or answers 11, exactly where nothing is held
  pub found : (R.find c.last).answer.number ≡ 0
      → (R.make_move c.last (R.find c.last).answer.slot (R.find c.last).answer.code).answer.number ≡ 0
  pub lowest : (R.find c.last).answer.number ≡ 0 → (slot code : ℕ) → (R.make_move c.last slot code).answer.number ≡ 0
      → ((R.find c.last).answer.slot < slot) ⊎ (((R.find c.last).answer.slot ≡ slot) × ((R.find c.last).answer.code ≤ code))
  pub not_stuck : ((R.find c.last).answer.number ≡ 0) ⊎ ((R.find c.last).answer.number ≡ 11)
  pub nothing : ((R.find c.last).answer.number ≡ 11) ↔ NothingHeld c.last

pub record Demand3 (R : Router) : Type 0 where
  pub drains : (s : List ℕ) → Bytes s → (R.full_check s).answer.number ≡ 0 → (calls : List Call) → MovesAlone R s calls
      → Drained R s (course R s calls)
  -- following find empties the table within the sum
  pub empties : (s : List ℕ) → Bytes s → (R.full_check s).answer.number ≡ 0 → NothingHeld (course R s (following R (sum_in s) s)).last

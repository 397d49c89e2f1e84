-- Demand 3, as one statement over any machine that answers calls and whose states hold packets in places.
-- Assumes nothing.
use Rattle.std.specs.Prelude.{◌≡◌, ℕ, ◌+◌, ◌≤◌}
use mathlib.Core.List.{List, [], ◌++◌, map, Permᴰ, Memᴰ}
use Rattle.network.specs.Lists.{total}
use Rattle.network.specs.Net.{Net}
use Rattle.network.specs.Packet.{Item, Delivery, weight, bound}
use Rattle.network.specs.Contents.{Contents, Passing}
use Rattle.network.specs.Run.{Answer, trace, Accepted}

-- demand 3's sum
abbrev pub sum : Net → Contents → ℕ
sum N b = total (weight N) b.items

-- the deliveries that the packets held are bound for
abbrev pub bounds : Net → Contents → List Delivery
bounds N b = map (bound N) b.items

-- what holds of a state, whatever calls follow, refused ones among them
pub record Drains (N : Net) {S C : Type 0} (see : S → Contents) (answer : S → C → Answer S) (s : S) (calls : List C) : Type 0 where
  -- the table still passes
  pub passing : Passing N (see (trace answer s calls).last)
  -- no more moves than the sum are accepted
  pub bounded : (trace answer s calls).accepted + sum N (see (trace answer s calls).last) ≤ sum N (see s)
  -- each packet of the start has been handed out as it was bound for, or is still held and bound for the same; each once
  pub conserved : Permᴰ (bounds N (see s)) ((trace answer s calls).given ++ bounds N (see (trace answer s calls).last))
  -- while a packet is held, some move is accepted
  pub onward : (x : Item) → Memᴰ x (see (trace answer s calls).last).items → (c : C) × Accepted (answer (trace answer s calls).last c)
  -- when no move is accepted, nothing is held, and every packet of the start has been handed out as it was bound for
  pub finished : ((c : C) → Accepted (answer (trace answer s calls).last c) → ⊥)
      → ((see (trace answer s calls).last).items ≡ []) × Permᴰ (bounds N (see s)) (trace answer s calls).given

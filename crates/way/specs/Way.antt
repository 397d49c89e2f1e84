-- Static traffic first on a link (document 02, order 3; source 003, section VII: "only if no message is waiting in the static buffer associated with the
-- same link"): when the move of a packet in A gives way to a packet in B.
-- Assumes nothing.
use Rattle.std.specs.Prelude.{ℕ, Bool, true, false, ◌&&◌, List, Option}
use Rattle.network.specs.declared.Kind.{Kind}
use Rattle.network.specs.declared.Kind.TheVariants.{Waiting, A, B}
use Rattle.network.specs.declared.Place.{Place}
use Rattle.network.specs.declared.Lead.{Lead}
use Rattle.network.specs.declared.Lead.TheVariants.{Hop, Turn, Out, NotOffered}
use Rattle.network.specs.Net.{at}
use Rattle.network.specs.Packet.{offer}
use Rattle.network.specs.Search.{lowest_with, is_at}
use Rattle.board.specs.Board.{net_of}
use Rattle.board.specs.Layout.{layout_of}
use Rattle.trailer.specs.declared.Head.{Head}
use Rattle.table.specs.Packets.{item_in, good_at}

abbrev pub in_a : Kind → Bool
in_a Waiting = false
in_a A = true
in_a B = false

abbrev pub is_hop : Lead → Bool
is_hop (Hop n) = true
is_hop (Turn k) = false
is_hop Out = false
is_hop NotOffered = false

-- slot k holds a good packet that the rule offers a hop by the code
abbrev pub hops_at : Head → List ℕ → ℕ → ℕ → Bool
hops_at h t code k = good_at h t k && is_hop (offer (net_of h.board) (item_in h.board t k) code)

-- the lowest such slot of the node's B queue
unfoldable pub first_hop_in_b : Head → List ℕ → ℕ → ℕ → Option ℕ
first_hop_in_b h t code node = lowest_with (hops_at h t code) ((layout_of h.board).first (at node B)) ((layout_of h.board).room B)

-- a packet that the rule makes hop from A gives way where there is one
unfoldable pub gives_way : Head → List ℕ → Place → ℕ → Lead → Bool
gives_way h t here code lead = in_a here.kind && (is_hop lead && is_at (first_hop_in_b h t code here.node))

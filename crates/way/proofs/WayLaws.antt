-- The right of way on a link: a move is stopped exactly where it is a hop in A and some slot of the node's B queue holds a good packet that the rule
-- offers a hop by the same code, whatever the search for it.
-- Assumes nothing.
use Prim.Native.Nat.{ℕ, ◌<◌}
use mathlib.Core.Path.{◌≡◌, refl, ap}
use mathlib.Core.Bool.{Bool, true}
use mathlib.Core.List.{List}
use Rattle.network.specs.declared.Kind.{Kind}
use Rattle.network.specs.declared.Kind.TheVariants.{Waiting, A, B}
use Rattle.network.specs.declared.Place.{Place}
use Rattle.network.specs.declared.Lead.{Lead}
use Rattle.network.specs.declared.Lead.TheVariants.{Hop, Turn, Out, NotOffered}
use Rattle.network.specs.Net.{at}
use Rattle.network.specs.Packet.{offer}
use Rattle.network.specs.Machine.{GivesWayTo}
use Rattle.network.specs.Search.{is_at, number_at}
use Rattle.network.proofs.Tests.{clash, and_l, and_r, and_both}
use Rattle.network.proofs.SearchLaws.{at_some, at_lowest, some_at}
use Rattle.board.specs.Board.{GoodBoard, net_of}
use Rattle.board.specs.Layout.{layout_of}
use Rattle.board.proofs.BoardLaws.{layout_laws}
use Rattle.trailer.specs.declared.Head.{Head}
use Rattle.table.specs.Packets.{item_in, good_at}
use Rattle.table.proofs.QueueLaws.{queue_inside, queue_place, queue_at}
use Rattle.way.specs.Way.{in_a, is_hop, hops_at, first_hop_in_b, gives_way}

-- does the packet of slot k give way on a code?
abbrev pub stopped : Head → List ℕ → ℕ → ℕ → Bool
stopped h t k code = gives_way h t ((layout_of h.board).place_of k) code (offer (net_of h.board) (item_in h.board t k) code)

is_A : (k : Kind) → in_a k ≡ true → k ≡ A
is_A Waiting e = clash cc
is_A A e = refl
is_A B e = clash cc

hop_is : (lead : Lead) → is_hop lead ≡ true → (n : ℕ) × (lead ≡ Hop n)
hop_is (Hop n) e = (n, refl)
hop_is (Turn k) e = clash cc
hop_is Out e = clash cc
hop_is NotOffered e = clash cc

is_hop_lem : {lead : Lead} → (n : ℕ) × (lead ≡ Hop n) → is_hop lead ≡ true
is_hop_lem h = ap is_hop h.1

-- the packet of slot j stops that of slot k
pub record Stops (h : Head) (t : List ℕ) (k code j : ℕ) : Type 0 where
  pub inside : j < (layout_of h.board).size
  pub good : good_at h t j ≡ true
  pub yields : GivesWayTo (net_of h.board) (item_in h.board t k) (item_in h.board t j) code

module _ (h : Head) (t : List ℕ) (k code : ℕ) where
  abbrev here : Place
  here = (layout_of h.board).place_of k

  abbrev own_B : Place
  own_B = at here.node B

  abbrev found : Bool
  found = is_at (first_hop_in_b h t code here.node)

  module _ (w : stopped h t k code ≡ true) where
    from_A : here.kind ≡ A
    unfolding gives_way
    from_A = is_A here.kind (and_l _ _ w)

    -- so that 5 comes before 12
    pub stopped_hops : (n : ℕ) × (offer (net_of h.board) (item_in h.board t k) code ≡ Hop n)
    unfolding gives_way
    stopped_hops = hop_is _ (and_l _ _ (and_r (in_a here.kind) _ w))

    some_found : found ≡ true
    unfolding gives_way
    some_found = and_r (is_hop (offer (net_of h.board) (item_in h.board t k) code)) _ (and_r (in_a here.kind) _ w)

  module _ (g : GoodBoard h.board) (l : k < (layout_of h.board).size) where
    on : (net_of h.board).valid here.node ≡ true
    on = (layout_laws h.board g).on_net k l

    pub stopped_by : stopped h t k code ≡ true → (j : ℕ) × Stops h t k code j
    unfolding first_hop_in_b
    stopped_by w =
        let j = number_at (first_hop_in_b h t code here.node) in
        let low = at_lowest (hops_at h t code) _ _ j (at_some _ (some_found w)) in (
          j,
          record {
            inside = queue_inside h.board g own_B on j low.below;
            good = and_l _ _ low.has;
            yields = record {
              in_A = from_A w;
              in_B = queue_place h.board g own_B on j low.from low.below;
              hop = stopped_hops w;
              same_hop = hop_is _ (and_r (good_at h t j) _ low.has);
            };
          },
        )

    pub by_stopped : (j : ℕ) → Stops h t k code j → stopped h t k code ≡ true
    unfolding gives_way first_hop_in_b
    by_stopped j s =
        let q = queue_at h.board g own_B j s.inside s.yields.in_B in
        let there = some_at (hops_at h t code) _ _ j q.0 q.1 (and_both s.good (is_hop_lem s.yields.same_hop)) in
        and_both (ap in_a s.yields.in_A) (and_both (is_hop_lem s.yields.hop) (ap is_at there.1))

-- The laws of a good board: its network keeps the network's laws and its layout the layout's, which links A and B share, and how many slots, which nodes
-- and how many hops there can be.
-- Assumes nothing.
use Prim.Native.Nat.{ℕ, ◌+◌, ◌-◌, ◌*◌, ◌≤◌, ◌<◌}
use mathlib.Core.Path.{◌≡◌, refl}
use mathlib.Core.Bool.{true}
use mathlib.Core.Logic.{◌⊎◌, ◌≢◌}
use mathlib.Core.List.{List}
use native.Mathlib.Omega.{arith}
use lib.ListN.{length}
use Rattle.network.specs.declared.Kind.TheVariants.{Waiting, B}
use Rattle.network.specs.declared.Place.{Place}
use Rattle.network.specs.declared.Lead.TheVariants.{Hop, NotOffered}
use Rattle.network.specs.Net.{NetLaws, at}
use Rattle.network.specs.View.{LayoutLaws}
use Rattle.mesh.specs.Rule.{profile_of}
use Rattle.mesh.proofs.Hops.{on_means}
use Rattle.mesh.proofs.Instance.{mesh_laws}
use Rattle.mesh.proofs.Links as links
use Rattle.mesh.proofs.Metric.{distance_most}
use Rattle.mesh.proofs.Source003.{published_is}
use Rattle.board.specs.declared.Board.{Board}
use Rattle.board.specs.Board.{GoodBoard, net_of, published_on, coordinates_of}
use Rattle.board.specs.Layout.{layout_of, Sized}
use Rattle.board.proofs.Sizes.{places_most}
use Rattle.board.proofs.Places.{queue_inside, queue_there, queue_roomy, place_on, own_queue}

-- the rule is the published one
pub published_on_lem : (b : Board) (p : Place) (d c : ℕ) → (net_of b).rule p d c ≡ published_on b p d c
unfolding net_of published_on
published_on_lem b = published_is (profile_of b.profile)

pub net_laws : (b : Board) → NetLaws (net_of b)
unfolding net_of
net_laws b = mesh_laws b.width b.height (profile_of b.profile)

-- in B the hops are codes 3 and 5, and where 3 or 5 is offered it is a hop
pub B_hops_by : (b : Board) (h d c n : ℕ) → (net_of b).rule (at h B) d c ≡ Hop n → (c ≡ 3) ⊎ (c ≡ 5)
unfolding net_of
B_hops_by b = links.B_hops_by (profile_of b.profile)

pub offered_hops : (b : Board) (p : Place) (d c : ℕ) → (c ≡ 3) ⊎ (c ≡ 5) → (net_of b).rule p d c ≢ NotOffered → (n : ℕ) × ((net_of b).rule p d c ≡ Hop n)
unfolding net_of
offered_hops b = links.offered_hops (profile_of b.profile)

pub last_byte : (b : Board) → (net_of b).last < 256
unfolding net_of
last_byte b = omega arith

module _ (b : Board) (g : GoodBoard b) where
  pub layout_laws : LayoutLaws (net_of b) (layout_of b)
  unfolding net_of
  layout_laws = record {
    on_net = place_on b g;
    within = queue_inside b;
    there = queue_there b;
    roomy = queue_roomy b g;
    own = own_queue b g;
  }

  pub slots_most : (layout_of b).size ≤ 3840
  unfolding layout_of
  slots_most = places_most g

  pub valid_byte : (n : ℕ) → (net_of b).valid n ≡ true → n < 256
  unfolding net_of
  valid_byte n v = let a = (on_means b.width b.height n v).1 in omega arith

  pub place_byte : (i : ℕ) → i < (layout_of b).size → ((layout_of b).place_of i).node < 256
  place_byte i l = valid_byte _ (layout_laws.on_net i l)

  -- a queue's slots all lie in the table
  pub queue_within : (p : Place) → (net_of b).valid p.node ≡ true → (layout_of b).first p + (layout_of b).room p.kind ≤ (layout_of b).size
  queue_within p v =
      let some = layout_laws.roomy p.kind in
      let last = layout_laws.within p ((layout_of b).room p.kind - 1) v (omega arith) in
      omega arith

-- a node has one waiting slot
pub one_waiting : (b : Board) → (layout_of b).room Waiting ≡ 1
unfolding layout_of
one_waiting b = refl

-- between any two address bytes
pub distance_byte : (b : Board) (m n : ℕ) → m < 256 → n < 256 → (net_of b).distance m n ≤ 30
unfolding net_of
distance_byte b = distance_most

-- of an address byte
pub coordinates_small : (b : Board) (n : ℕ) → n < 256 → ((coordinates_of b n).x < 16) × ((coordinates_of b n).y < 16)
unfolding coordinates_of
coordinates_small b n l = (omega arith, omega arith)

-- a slot's 16 bytes lie in the table, and so do all of them
pub slot_fits : {b : Board} {t : List ℕ} → Sized b t → (k : ℕ) → k < (layout_of b).size → 16 * k + 16 ≤ length t
slot_fits z k l = omega (arith, z.full)

pub slots_inside : {b : Board} {t : List ℕ} → Sized b t → 16 * (layout_of b).size ≤ length t
slots_inside z = omega (arith, z.full)

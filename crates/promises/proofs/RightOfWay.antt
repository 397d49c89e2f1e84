-- On a grid a packet gives way exactly where order 3 says so in its own words: on codes 3 and 5, which are the codes by which packets hop in B.
-- Assumes nothing.
use Prim.Native.Nat.{ℕ}
use mathlib.Core.Path.{◌≡◌, sym, ap, ◌∙◌}
use mathlib.Core.Logic.{◌≢◌, ◌⊎◌, ◌↔◌}
use mathlib.Core.List.{List}
use Rattle.network.specs.declared.Kind.TheVariants.{B}
use Rattle.network.specs.declared.Place.{Place}
use Rattle.network.specs.declared.Lead.{Lead}
use Rattle.network.specs.declared.Lead.TheVariants.{Hop, NotOffered}
use Rattle.network.specs.Net.{at}
use Rattle.network.proofs.Tests.{clash}
use Rattle.board.specs.Board.{published_on}
use Rattle.board.proofs.BoardLaws.{published_on_lem, B_hops_by, offered_hops}
use Rattle.calls.specs.Slices.{board_in, place_in, packet_in}
use Rattle.promises.specs.Conditions.{lead_in, GivesWay}
use Rattle.promises.specs.RightOfWay.{AsOrdered}

hop_offered : {lead : Lead} → (n : ℕ) × (lead ≡ Hop n) → lead ≢ NotOffered
hop_offered h e = let g = h.1 in clash cc

module _ (s : List ℕ) where
  -- a slot of B whose packet hops by a code
  B_codes : (k node code n : ℕ) → place_in s k ≡ at node B → lead_in s k code ≡ Hop n → (code ≡ 3) ⊎ (code ≡ 5)
  B_codes k node code n e h =
      B_hops_by (board_in s) node (packet_in s k).packet.destination code n
      (published_on_lem (board_in s) (at node B) _ code ∙ ap (λ (p : Place). published_on (board_in s) p (packet_in s k).packet.destination code) (sym e) ∙ h)

  -- codes 3 and 5 hop, wherever they are offered
  hops : (k code : ℕ) → (code ≡ 3) ⊎ (code ≡ 5) → lead_in s k code ≢ NotOffered → (n : ℕ) × (lead_in s k code ≡ Hop n)
  hops k code c u =
      let same = published_on_lem (board_in s) (place_in s k) (packet_in s k).packet.destination code in
      let r = offered_hops (board_in s) (place_in s k) (packet_in s k).packet.destination code c (λ e. u (sym same ∙ e)) in
      (r.0, sym same ∙ r.1)

  pub as_ordered : (slot code : ℕ) → GivesWay s slot code ↔ AsOrdered s slot code
  as_ordered slot code = (to, from)
    where
      to : GivesWay s slot code → AsOrdered s slot code
      to (j, w) = record {
        codes = B_codes j _ code _ w.in_B w.same_hop.1;
        in_A = w.in_A;
        offered = hop_offered w.hop;
        holds = (j, record { inside = w.inside; there = w.in_B; held = w.held; good = w.good; offered = hop_offered w.same_hop });
      }

      from : AsOrdered s slot code → GivesWay s slot code
      from a =
          let b = a.holds.1 in (
            a.holds.0,
            record {
              in_A = a.in_A;
              hop = hops slot code a.codes a.offered;
              inside = b.inside;
              in_B = b.there;
              held = b.held;
              good = b.good;
              same_hop = hops a.holds.0 code a.codes b.offered;
            },
          )

-- One packet's move: it stays good, grows lighter, and is bound for the same delivery.
-- Assumes nothing.
use mathlib.Core.Path.{◌≡◌, refl, sym, ap, subst, ◌∙◌}
use mathlib.Core.Logic.{◌≢◌}
use mathlib.Core.Bool.{true}
use Prim.Native.Nat.{ℕ, suc, ◌+◌, ◌<◌}
use native.Mathlib.Omega.{arith}
use borrow.Author.Tests.{ltb-true, eqb-true, lt-ltb, eq-eqb}
use Rattle.network.specs.declared.Kind.{Kind}
use Rattle.network.specs.declared.Kind.TheVariants.{Waiting, A, B}
use Rattle.network.specs.declared.Place.{Place}
use Rattle.network.specs.declared.Lead.TheVariants.{Hop, Turn, Out}
use Rattle.network.specs.Net.{Net, NetLaws, RuleLaws, at, beside}
use Rattle.network.specs.Packet.{Item, fits_kind, good, GoodItem, offer, with_hops, hopped, turned, handed, weight, bound}
use Rattle.network.specs.Contents.{serial_of}
use Rattle.network.specs.Machine.{Led, by_hop, by_turn}
use Rattle.network.proofs.Tests.{and_l, and_r, and_both}

-- the test and its meaning
module _ (N : Net) (taken delivered : ℕ) (x : Item) where
  pub good_means : N.valid x.place.node ≡ true → good N taken delivered x ≡ true → GoodItem N taken delivered x
  unfolding good
  good_means h g = record {
    here = h;
    marked = eqb-true _ _ (search (and_l, and_r));
    from = search (and_l, and_r);
    to = search (and_l, and_r);
    numbered = ltb-true _ _ (search (and_l, and_r));
    due = ltb-true _ _ (search (and_l, and_r));
    made = eqb-true _ _ (search (and_l, and_r));
    left = eqb-true _ _ (search (and_l, and_r) depth 9);
    fits = search (and_l, and_r) depth 9;
  }

  pub means_good : GoodItem N taken delivered x → good N taken delivered x ≡ true
  unfolding good
  means_good g = search (and_both, lt-ltb, eq-eqb) depth 12

-- in a waiting slot, the source is here; in a B slot, B may hold a packet here for that destination
module _ {N : Net} {taken delivered : ℕ} {x : Item} (g : GoodItem N taken delivered x) where
  pub waits-at_source : x.place.kind ≡ Waiting → x.packet.source ≡ x.place.node
  waits-at_source e = eqb-true _ _ (rw e at g.fits)

  pub settled_in_B : x.place.kind ≡ B → N.settled x.place.node x.packet.destination ≡ true
  settled_in_B e = rw e at g.fits

-- a hop of a packet on a shortest path keeps it on one, one farther from its source
module _ (N : Net) (L : NetLaws N) (source h d : ℕ) (on : N.valid h ≡ true) (to : N.valid d ≡ true)
    (short : N.distance source h + N.distance h d ≡ N.distance source d) (k : Kind) (c n : ℕ) (e : N.rule (at h k) d c ≡ Hop n) where
  pub hop_farther : N.distance source n ≡ suc (N.distance source h)
  hop_farther =
      let one = (L.rule h d on to).hop_one k c n e in
      let near = (L.rule h d on to).hop_nearer k c n e in
      omega (arith, L.triangle source h n, L.triangle source n d)

  pub hop_shortest : N.distance source n + N.distance n d ≡ N.distance source d
  hop_shortest = omega (arith, hop_farther, (L.rule h d on to).hop_nearer k c n e)

no_higher : (l : Kind) → beside Waiting < beside l → ⊥
no_higher Waiting u = omega arith
no_higher A u = omega arith
no_higher B u = omega arith

module _ (N : Net) (L : NetLaws N) (taken delivered : ℕ) (x : Item) (g : GoodItem N taken delivered x) (code : ℕ) where
  laws : RuleLaws N x.place.node x.packet.destination
  laws = L.rule x.place.node x.packet.destination g.here g.to

  hopped_fits : (n : ℕ) (k : Kind) → k ≡ x.place.kind → offer N x code ≡ Hop n → fits_kind N k n (hopped x n).packet ≡ true
  hopped_fits n Waiting w e = absurd (laws.hop_queued code n (rw w e))
  hopped_fits n A w e = refl
  hopped_fits n B w e = laws.hop_settled code n (settled_in_B g (sym w)) (rw w e)

  hopped_good : (n : ℕ) → offer N x code ≡ Hop n → GoodItem N taken delivered (hopped x n)
  hopped_good n e =
      let short : N.distance x.packet.source x.place.node + N.distance x.place.node x.packet.destination
      ≡ N.distance x.packet.source x.packet.destination = omega (arith, g.made, g.left) in
      let far = hop_farther N L x.packet.source x.place.node x.packet.destination g.here g.to short x.place.kind code n e in
      let near = hop_shortest N L x.packet.source x.place.node x.packet.destination g.here g.to short x.place.kind code n e in
      record {
        here = laws.hop_valid x.place.kind code n e;
        marked = g.marked;
        from = g.from;
        to = g.to;
        numbered = g.numbered;
        due = g.due;
        made = omega (arith, g.made);
        left = omega (arith, g.made);
        fits = hopped_fits n x.place.kind refl e;
      }

  turned_fits : (k : Kind) → offer N x code ≡ Turn k → fits_kind N k x.place.node x.packet ≡ true
  turned_fits Waiting e = absurd (no_higher x.place.kind (laws.turn_down x.place.kind Waiting code e))
  turned_fits A e = refl
  turned_fits B e = laws.turn_settled x.place.kind code e

  turned_good : (k : Kind) → offer N x code ≡ Turn k → GoodItem N taken delivered (turned x k)
  turned_good k e = record {
    here = g.here;
    marked = g.marked;
    from = g.from;
    to = g.to;
    numbered = g.numbered;
    due = g.due;
    made = g.made;
    left = g.left;
    fits = turned_fits k e;
  }

  module _ (y : Item) where
    pub led_good : Led N x code y → GoodItem N taken delivered y
    led_good (by_hop n e f) = subst (GoodItem N taken delivered) (sym f) (hopped_good n e)
    led_good (by_turn k e f) = subst (GoodItem N taken delivered) (sym f) (turned_good k e)

    pub led_lighter : Led N x code y → weight N y < weight N x
    unfolding weight
    led_lighter (by_hop n e f) = rw f (omega (arith, laws.hop_nearer x.place.kind code n e))
    led_lighter (by_turn k e f) = rw f (omega (arith, laws.turn_down x.place.kind k code e))

    -- a move's own queue and its target always differ
    pub led_elsewhere : Led N x code y → x.place ≢ y.place
    led_elsewhere (by_hop n e f) q =
        let stays : x.place.node ≡ n = ap (λ (p : Place). p.node) (q ∙ ap (λ (i : Item). i.place) f) in
        let same : N.distance x.place.node x.packet.destination ≡ N.distance n x.packet.destination
        = ap (λ m. N.distance m x.packet.destination) stays in
        omega (arith, laws.hop_nearer x.place.kind code n e)
    led_elsewhere (by_turn k e f) q =
        let stays : x.place.kind ≡ k = ap (λ (p : Place). p.kind) (q ∙ ap (λ (i : Item). i.place) f) in
        let same : beside x.place.kind ≡ beside k = ap beside stays in
        omega (arith, laws.turn_down x.place.kind k code e)

    pub led_bound : Led N x code y → bound N y ≡ bound N x
    unfolding bound
    led_bound (by_hop n e f) = rw f
    led_bound (by_turn k e f) = rw f

    pub led_serial : Led N x code y → serial_of y ≡ serial_of x
    led_serial (by_hop n e f) = rw f
    led_serial (by_turn k e f) = rw f

  pub handed-bound : offer N x code ≡ Out → handed x ≡ bound N x
  unfolding bound
  handed-bound e =
      let there = laws.out_there x.place.kind code e in
      let all : x.packet.hops ≡ N.distance x.packet.source x.packet.destination = g.made ∙ ap (N.distance x.packet.source) there in
      λ i. record { node = there i; packet = with_hops x.packet (all i) }

pub weight_pos : (N : Net) (x : Item) → 0 < weight N x
unfolding weight
weight_pos N x = go x.place.kind
  where
    go : (k : Kind) → 0 < beside k + N.distance x.place.node x.packet.destination
    go Waiting = omega arith
    go A = omega arith
    go B = omega arith

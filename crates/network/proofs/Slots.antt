-- A table's slots and its packets in places: one move of a packet between slots is one step of a packet, so a table that moves so is a machine.
-- Assumes nothing.
use mathlib.Core.Path.{◌≡◌, refl, sym, ap, subst, ◌∙◌}
use mathlib.Core.Bool.{true}
use mathlib.Core.Logic.{◌≢◌}
use mathlib.Core.List.Memᴰ
use mathlib.Core.List.{List, ◌∷◌, Memᴰ, Permᴰ}
use Prim.Native.Nat.{ℕ, suc, ◌+◌, ◌<◌}
use native.Mathlib.Omega.{arith}
use native.Mathlib.Nat.{add-zero}
use Rattle.network.specs.declared.Place.{Place}
use Rattle.network.specs.Net.{Net, NetLaws, at}
use Rattle.network.specs.Packet.{Packet, Item, Delivery, GoodItem}
use Rattle.network.specs.Contents.{Passing}
use Rattle.network.specs.View.{Slot, empty, held, Layout, LayoutLaws, View, item_at, seen, items_of, contents}
use Rattle.network.specs.Run.{Answer, trace}
use Rattle.network.specs.Machine.{Stepped, Left, Open, leaves, hops, turns, Vacant, RightOfWay, Machine}
use Rattle.network.specs.Table.{Vacated, Entered, Carried, HandedOut, HasRoom, TableMachine}
use Rattle.network.specs.Drain.{Drains}
use Rattle.network.proofs.Lists.{take_out, close_up, collect_mem, mem_collect, all_mem}
use Rattle.network.proofs.Drain.{drains, still_fit}

-- a slot is seen the same in every slot of its queue
seen_same : (Y : Layout) (i j : ℕ) (s t : Slot) → Y.place_of i ≡ Y.place_of j → s ≡ t → seen Y i s ≡ seen Y j t
seen_same Y i j empty t e f = rw (← f)
seen_same Y i j (held p) t e f = rw (← f, e)

-- what is seen of the slots when one is left
module _ (Y : Layout) (v w : View) (i n : ℕ) (c : Vacated Y v w i n) where
  abbrev before_it : ℕ → List Item
  before_it k = seen Y k (v.at k)

  abbrev after_it : ℕ → List Item
  after_it k = seen Y k (w.at k)

  moved_down : (k : ℕ) → k < n → after_it (i + k) ≡ before_it (i + suc k)
  moved_down k l =
      seen_same Y (i + k) (i + suc k) (w.at (i + k)) (v.at (i + suc k)) (c.queue k (omega arith) ∙ sym (c.queue (suc k) l)) (c.down k l)

  -- its packet is gone, and the others are in their places still
  pub vacated_items : (p : Packet) → v.at i ≡ held p → Permᴰ (items_of Y v) (item_at Y i p ∷ items_of Y w)
  vacated_items p was =
      close_up before_it after_it i n Y.size (item_at Y i p) c.inside moved_down (rw c.last) (λ k l. rw (c.before k l)) (λ k l u. rw (c.behind k l u)) (rw was)

-- a packet that comes into an empty slot is one more
pub entered_items : (Y : Layout) (v w : View) (j : ℕ) (q : Packet) → Entered Y v w j q → Permᴰ (items_of Y w) (item_at Y j q ∷ items_of Y v)
entered_items Y v w j q c =
    take_out (λ k. seen Y k (w.at k)) (λ k. seen Y k (v.at k)) j Y.size (item_at Y j q) c.inside (rw c.come) (rw c.free)
    (λ k h u. rw (c.rest k h u))

-- a slot left with nothing else changed
pub emptied : (Y : Layout) (v w : View) (i : ℕ) → i < Y.size → w.at i ≡ empty → ((k : ℕ) → k < Y.size → k ≢ i → w.at k ≡ v.at k) → Vacated Y v w i 0
emptied Y v w i inside gone rest = record {
  inside = omega arith;
  queue = λ k l. ap Y.place_of (omega arith);
  down = λ k l. absurd (omega arith);
  last = rw (add-zero i) gone;
  before = λ k l. rest k (omega arith) (λ e. omega arith);
  behind = λ k l u. rest k u (λ e. omega arith);
}

-- slots as packets in places
module _ (Y : Layout) (v : View) where
  pub held_mem : (i : ℕ) (p : Packet) → i < Y.size → v.at i ≡ held p → Memᴰ (item_at Y i p) (items_of Y v)
  held_mem i p h e = mem_collect (λ k. seen Y k (v.at k)) Y.size i h (rw e (Memᴰ.head refl))

  slot_of : (x : Item) → Memᴰ x (items_of Y v) → (i : ℕ) × (p : Packet) × (i < Y.size) × (v.at i ≡ held p) × (x ≡ item_at Y i p)
  slot_of x m =
      let r = collect_mem (λ i. seen Y i (v.at i)) Y.size m in
      go r.0 r.1 (v.at r.0) refl r.2
    where
      go : (i : ℕ) → i < Y.size → (s : Slot) → v.at i ≡ s → Memᴰ x (seen Y i s)
          → (i : ℕ) × (p : Packet) × (i < Y.size) × (v.at i ≡ held p) × (x ≡ item_at Y i p)
      go i h empty e m = elim m [ ]
      go i h (held p) e m = (i, p, h, e, Memᴰ.eq_of_singleton m)

  -- where no packet stands in a queue, its first slot is empty
  vacant_room : (N : Net) → LayoutLaws N Y → (p : Place) → N.valid p.node ≡ true → Vacant (items_of Y v) p → HasRoom Y v p
  vacant_room N K p g none = (0, K.roomy p.kind, go (v.at (Y.first p + 0)) refl)
    where
      go : (s : Slot) → v.at (Y.first p + 0) ≡ s → v.at (Y.first p + 0) ≡ empty
      go empty e = e
      go (held q) e =
          absurd (all_mem (λ y. y.place ≡ p → ⊥) (held_mem (Y.first p + 0) q (K.within p 0 g (K.roomy p.kind)) e) none (K.there p 0 g (K.roomy p.kind)))

-- whether or not the queue closes up
module _ (N : Net) (Y : Layout) (v w : View) where
  pub carried_stepped : Carried N Y v w → Stepped N (contents Y v) (contents Y w)
  carried_stepped c = record {
    x = item_at Y c.i c.p;
    y = item_at Y c.j c.q;
    code = c.code;
    others = items_of Y c.between;
    was = vacated_items Y v c.between c.i c.n c.vacated c.p c.was;
    is = entered_items Y c.between w c.j c.q c.entered;
    led = c.led;
    taken = c.taken;
    delivered = c.delivered;
  }

  pub handed_left : (d : Delivery) → HandedOut N Y v w d → Left N (contents Y v) (contents Y w) d
  handed_left d c = record {
    x = item_at Y c.i c.p;
    code = c.code;
    was = vacated_items Y v w c.i c.n c.vacated c.p c.was;
    offered = c.offered;
    given = c.given;
    taken = c.taken;
    delivered = c.delivered;
  }

module _ (N : Net) (L : NetLaws N) (Y : Layout) (K : LayoutLaws N Y) {S C : Type 0} (see : S → View) (Fit : S → Type 0) (answer : S → C → Answer S)
    (T : TableMachine N Y see Fit answer) where
  open_room : (v : View) → Passing N (contents Y v) → (x : Item) (code : ℕ) → Memᴰ x (items_of Y v) → Open N (Vacant (items_of Y v)) x code → Open N (HasRoom Y v) x code
  open_room v P x code m o = go o
    where
      g : GoodItem N v.taken v.delivered x
      g = all_mem (GoodItem N v.taken v.delivered) m P.sound

      go : Open N (Vacant (items_of Y v)) x code → Open N (HasRoom Y v) x code
      go (leaves e) = leaves e
      go (hops n e f) = hops n e
          (vacant_room Y v N K (at n x.place.kind) ((L.rule x.place.node x.packet.destination g.here g.to).hop_valid x.place.kind code n e) f)
      go (turns k e f) = turns k e (vacant_room Y v N K (at x.place.node k) g.here f)

  table_machine : Machine N (λ s. contents Y (see s)) Fit answer
  table_machine = record {
    steps = T.carries;
    gives = T.hands;
    goes = λ s f P x code m o right.
        let r = slot_of Y (see s) x m in
        T.accepts s f P r.0 r.1 code r.2 r.3 (subst (λ (z : Item). Open N (HasRoom Y (see s)) z code) r.4 (open_room (see s) P x code m o))
        (subst (λ (z : Item). RightOfWay N (items_of Y (see s)) z code) r.4 right);
  }

  -- demand 3 for tables
  pub table_drains : (s : S) → Fit s → Passing N (contents Y (see s)) → (calls : List C) → Drains N (λ t. contents Y (see t)) answer s calls
  table_drains = drains N L (λ s. contents Y (see s)) Fit answer table_machine

  -- and the state at the end is a table still
  pub table_fit : (s : S) → Fit s → Passing N (contents Y (see s)) → (calls : List C) → Fit (trace answer s calls).last
  table_fit = still_fit N L (λ s. contents Y (see s)) Fit answer table_machine

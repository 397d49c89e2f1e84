-- What a packet's bytes say: which of them the tests read, that a good one is good in its place, its hops leaving room for one more in their byte, and
-- how a slot is seen.
-- Assumes nothing.
use Prim.Native.Nat.{ℕ, ◌+◌, ◌<◌, ◌≤◌}
use mathlib.Core.Path.{◌≡◌, refl, sym, ap, ◌∙◌}
use mathlib.Core.Bool.{Bool, true, false, cond}
use mathlib.Core.List.{List, [], ◌∷◌}
use native.Mathlib.Omega.{arith}
use lib.ListN.{length, get_or, take}
use lib.Seq.{get_or-take}
use borrow.Author.Tests.{eqb-true}
use Rattle.network.specs.declared.Kind.{Kind}
use Rattle.network.specs.declared.Kind.TheVariants.{Waiting, A, B}
use Rattle.network.specs.declared.Place.{Place}
use Rattle.network.specs.Net.{Net}
use Rattle.network.specs.Packet.{Packet, fits_kind, good, GoodItem, with_hops}
use Rattle.network.specs.View.{empty, held}
use Rattle.network.proofs.Course.{good_means}
use Rattle.network.proofs.Tests.{and_l, clash, cond_true, cond_false}
use Rattle.slots.specs.Bytes.{part}
use Rattle.slots.specs.Slots.{slot_at, zeros}
use Rattle.slots.proofs.Parts.{part-part}
use Rattle.slots.proofs.Numbers.{le32_same}
use Rattle.board.specs.Board.{GoodBoard, net_of}
use Rattle.board.specs.Layout.{layout_of}
use Rattle.board.proofs.BoardLaws.{layout_laws, valid_byte, place_byte, distance_byte}
use Rattle.trailer.specs.declared.Head.{Head}
use Rattle.table.specs.Packets.{packet_of, slot_of, item_in, good_at, fields_of, packet_by, item_by}
use Rattle.table.specs.Carriage.{hop}

-- the fields are read of the first eight bytes
pub fields_same : (v w : List ℕ) → take 8 v ≡ take 8 w → fields_of v ≡ fields_of w
fields_same v w e =
    let b : (i : ℕ) → i < 8 → get_or v i 0 ≡ get_or w i 0 = λ i l. sym (get_or-take 8 v i 0 l) ∙ ap (λ (x : List ℕ). get_or x i 0) e ∙ get_or-take 8 w i 0 l in
    let p : part v 4 4 ≡ part w 4 4 = sym (part-part v 0 8 4 4 (omega arith)) ∙ ap (λ (x : List ℕ). part x 4 4) e ∙ part-part w 0 8 4 4 (omega arith) in
    rw (b 0 (omega arith), b 1 (omega arith), b 2 (omega arith), b 3 (omega arith), le32_same v w 4 4 p)

-- no test reads the payload
module _ (v : List ℕ) where
  fits_by : (N : Net) (k : Kind) (here : ℕ) → fits_kind N k here (packet_by (fields_of v)) ≡ fits_kind N k here (packet_of v)
  fits_by N Waiting here = refl
  fits_by N A here = refl
  fits_by N B here = refl

  pub good_by : (N : Net) (taken delivered : ℕ) (here : Place)
      → good N taken delivered (item_by here (fields_of v)) ≡ good N taken delivered (record { place = here; packet = packet_of v })
  unfolding good
  good_by N taken delivered here = rw (fits_by N here.kind here.node)

pub mark_not_zero : (v : List ℕ) → get_or v 0 0 ≡ 1 → zeros v ≡ false
mark_not_zero [] e = clash e
mark_not_zero (x ∷ v) e = rw e

module _ (h : Head) (t : List ℕ) (k : ℕ) (good-there : good_at h t k ≡ true) where
  pub mark_held : zeros (slot_at t k) ≡ false
  unfolding good_at good
  mark_held = mark_not_zero (slot_at t k) (eqb-true _ _ (and_l _ _ good-there))

  module _ (g : GoodBoard h.board) (l : k < (layout_of h.board).size) where
    pub good_here : GoodItem (net_of h.board) h.taken h.delivered (item_in h.board t k)
    unfolding good_at
    good_here = good_means (net_of h.board) h.taken h.delivered (item_in h.board t k) ((layout_laws h.board g).on_net k l) good-there

    pub good_hops : get_or (slot_at t k) 3 0 ≤ 30
    good_hops =
        rw good_here.made
        (distance_byte h.board (get_or (slot_at t k) 1 0) ((layout_of h.board).place_of k).node (valid_byte _ g _ good_here.from) (place_byte _ g k l))

-- ---- a slot as it is seen

pub slot_held : (v : List ℕ) → zeros v ≡ false → slot_of v ≡ held (packet_of v)
slot_held v e = cond_false _ _ e

pub slot_empty : (v : List ℕ) → zeros v ≡ true → slot_of v ≡ empty
slot_empty v e = cond_true _ _ e

pub slot_says : (v : List ℕ) (p : Packet) → slot_of v ≡ held p → (zeros v ≡ false) × (packet_of v ≡ p)
slot_says v p e = go (zeros v) refl e
  where
    go : (b : Bool) → zeros v ≡ b → cond b empty (held (packet_of v)) ≡ held p → (zeros v ≡ false) × (packet_of v ≡ p)
    go true f g = clash cc
    go false f g = (f, cc)

pub slot_zeros : (v : List ℕ) → slot_of v ≡ empty → zeros v ≡ true
slot_zeros v e = go (zeros v) refl e
  where
    go : (b : Bool) → zeros v ≡ b → cond b empty (held (packet_of v)) ≡ empty → zeros v ≡ true
    go true f g = f
    go false f g = clash cc

-- a packet's record with more hops
pub packet_hop : (v : List ℕ) (more : ℕ) → 4 ≤ length v → packet_of (hop v more) ≡ with_hops (packet_of v) (get_or v 3 0 + more)
packet_hop [] more h = absurd (omega arith)
packet_hop (a ∷ []) more h = absurd (omega arith)
packet_hop (a ∷ b ∷ []) more h = absurd (omega arith)
packet_hop (a ∷ b ∷ c ∷ []) more h = absurd (omega arith)
packet_hop (a ∷ b ∷ c ∷ d ∷ v) more h = refl

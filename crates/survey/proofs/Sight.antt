-- The full check sees of each slot whether it is held, and its first eight bytes: tables that agree in these get the same answer.
-- Assumes nothing.
use Prim.Native.Nat.{ℕ, zero, suc, ◌≤◌, ◌<◌}
use mathlib.Core.Path.{◌≡◌, refl, sym, ap, ◌∙◌}
use mathlib.Core.List.{List}
use native.Mathlib.Omega.{arith}
use lib.ListN.{take}
use Rattle.network.specs.Packet.{good}
use Rattle.network.proofs.SearchLaws.{lowest_same}
use Rattle.slots.specs.Slots.{slot_at, zeros}
use Rattle.board.specs.Board.{net_of}
use Rattle.board.specs.Layout.{layout_of}
use Rattle.trailer.specs.declared.Head.{Head}
use Rattle.table.specs.declared.packets.Fields.{Fields}
use Rattle.table.specs.Packets.{good_at, fields_of, item_by}
use Rattle.table.specs.Held.{held_below}
use Rattle.table.proofs.PacketLaws.{fields_same, good_by}
use Rattle.survey.specs.Check.{serial_at, spoiled_at, first_spoiled, has_serial, repeats_at, first_repeat, miscount, fault_in}

-- the first n slots of two tables look the same to the check
pub record SeenSame (n : ℕ) (t w : List ℕ) : Type 0 where
  pub held : (k : ℕ) → k < n → zeros (slot_at t k) ≡ zeros (slot_at w k)
  pub front : (k : ℕ) → k < n → take 8 (slot_at t k) ≡ take 8 (slot_at w k)

module _ {n : ℕ} {t w : List ℕ} (a : SeenSame n t w) where
  pub fields_alike : (k : ℕ) → k < n → fields_of (slot_at t k) ≡ fields_of (slot_at w k)
  fields_alike k l = fields_same (slot_at t k) (slot_at w k) (a.front k l)

  serial_alike : (k : ℕ) → k < n → serial_at t k ≡ serial_at w k
  serial_alike k l = ap (λ (f : Fields). f.serial) (fields_alike k l)

  good_alike : (h : Head) (k : ℕ) → k < n → good_at h t k ≡ good_at h w k
  unfolding good_at
  good_alike h k l =
      let here = (layout_of h.board).place_of k in
      sym (good_by (slot_at t k) (net_of h.board) h.taken h.delivered here)
      ∙ ap (λ (f : Fields). good (net_of h.board) h.taken h.delivered (item_by here f)) (fields_alike k l)
      ∙ good_by (slot_at w k) (net_of h.board) h.taken h.delivered here

  spoiled_alike : (h : Head) (k : ℕ) → k < n → spoiled_at h t k ≡ spoiled_at h w k
  spoiled_alike h k l = rw (a.held k l, good_alike h k l)

  has_alike : (s m : ℕ) → m ≤ n → has_serial t s m ≡ has_serial w s m
  has_alike s zero l = refl
  has_alike s (suc m) l = rw (a.held m l, serial_alike m l, has_alike s m (omega arith))

  repeats_alike : (k : ℕ) → k < n → repeats_at t k ≡ repeats_at w k
  repeats_alike k l = rw (a.held k l, serial_alike k l, has_alike (serial_at w k) k (omega arith))

  pub count_alike : (m : ℕ) → m ≤ n → held_below t m ≡ held_below w m
  count_alike zero l = refl
  count_alike (suc m) l = rw (a.held m l, count_alike m (omega arith))

pub fault_same : (h : Head) (t w : List ℕ) → SeenSame (layout_of h.board).size t w → fault_in h t ≡ fault_in h w
unfolding fault_in miscount first_spoiled first_repeat
fault_same h t w a =
    let n = (layout_of h.board).size in
    rw (
      lowest_same (spoiled_at h t) (spoiled_at h w) 0 n (λ j l g. spoiled_alike a h j (omega arith)),
      lowest_same (repeats_at t) (repeats_at w) 0 n (λ j l g. repeats_alike a j (omega arith)),
      count_alike a n (omega arith),
    )

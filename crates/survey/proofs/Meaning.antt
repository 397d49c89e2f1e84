-- A table passes the full check exactly when what that means holds: every packet good in its place, no two with one serial, and taken less
-- delivered the number held.
-- Assumes nothing.
use Rattle.std.specs.Prelude.{None}
use Prim.Native.Nat.{ℕ, zero, suc, ◌+◌, ◌≤◌, ◌<◌}
use mathlib.Core.Path.{◌≡◌, refl, sym, ap, ◌∙◌}
use mathlib.Core.List.{List, [], ◌∷◌, map}
use mathlib.Core.Bool.{Bool, true, false, not}
use native.Mathlib.Omega.{arith}
use native.Mathlib.Decide.{ℕ_discrete}
use native.Mathlib.Nat.{not-suc-le-zero}
use lib.ListN.{length}
use borrow.Author.Tests.{not-true, not-false}
use Rattle.network.specs.Lists.{All, Distinct, collect}
use Rattle.network.specs.Packet.{Item, GoodItem}
use Rattle.network.specs.Contents.{serial_of, Passing}
use Rattle.network.specs.View.{seen, contents}
use Rattle.network.proofs.Lists.{all_collect, collect_all, all_images, images_all}
use Rattle.network.proofs.Course.{means_good}
use Rattle.network.proofs.Tests.{and_yes, and_no}
use Rattle.slots.specs.Slots.{slot_at, zeros}
use Rattle.board.specs.Board.{GoodBoard, net_of}
use Rattle.board.specs.Layout.{layout_of}
use Rattle.trailer.specs.declared.Head.{Head}
use Rattle.table.specs.Packets.{slot_of, view_of, item_in, good_at}
use Rattle.table.specs.Held.{held_at, held_below}
use Rattle.table.proofs.PacketLaws.{good_here}
use Rattle.survey.specs.Check.{serial_at, spoiled_at, has_serial, repeats_at, fault_in}
use Rattle.survey.proofs.CheckLaws.{fault_none, held_good, none_fault, unused_serial, serial_unused}

module _ (h : Head) (t : List ℕ) where
  -- what slot i adds to the packets that the table holds
  abbrev there : ℕ → List Item
  there i = seen (layout_of h.board) i (slot_of (slot_at t i))

  there_held : (i : ℕ) → held_at t i ≡ true → there i ≡ item_in h.board t i ∷ []
  there_held i e = rw (not-true (zeros (slot_at t i)) e)

  there_empty : (i : ℕ) → held_at t i ≡ false → there i ≡ []
  there_empty i e = rw (not-false (zeros (slot_at t i)) e)

  -- a property of the packets below n is one of the held slots
  module _ (P : Item → Type 0) (n : ℕ) where
    all_held : ((i : ℕ) → i < n → held_at t i ≡ true → P (item_in h.board t i)) → All P (collect there n)
    all_held f = all_collect P there n (λ i l. go i l (held_at t i) refl)
      where
        go : (i : ℕ) → i < n → (b : Bool) → held_at t i ≡ b → All P (there i)
        go i l true e = rw (there_held i e) (f i l e, tt)
        go i l false e = rw (there_empty i e) tt

    held_all : All P (collect there n) → (i : ℕ) → i < n → held_at t i ≡ true → P (item_in h.board t i)
    held_all a i l e = (rw (there_held i e) at (collect_all P there n a i l)).0

  pub count_held : (n : ℕ) → length (collect there n) ≡ held_below t n
  count_held zero = refl
  count_held (suc n) = go (count_held n) (held_at t n) refl
    where
      go : length (collect there n) ≡ held_below t n → (b : Bool) → held_at t n ≡ b → length (collect there (suc n)) ≡ held_below t (suc n)
      go rest true e = rw (there_held n e, e) (omega arith)
      go rest false e = rw (there_empty n e, e) (omega arith)

  -- no packet below n has the serial s
  module _ (s n : ℕ) where
    abbrev Not : ℕ → Type 0
    Not u = s ≡ u → ⊥

    apart_by : has_serial t s n ≡ false → All Not (map serial_of (collect there n))
    apart_by e =
        all_images Not serial_of (collect there n)
        (all_held (λ x. Not (serial_of x)) n (λ i l p q. serial_unused t s n e i l p (sym q)))

    by_apart : All Not (map serial_of (collect there n)) → has_serial t s n ≡ false
    by_apart a =
        unused_serial t s n
        (λ i l p q. held_all (λ x. Not (serial_of x)) n (images_all Not serial_of (collect there n) a) i l p (sym q))

  -- no held slot below n repeats a lower one's serial
  abbrev Fresh : ℕ → Type 0
  Fresh n = (i : ℕ) → i < n → repeats_at t i ≡ false

  distinct_by : (n : ℕ) → Fresh n → Distinct (map serial_of (collect there n))
  distinct_by zero f = tt
  distinct_by (suc n) f = go (distinct_by n (λ i l. f i (omega arith))) (held_at t n) refl
    where
      go : Distinct (map serial_of (collect there n)) → (b : Bool) → held_at t n ≡ b → Distinct (map serial_of (collect there (suc n)))
      go rest true e = rw (there_held n e) (apart_by (serial_at t n) n (sym (and_yes e) ∙ f n (omega arith)), rest)
      go rest false e = rw (there_empty n e) rest

  by_distinct : (n : ℕ) → Distinct (map serial_of (collect there n)) → Fresh n
  by_distinct zero d i l = absurd (not-suc-le-zero l)
  by_distinct (suc n) d i l = go (by_distinct n) (held_at t n) refl
    where
      go : (Distinct (map serial_of (collect there n)) → Fresh n) → (b : Bool) → held_at t n ≡ b → repeats_at t i ≡ false
      go rest true e =
          let r = rw (there_held n e) at d in
          elim (ℕ_discrete i n) [
            | yes q ↦ rw q (and_yes e ∙ by_apart (serial_at t n) n r.0)
            | no q ↦ rest r.1 i (omega arith)
          ]
      go rest false e = elim (ℕ_discrete i n) [
        | yes q ↦ rw q (and_no (has_serial t (serial_at t n) n) e)
        | no q ↦ rest (rw (there_empty n e) at d) i (omega arith)
      ]

-- ---- the check's meaning, both ways

module _ (h : Head) (t : List ℕ) where
  abbrev size : ℕ
  size = (layout_of h.board).size

  abbrev Sound : Item → Type 0
  Sound = GoodItem (net_of h.board) h.taken h.delivered

  abbrev Passes : Type 0
  Passes = Passing (net_of h.board) (contents (layout_of h.board) (view_of h t))

  pub passes_means : GoodBoard h.board → h.delivered ≤ h.taken → fault_in h t ≡ None → Passes
  passes_means g d e =
      let f = fault_none h t e in
      let all : h.taken ≡ h.delivered + length (collect (there h t) size) = omega (arith, f.counted, count_held h t size) in
      record {
        sound = all_held h t Sound size (λ i l p. good_here h t i (held_good h t e i l p) g l);
        distinct = distinct_by h t size (λ i l. f.single.lacks i (omega arith) (omega arith));
        counted = all;
      }

  sound_spoiled : ((i : ℕ) → i < size → held_at t i ≡ true → Sound (item_in h.board t i)) → (i : ℕ) → i < size → spoiled_at h t i ≡ false
  unfolding good_at
  sound_spoiled f i l = go (held_at t i) refl
    where
      go : (b : Bool) → held_at t i ≡ b → spoiled_at h t i ≡ false
      go true e = and_yes e ∙ ap not (means_good (net_of h.board) h.taken h.delivered (item_in h.board t i) (f i l e))
      go false e = and_no (not (good_at h t i)) e

  pub means_passes : Passes → fault_in h t ≡ None
  means_passes p =
      let good = sound_spoiled (held_all h t Sound size p.sound) in
      let fresh = by_distinct h t size p.distinct in
      none_fault h t record {
        sound = record { lacks = λ i o l. good i (omega arith) };
        single = record { lacks = λ i o l. fresh i (omega arith) };
        counted = omega (arith, count_held h t size, p.counted);
      }

-- A packet that leaves slot a, and one carried from there to slot c: the slots after it, the table's length, what follows the slots, and the trailer;
-- and that a carried packet may be copied before it leaves.
-- Assumes nothing.
use Rattle.std.specs.Prelude.{Some}
use Prim.Native.Nat.{ℕ, ◌+◌, ◌*◌, ◌≤◌, ◌<◌}
use mathlib.Core.Path.{◌≡◌, refl, ◌∙◌}
use mathlib.Core.Logic.{◌≢◌}
use mathlib.Core.List.{List}
use native.Mathlib.Omega.{arith}
use lib.ListN.{length, get_or, drop, length-set}
use Rattle.slots.specs.Slots.{slot_at, with_slot, empty_slot}
use Rattle.slots.proofs.SlotLaws.{length-slot_at, length-with_slot, slot_at_same, slot_at_other, with_slot_twice, with_slot_apart, drop-with_slot}
use Rattle.board.specs.declared.Board.{Board}
use Rattle.board.specs.Layout.{layout_of}
use Rattle.board.proofs.BoardLaws.{slot_fits}
use Rattle.trailer.specs.declared.Head.{Head}
use Rattle.trailer.specs.Trailer.{trailer_of}
use Rattle.trailer.proofs.TrailerLaws.{table_sized, trailer-with_slot}
use Rattle.table.specs.Carriage.{hop, vacated, carried}

pub length_hop : (v : List ℕ) (more : ℕ) → length (hop v more) ≡ length v
length_hop v more = length-set v 3 (get_or v 3 0 + more)

pub length-hopped : (t : List ℕ) (k more : ℕ) → 16 * k + 16 ≤ length t → length (hop (slot_at t k) more) ≡ 16
length-hopped t k more h = length_hop (slot_at t k) more ∙ length-slot_at t k h

module _ (b : Board) (t : List ℕ) (k : ℕ) (h : 16 * k + 16 ≤ length t) where
  -- a slot left by a packet holds only zeros
  pub vacated_there : slot_at (vacated b t k) k ≡ empty_slot
  unfolding vacated
  vacated_there = slot_at_same t k h empty_slot refl

  pub length_vacated : length (vacated b t k) ≡ length t
  unfolding vacated
  length_vacated = length-with_slot t k h empty_slot refl

  pub vacated_other : (j : ℕ) → j ≢ k → slot_at (vacated b t k) j ≡ slot_at t j
  unfolding vacated
  vacated_other j u = slot_at_other t k h empty_slot refl j u

  -- another slot may be written before as well as after
  vacated_apart : (c : ℕ) (v : List ℕ) → 16 * c + 16 ≤ length t → length v ≡ 16 → k ≢ c → vacated b (with_slot t c v) k ≡ with_slot (vacated b t k) c v
  unfolding vacated
  vacated_apart c v hc e n = with_slot_apart t k c empty_slot v h hc refl e n

module _ (b : Board) (t : List ℕ) (a c more : ℕ) (ha : 16 * a + 16 ≤ length t) (hc : 16 * c + 16 ≤ length t) where
  long : length (hop (slot_at t a) more) ≡ 16
  long = length-hopped t a more ha

  fits : 16 * c + 16 ≤ length (vacated b t a)
  fits = rw (length_vacated b t a ha) hc

  pub length-carried : length (carried b t a c more) ≡ length t
  unfolding carried
  length-carried = length-with_slot (vacated b t a) c fits _ long ∙ length_vacated b t a ha

  pub carried_to : slot_at (carried b t a c more) c ≡ hop (slot_at t a) more
  unfolding carried
  carried_to = slot_at_same (vacated b t a) c fits _ long

  -- every other slot is as the leaving makes it
  pub carried_else : (j : ℕ) → j ≢ c → slot_at (carried b t a c more) j ≡ slot_at (vacated b t a) j
  unfolding carried
  carried_else j u = slot_at_other (vacated b t a) c fits _ long j u

  pub carried_from : a ≢ c → slot_at (carried b t a c more) a ≡ empty_slot
  carried_from u = carried_else a u ∙ vacated_there b t a ha

  pub carried_other : (j : ℕ) → j ≢ a → j ≢ c → slot_at (carried b t a c more) j ≡ slot_at t j
  carried_other j u w = carried_else j w ∙ vacated_other b t a ha j u

  -- it is copied straight from slot to slot, its hops are added there, and then it leaves
  pub carried_straight : a ≢ c → (w : List ℕ) → w ≡ with_slot t c (slot_at t a) → vacated b (with_slot w c (hop (slot_at w c) more)) a ≡ carried b t a c more
  unfolding carried
  carried_straight n w e =
      let v : List ℕ = slot_at t a in
      let lv = length-slot_at t a ha in
      rw (e, slot_at_same t c hc v lv, with_slot_twice t c hc v lv (hop v more) long) (vacated_apart b t a ha c (hop v more) hc long n)

-- what follows the slots is not touched
pub drop_vacated : (b : Board) (n : ℕ) (t : List ℕ) (k : ℕ) → k < n → 16 * n ≤ length t → drop (16 * n) (vacated b t k) ≡ drop (16 * n) t
unfolding vacated
drop_vacated b n t k h l = drop-with_slot n t k empty_slot h l refl

pub drop-carried : (b : Board) (n : ℕ) (t : List ℕ) (a c more : ℕ) → a < n → c < n → 16 * n ≤ length t
    → drop (16 * n) (carried b t a c more) ≡ drop (16 * n) t
unfolding carried
drop-carried b n t a c more ha hc l =
    let e = length_vacated b t a (omega arith) in
    drop-with_slot n (vacated b t a) c _ hc (omega arith) (length-hopped t a more (omega arith)) ∙ drop_vacated b n t a ha l

-- the trailer is kept
module _ (t : List ℕ) {h : Head} (e : trailer_of t ≡ Some h) (l : length t ≡ h.size) where
  pub trailer_vacated : (k : ℕ) → k < (layout_of h.board).size → trailer_of (vacated h.board t k) ≡ Some h
  unfolding vacated
  trailer_vacated k u = trailer-with_slot t k empty_slot e l u refl

  pub trailer-carried : (a c more : ℕ) → a < (layout_of h.board).size → c < (layout_of h.board).size → trailer_of (carried h.board t a c more) ≡ Some h
  unfolding carried
  trailer-carried a c more u w =
      let z = table_sized t e l in
      let fa = slot_fits z a u in
      trailer-with_slot (vacated h.board t a) c (hop (slot_at t a) more) (trailer_vacated a u) (length_vacated h.board t a fa ∙ l) w (length-hopped t a more fa)

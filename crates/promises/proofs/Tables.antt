-- A slice and its table: the bytes before it, its slots and its trailer; and another table in place of this one.
-- Assumes nothing.
use Rattle.std.specs.Prelude.{Some}
use Prim.Native.Nat.{ℕ, ◌+◌, ◌-◌, ◌*◌, ◌<◌, ◌≤◌}
use mathlib.Core.Path.{◌≡◌, refl, sym, ap, ◌∙◌}
use mathlib.Core.Bool.{true, ◌&&◌}
use mathlib.Core.List.{List, ◌++◌}
use native.Mathlib.Omega.{arith}
use lib.ListN.{length, take, drop, length-append, take-append-drop}
use lib.Seq.{drop-append-add}
use Rattle.network.specs.declared.Place.{Place}
use Rattle.network.specs.Net.{same_place}
use Rattle.network.specs.Search.{count_with}
use Rattle.network.proofs.QueueSlots.{count_queue}
use Rattle.slots.specs.Bytes.{put, bytes32}
use Rattle.slots.specs.Slots.{slot_at, zeros}
use Rattle.slots.proofs.Parts.{length-put, take_put, drop-put}
use Rattle.slots.proofs.Numbers.{length-bytes32}
use Rattle.board.specs.Layout.{layout_of}
use Rattle.board.proofs.BoardLaws.{layout_laws}
use Rattle.trailer.specs.declared.Head.{Head}
use Rattle.trailer.specs.Trailer.{trailer_of, last16}
use Rattle.trailer.proofs.TrailerLaws.{length-last16, trailer_good, trailer-table, length-table}
use Rattle.trailer.proofs.CountLaws.{last_put}
use Rattle.table.specs.Queues.{empty_at, empties_at}
use Rattle.calls.specs.Slices.{head_in, board_in, table_in, before_in, GoodIn, layout_in, net_in, slots_in, slot_in}
use Rattle.promises.specs.Conditions.{room_left}
use Rattle.promises.specs.Demand2.{Kept}
use Rattle.promises.proofs.Reading.{good_is, head-after, table-after, before_after}
use Rattle.promises.proofs.Conditions.{sized}

pub last_after : (p u : List ℕ) → 16 ≤ length u → last16 (p ++ u) ≡ last16 u
last_after p u l =
    let n = length-append p u in
    let e : length (p ++ u) - 16 ≡ length p + (length u - 16) = omega arith in
    rw e (drop-append-add p u (length u - 16))

module _ (s : List ℕ) (g : GoodIn s) where
  pub whole : before_in s ++ table_in s ≡ s
  unfolding before_in table_in
  whole = take-append-drop (length s - (head_in s).size) s

  pub table-long : length (table_in s) ≡ (head_in s).size
  unfolding table_in
  table-long = length-table s (good_is s g)

  pub table-head : trailer_of (table_in s) ≡ Some (head_in s)
  unfolding table_in
  table-head = trailer-table s (good_is s g)

  pub slots_long : length (table_in s) ≡ 16 * slots_in s + 16
  slots_long = (sized s g).full

  -- the trailer is what follows the slots
  ends : (u : List ℕ) → length u ≡ length (table_in s) → last16 u ≡ drop (16 * slots_in s) u
  ends u l = let n : length u - 16 ≡ 16 * slots_in s = omega (arith, slots_long) in rw n

  table_end : last16 (table_in s) ≡ last16 s
  table_end = sym (last_after (before_in s) (table_in s) (omega (arith, slots_long))) ∙ ap last16 whole

  pub ends_alike : (u : List ℕ) → length u ≡ length (table_in s) → drop (16 * slots_in s) u ≡ drop (16 * slots_in s) (table_in s) → last16 u ≡ last16 s
  ends_alike u l e = ends u l ∙ e ∙ sym (ends (table_in s) refl) ∙ table_end

  -- a number put at place i of the trailer leaves the rest of it
  pub around_number : (x : List ℕ) → length x ≡ length (table_in s) → drop (16 * slots_in s) x ≡ drop (16 * slots_in s) (table_in s)
      → (i m at : ℕ) → i ≤ 12 → at + 16 ≡ length x + i
      → (take i (last16 (before_in s ++ put x at (bytes32 m))) ≡ take i (last16 s))
      × (drop (i + 4) (last16 (before_in s ++ put x at (bytes32 m))) ≡ drop (i + 4) (last16 s))
  around_number x l e i m at high place =
      let b = length-bytes32 m in
      let long : 16 ≤ length x = omega (arith, slots_long) in
      let n = length-put x at (bytes32 m) (omega arith) in
      let k = length-last16 s g.long in
      let f : last16 (before_in s ++ put x at (bytes32 m)) ≡ put (last16 s) i (bytes32 m) =
      last_after (before_in s) (put x at (bytes32 m)) (omega arith)
      ∙ last_put x i m at long high place
      ∙ ap (λ (z : List ℕ). put z i (bytes32 m)) (ends_alike x l e) in (
        ap (take i) f ∙ take_put (last16 s) i (bytes32 m) i (omega arith) (omega arith),
        ap (drop (i + 4)) f ∙ drop-put (last16 s) i (bytes32 m) (i + 4) (omega arith) (omega arith),
      )

  -- ---- another table in place of this one, as long as it

  module _ (u : List ℕ) (h : Head) (e : trailer_of u ≡ Some h) (l : length u ≡ h.size) (same : h.size ≡ (head_in s).size) where
    pub now : table_in (before_in s ++ u) ≡ u
    now = table-after (before_in s) u e l

    pub now_end : last16 (before_in s ++ u) ≡ last16 u
    now_end = last_after (before_in s) u (trailer_good u e).long

    pub rest_kept : (Touched : ℕ → Type 0) → ((i : ℕ) → i < slots_in s → (Touched i → ⊥) → slot_at u i ≡ slot_in s i) → Kept s (before_in s ++ u) Touched
    rest_kept Touched f = record {
      long = length-append (before_in s) u ∙ rw (l, same, ← table-long) (sym (length-append (before_in s) (table_in s)) ∙ ap length whole);
      before = before_after (before_in s) u e l;
      slots = λ i m n. ap (λ (w : List ℕ). slot_at w i) now ∙ f i m n;
    }

    -- the empty slots counted place by place are those of the queue
    pub left_after : h.board ≡ board_in s → (p : Place) → (net_in s).valid p.node ≡ true → room_left (before_in s ++ u) p ≡ empties_at (board_in s) u p
    unfolding empties_at
    left_after kept p v =
        let board : board_in (before_in s ++ u) ≡ board_in s = ap (λ (x : Head). x.board) (head-after (before_in s) u e) ∙ kept in
        (λ i. count_with (λ j. same_place ((layout_of (board i)).place_of j) p && zeros (slot_at (now i) j)) 0 (layout_of (board i)).size)
        ∙ count_queue (net_in s) (layout_in s) (layout_laws (board_in s) g.ranges) p v (empty_at u)

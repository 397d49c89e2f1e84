-- A node's queue: its slots, the room found in it, and how many of its slots are empty.
-- Assumes nothing.
use Rattle.std.specs.Prelude.{Some}
use Prim.Native.Nat.{ℕ, suc, ◌+◌, ◌-◌, ◌≤◌, ◌<◌}
use mathlib.Core.Path.{◌≡◌, sym, ap, subst, ◌∙◌}
use mathlib.Core.Logic.{◌≢◌}
use mathlib.Core.Bool.{true, false}
use mathlib.Core.List.{List}
use native.Mathlib.Omega.{arith}
use lib.Dec.{ltb}
use Rattle.network.specs.declared.Place.{Place}
use Rattle.network.specs.Search.{is_at, IsLowest}
use Rattle.network.proofs.SearchLaws.{at_lowest}
use Rattle.network.proofs.CountingLaws.{count_most, count_search, count_same, count_more}
use Rattle.slots.specs.Slots.{slot_at, zeros}
use Rattle.board.specs.declared.Board.{Board}
use Rattle.board.specs.Board.{GoodBoard, net_of}
use Rattle.board.specs.Layout.{layout_of}
use Rattle.board.proofs.BoardLaws.{layout_laws, queue_within, slots_most}
use Rattle.table.specs.Queues.{empty_at, room_at, empties_at}

-- the search finds a slot exactly where some are empty
pub room_counted : (b : Board) (t : List ℕ) (p : Place) → is_at (room_at b t p) ≡ ltb 0 (empties_at b t p)
unfolding room_at empties_at
room_counted b t p = count_search (empty_at t) ((layout_of b).first p) ((layout_of b).room p.kind)

-- a slot at a queue's place is one of the queue's slots
pub queue_at : (b : Board) (g : GoodBoard b) (p : Place) (i : ℕ) → i < (layout_of b).size → (layout_of b).place_of i ≡ p
    → ((layout_of b).first p ≤ i) × (i < (layout_of b).first p + (layout_of b).room p.kind)
queue_at b g p i l e =
    let own = subst (λ (x : Place). (j : ℕ) × (j < (layout_of b).room x.kind) × (i ≡ (layout_of b).first x + j)) e ((layout_laws b g).own i l) in
    (omega (arith, own.2), omega (arith, own.1, own.2))

module _ (b : Board) (g : GoodBoard b) (p : Place) (on : (net_of b).valid p.node ≡ true) where
  -- the queue's slots lie in the table, and at its place
  pub queue_inside : (i : ℕ) → i < (layout_of b).first p + (layout_of b).room p.kind → i < (layout_of b).size
  queue_inside i m = omega (arith, queue_within b g p on)

  pub queue_place : (i : ℕ) → (layout_of b).first p ≤ i → i < (layout_of b).first p + (layout_of b).room p.kind → (layout_of b).place_of i ≡ p
  queue_place i l m =
      let first = (layout_of b).first p in
      let at : first + (i - first) ≡ i = omega arith in
      ap (layout_of b).place_of (sym at) ∙ (layout_laws b g).there p (i - first) on (omega arith)

module _ (b : Board) (t : List ℕ) (p : Place) (k : ℕ) (e : room_at b t p ≡ Some k) where
  pub room_lowest : IsLowest (empty_at t) ((layout_of b).first p) ((layout_of b).room p.kind) k
  unfolding room_at
  room_lowest = at_lowest (empty_at t) _ _ k e

  module _ (g : GoodBoard b) (v : (net_of b).valid p.node ≡ true) where
    pub room_within : k < (layout_of b).size
    room_within = queue_inside b g p v k room_lowest.below

    pub room_there : (layout_of b).place_of k ≡ p
    room_there = queue_place b g p v k room_lowest.from room_lowest.below

-- at most all of them
pub empties_room : (b : Board) (t : List ℕ) (p : Place) → empties_at b t p ≤ (layout_of b).room p.kind
unfolding empties_at
empties_room b t p = count_most (empty_at t) ((layout_of b).first p) ((layout_of b).room p.kind)

module _ (b : Board) (g : GoodBoard b) (p : Place) (on : (net_of b).valid p.node ≡ true) where
  pub empties_most : (t : List ℕ) → empties_at b t p ≤ 3840
  empties_most t = omega (arith, empties_room b t p, queue_within b g p on, slots_most b g)

  -- only the queue's own slots are counted
  pub empties_same : (t u : List ℕ) → ((i : ℕ) → i < (layout_of b).size → (layout_of b).place_of i ≡ p → slot_at t i ≡ slot_at u i)
      → empties_at b t p ≡ empties_at b u p
  unfolding empties_at
  empties_same t u f = count_same (empty_at t) (empty_at u) _ _ (λ i l m. ap zeros (f i (queue_inside b g p on i m) (queue_place b g p on i l m)))

  -- where slot k of the queue is held in t and empty in u, and the others are the same
  pub empties_more : (t u : List ℕ) (k : ℕ) → k < (layout_of b).size → (layout_of b).place_of k ≡ p → empty_at t k ≡ false → empty_at u k ≡ true
      → ((i : ℕ) → i < (layout_of b).size → (layout_of b).place_of i ≡ p → i ≢ k → slot_at t i ≡ slot_at u i) → empties_at b u p ≡ suc (empties_at b t p)
  unfolding empties_at
  empties_more t u k l e was is f =
      let own = queue_at b g p k l e in
      count_more (empty_at t) (empty_at u) _ _ k own.0 own.1 was is
      (λ i m n w. ap zeros (f i (queue_inside b g p on i n) (queue_place b g p on i m n) w))

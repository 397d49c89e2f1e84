-- Where slots are: every place of the network has its slots, and every slot lies in the queue of its place.
-- Assumes nothing.
use Prim.Native.Nat.{ℕ, ◌+◌, ◌-◌, ◌*◌, ◌/◌, ◌%◌, ◌<◌, ◌≤◌}
use mathlib.Core.Path.{◌≡◌, refl}
use mathlib.Core.Logic.{◌≢◌}
use mathlib.Core.Bool.{Bool, true, false, cond}
use native.Mathlib.Omega.{arith}
use native.Mathlib.Nat.{mul_comm, mod-lt, div-add-mod', div-lt_iff_lt-mul}
use lib.Arith.{digits_lt, digits_div, digits_mod}
use lib.Dec.{eqb, leb}
use borrow.Author.Tests.{eqb-true, eqb-false, leb-true, leb-false, eq-eqb, ne_eqb, le-leb, lt-leb}
use Rattle.network.specs.declared.Kind.{Kind}
use Rattle.network.specs.declared.Kind.TheVariants.{Waiting, A, B}
use Rattle.network.specs.declared.Place.{Place}
use Rattle.mesh.specs.Grid.{x_of, y_of, on_grid}
use Rattle.mesh.proofs.Hops.{on_means, on_by}
use Rattle.board.specs.declared.Board.{Board}
use Rattle.board.specs.Board.{GoodBoard}
use Rattle.board.specs.Layout.{number_of, node_of, per_node, offset, kind_of, room_of, layout_of}

-- ---- the slots of a node

module _ (depth : ℕ) where
  pub room_pos : 0 < depth → (k : Kind) → 0 < room_of depth k
  room_pos d Waiting = omega arith
  room_pos d A = d
  room_pos d B = d

  pub in_node : (k : Kind) (j : ℕ) → j < room_of depth k → offset depth k + j < per_node depth
  in_node Waiting j u = omega arith
  in_node A j u = omega arith
  in_node B j u = omega arith

  kind_there : (k : Kind) (j : ℕ) → j < room_of depth k → kind_of depth (offset depth k + j) ≡ k
  kind_there Waiting j u = rw (eq-eqb (offset depth Waiting + j) 0 (omega arith))
  kind_there A j u = rw (ne_eqb (offset depth A + j) 0 (λ e. omega arith), le-leb (offset depth A + j) depth (omega arith))
  kind_there B j u = rw (ne_eqb (offset depth B + j) 0 (λ e. omega arith), lt-leb (offset depth B + j) depth (omega arith))

  -- the place r of a node is the j-th of the queue of kind k
  abbrev Lies : ℕ → Kind → Type 0
  Lies r k = (j : ℕ) × (j < room_of depth k) × (r ≡ offset depth k + j)

  lies : (r : ℕ) → r < per_node depth → Lies r (kind_of depth r)
  lies r h = go (eqb r 0) (leb r depth) refl refl
    where
      go : (u v : Bool) → eqb r 0 ≡ u → leb r depth ≡ v → Lies r (cond u Waiting (cond v A B))
      go true v e f = (0, omega arith, eqb-true r 0 e)
      go false true e f = let n : r ≢ 0 = eqb-false r 0 e in let l : r ≤ depth = leb-true r depth f in (r - 1, omega arith, omega arith)
      go false false e f = let l : depth < r = leb-false r depth f in (r - 1 - depth, omega arith, omega arith)

-- ---- the nodes of a grid

module _ (width height n : ℕ) (on : on_grid width height n ≡ true) where
  number_lt : number_of width n < width * height
  number_lt = let a = on_means width height n on in rw (mul_comm width height) (digits_lt a.1 a.0)

  node_there : node_of width (number_of width n) ≡ n
  node_there =
      let a = (on_means width height n on).0 in
      rw (digits_mod (y_of n) a, digits_div (y_of n) a) (omega arith)

module _ (width : ℕ) (low : 1 ≤ width) (high : width ≤ 16) (m : ℕ) where
  x_there : x_of (node_of width m) ≡ m % width
  x_there = let b : m % width < width = mod-lt m low in omega arith

  y_there : y_of (node_of width m) ≡ m / width
  y_there = let b : m % width < width = mod-lt m low in omega arith

  pub number_there : number_of width (node_of width m) ≡ m
  number_there = rw (x_there, y_there) (div-add-mod' m width)

  pub node_on : (height : ℕ) → m < width * height → on_grid width height (node_of width m) ≡ true
  node_on height h =
      let row : m / width < height = (div-lt_iff_lt-mul low).1 (rw (mul_comm height width) h) in
      on_by width height (node_of width m) (rw x_there (mod-lt m low)) (rw y_there row)

-- ---- the slots of a table

module _ (b : Board) where
  module _ (p : Place) (j : ℕ) (v : on_grid b.width b.height p.node ≡ true) (u : j < (layout_of b).room p.kind) where
    split : (layout_of b).first p + j ≡ number_of b.width p.node * per_node b.depth + (offset b.depth p.kind + j)
    unfolding layout_of
    split = omega arith

    pub queue_inside : (layout_of b).first p + j < (layout_of b).size
    unfolding layout_of
    queue_inside = rw split (digits_lt (number_lt _ _ p.node v) (in_node b.depth p.kind j u))

    pub queue_there : (layout_of b).place_of ((layout_of b).first p + j) ≡ p
    unfolding layout_of
    queue_there =
        let m = number_of b.width p.node in
        let r = in_node b.depth p.kind j u in
        rw (split, digits_div m r, digits_mod m r, node_there _ _ p.node v, kind_there _ p.kind j u)

  module _ (g : GoodBoard b) where
    pub queue_roomy : (k : Kind) → 0 < (layout_of b).room k
    unfolding layout_of
    queue_roomy = room_pos b.depth g.depth_low

    module _ (i : ℕ) (l : i < (layout_of b).size) where
      pub place_on : on_grid b.width b.height ((layout_of b).place_of i).node ≡ true
      unfolding layout_of
      place_on = node_on _ g.width_low g.width_high _ _ ((div-lt_iff_lt-mul {k = per_node b.depth} (omega arith)).1 l)

      pub own_queue : (j : ℕ) × (j < (layout_of b).room ((layout_of b).place_of i).kind) × (i ≡ (layout_of b).first ((layout_of b).place_of i) + j)
      unfolding layout_of
      own_queue =
          let q = lies b.depth (i % per_node b.depth) (mod-lt i (omega arith)) in
          let m = number_there b.width g.width_low g.width_high (i / per_node b.depth) in
          (q.0, q.1, rw m (omega (arith, div-add-mod' i (per_node b.depth), q.2)))

-- The boards that are accepted, and how large they make a table.
-- Assumes nothing.
use Prim.Native.Nat.{ℕ, ◌*◌, ◌≤◌}
use mathlib.Core.Path.{◌≡◌, ◌∙◌}
use mathlib.Core.Bool.{true}
use native.Mathlib.Omega.{arith}
use native.Mathlib.Nat.{mul-le-mul}
use borrow.Author.Tests.{leb-true, le-leb}
use Rattle.network.proofs.Tests.{both_true, and_yes}
use Rattle.board.specs.declared.Board.{Board}
use Rattle.board.specs.Board.{in_range, board_ok, GoodBoard}
use Rattle.board.specs.Layout.{per_node}

pub board_good : (b : Board) → board_ok b ≡ true → GoodBoard b
unfolding board_ok
board_good b e =
    let a = both_true _ _ e in
    let d = both_true _ _ a.1 in
    let x = both_true _ _ a.0 in
    let y = both_true _ _ d.0 in
    let p = both_true _ _ d.1 in
    let z = both_true _ _ p.0 in
    record {
      width_low = leb-true _ _ x.0;
      width_high = leb-true _ _ x.1;
      height_low = leb-true _ _ y.0;
      height_high = leb-true _ _ y.1;
      depth_low = leb-true _ _ z.0;
      depth_high = leb-true _ _ z.1;
      profile_high = leb-true _ _ p.1;
    }

in_range_lem : (x low high : ℕ) → low ≤ x → x ≤ high → in_range x low high ≡ true
in_range_lem x low high l h = and_yes (le-leb _ _ l) ∙ le-leb _ _ h

pub good_board : {b : Board} → GoodBoard b → board_ok b ≡ true
unfolding board_ok
good_board g =
    and_yes (in_range_lem _ _ _ g.width_low g.width_high)
    ∙ and_yes (in_range_lem _ _ _ g.height_low g.height_high)
    ∙ and_yes (in_range_lem _ _ _ g.depth_low g.depth_high)
    ∙ le-leb _ _ g.profile_high

pub nodes_most : {b : Board} → GoodBoard b → b.width * b.height ≤ 256
nodes_most g = mul-le-mul g.width_high g.height_high

pub places_most : {b : Board} → GoodBoard b → b.width * b.height * per_node b.depth ≤ 3840
places_most {b} g =
    let k : per_node b.depth ≤ 15 = omega arith in
    mul-le-mul (nodes_most g) k

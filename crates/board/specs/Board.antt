-- A board: its sizes and its profile, and the network that it is (document 01, "The table and its trailer"; document 02, order 2).
-- Assumes nothing.
use Rattle.std.specs.Prelude.{ℕ, ◌≤◌, Bool, ◌&&◌, leb}
use Rattle.network.specs.declared.Place.{Place}
use Rattle.network.specs.declared.Lead.{Lead}
use Rattle.network.specs.Net.{Net}
use Rattle.mesh.specs.Grid.{x_of, y_of}
use Rattle.mesh.specs.Rule.{profile_of}
use Rattle.mesh.specs.Mesh.{mesh}
use Rattle.mesh.specs.Published.{published}
use Rattle.board.specs.declared.Board.{Board}
use Rattle.board.specs.declared.Coordinates.{Coordinates}

abbrev pub in_range : ℕ → ℕ → ℕ → Bool
in_range x low high = leb low x && leb x high

-- width 1 to 16, height 1 to 16, depth 1 to 7, profile 0 to 2
unfoldable pub board_ok : Board → Bool
board_ok b = in_range b.width 1 16 && (in_range b.height 1 16 && (in_range b.depth 1 7 && leb b.profile 2))

-- the same, as facts
pub record GoodBoard (b : Board) : Type 0 where
  pub width_low : 1 ≤ b.width
  pub width_high : b.width ≤ 16
  pub height_low : 1 ≤ b.height
  pub height_high : b.height ≤ 16
  pub depth_low : 1 ≤ b.depth
  pub depth_high : b.depth ≤ 7
  pub profile_high : b.profile ≤ 2

unfoldable pub net_of : Board → Net
net_of b = mesh b.width b.height (profile_of b.profile)

-- the rule of its moves as it was published, as far as its profile has them
unfoldable pub published_on : Board → Place → ℕ → ℕ → Lead
published_on b = published (profile_of b.profile)

-- a node as it is written
unfoldable pub coordinates_of : Board → ℕ → Coordinates
coordinates_of b n = record { x = x_of n; y = y_of n }

-- The grid as a network, of a board's profile.
-- Assumes nothing.
use Rattle.std.specs.Prelude.{ℕ, ◌+◌, Bool, ◌&&◌, leb}
use Rattle.network.specs.Net.{Net}
use Rattle.mesh.specs.declared.Profile.{Profile}
use Rattle.mesh.specs.Grid.{x_of, y_of, on_grid, distance_of}
use Rattle.mesh.specs.Rule.{signs_of, settled_by, ruled}

abbrev pub last_code : ℕ
last_code = 7

abbrev pub is_code : ℕ → Bool
is_code code = leb 1 code && leb code last_code

-- level: source 003, section IV, "the level of (x, y) is x + y"
abbrev pub mesh : ℕ → ℕ → Profile → Net
mesh width height profile = record {
  valid = on_grid width height;
  distance = distance_of;
  level = λ n. x_of n + y_of n;
  settled = λ here destination. settled_by (signs_of here destination);
  known = is_code;
  last = last_code;
  rule = ruled profile;
}

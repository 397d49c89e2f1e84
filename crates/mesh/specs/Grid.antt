-- Nodes of a grid as address bytes x + 16 × y, and the distance between them (document 01, "Slot").
-- Assumes nothing.
use Rattle.std.specs.Prelude.{ℕ, ◌+◌, ◌*◌, ◌/◌, ◌%◌, Bool, ◌&&◌, ltb, ℤ, nat_abs}
use Rattle.mesh.specs.Axis.{difference}

abbrev pub node : ℕ → ℕ → ℕ
node x y = x + 16 * y

abbrev pub x_of : ℕ → ℕ
x_of n = n % 16

abbrev pub y_of : ℕ → ℕ
y_of n = n / 16

abbrev pub on_grid : ℕ → ℕ → ℕ → Bool
on_grid width height n = ltb (x_of n) width && ltb (y_of n) height

abbrev pub dx_of : ℕ → ℕ → ℤ
dx_of here destination = difference (x_of here) (x_of destination)

abbrev pub dy_of : ℕ → ℕ → ℤ
dy_of here destination = difference (y_of here) (y_of destination)

-- the sum of the magnitudes of the two differences
unfoldable pub distance_of : ℕ → ℕ → ℕ
distance_of here destination = nat_abs (dx_of here destination) + nat_abs (dy_of here destination)

-- The signed differences lie from -15 to 15 and are zero exactly where the coordinates agree; the distance is a metric.
-- Assumes nothing.
use Prim.Native.Nat.{ℕ, ◌+◌, ◌-◌, ◌<◌, ◌≤◌}
use native.Mathlib.Omega.{arith}
use mathlib.Core.Path.{◌≡◌, ap, ap₂}
use mathlib.Core.Logic.{◌↔◌}
use lib.Dec.{le→leb}
use lib.IntN.{ℤ, pos, negsuc, nat_abs, neg_ℤ, +ℤ_invr}
use lib.Signed.{◌≤ℤ◌}
use Rattle.mesh.specs.Axis.{difference}
use Rattle.mesh.specs.Grid.{x_of, y_of, dx_of, dy_of, distance_of}
use Rattle.mesh.proofs.Coordinates.{nat_abs_is}

-- from -15 to 15
abbrev pub Within15 : ℤ → Type 0
Within15 d = (neg_ℤ (pos 15) ≤ℤ d) × (d ≤ℤ pos 15)

small_within : (d : ℤ) → nat_abs d ≤ 15 → Within15 d
small_within (pos n) h = (record { le = tt }, record { le = le→leb n 15 h })
small_within (negsuc n) h = (record { le = le→leb n 14 (omega arith) }, record { le = tt })

module _ (x z : ℕ) where
  pub difference_small : x < 16 → z < 16 → nat_abs (difference x z) ≤ 15
  difference_small hx hz = omega (arith, nat_abs_is x z)

  pub difference_range : x < 16 → z < 16 → Within15 (difference x z)
  difference_range hx hz = small_within (difference x z) (difference_small hx hz)

  pub difference_zero : (difference x z ≡ pos 0) ↔ (x ≡ z)
  difference_zero = (
    λ e. let f = ap nat_abs e in omega (arith, nat_abs_is x z),
    λ e. rw e (+ℤ_invr (pos z)),
  )

module _ (a b : ℕ) where
  pub dx_range : Within15 (dx_of a b)
  dx_range = difference_range (x_of a) (x_of b) (omega arith) (omega arith)

  pub dy_range : a < 256 → b < 256 → Within15 (dy_of a b)
  dy_range ha hb = difference_range (y_of a) (y_of b) (omega arith) (omega arith)

  pub dx_zero : (dx_of a b ≡ pos 0) ↔ (x_of a ≡ x_of b)
  dx_zero = difference_zero (x_of a) (x_of b)

  pub dy_zero : (dy_of a b ≡ pos 0) ↔ (y_of a ≡ y_of b)
  dy_zero = difference_zero (y_of a) (y_of b)

  -- in truncated subtractions
  pub distance_is : distance_of a b ≡ (x_of b - x_of a) + (x_of a - x_of b) + ((y_of b - y_of a) + (y_of a - y_of b))
  unfolding distance_of
  distance_is = ap₂ ◌+◌ (nat_abs_is (x_of a) (x_of b)) (nat_abs_is (y_of a) (y_of b))

  -- 15 along each axis
  pub distance_most : a < 256 → b < 256 → distance_of a b ≤ 30
  unfolding distance_of
  distance_most ha hb =
      let x = difference_small (x_of a) (x_of b) (omega arith) (omega arith) in
      let y = difference_small (y_of a) (y_of b) (omega arith) (omega arith) in
      omega arith

pub distance_sym : (a b : ℕ) → distance_of a b ≡ distance_of b a
distance_sym a b = omega (arith, distance_is a b, distance_is b a)

pub distance_self : (a : ℕ) → distance_of a a ≡ 0
distance_self a = omega (arith, distance_is a a)

pub distance_zero : (a b : ℕ) → distance_of a b ≡ 0 → a ≡ b
distance_zero a b e = omega (arith, distance_is a b)

axis_triangle : (x y z : ℕ) → nat_abs (difference x z) ≤ nat_abs (difference x y) + nat_abs (difference y z)
axis_triangle x y z = omega (arith, nat_abs_is x y, nat_abs_is y z, nat_abs_is x z)

pub triangle : (a b c : ℕ) → distance_of a c ≤ distance_of a b + distance_of b c
unfolding distance_of
triangle a b c = omega (arith, axis_triangle (x_of a) (x_of b) (x_of c), axis_triangle (y_of a) (y_of b) (y_of c))

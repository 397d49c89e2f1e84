-- The signed difference along one axis, from here to the destination (document 01, "The table and its trailer"), and its signs.
-- Assumes nothing.
use Rattle.std.specs.Prelude.{ℕ, Bool, ℤ, pos, ◌-ℤ◌}
use Rattle.std.specs.Int.Signed.{lt_z}

abbrev pub difference : ℕ → ℕ → ℤ
difference here destination = pos destination -ℤ pos here

-- the destination is greater
abbrev pub rises : ℤ → Bool
rises d = lt_z (pos 0) d

-- the destination is less
abbrev pub falls : ℤ → Bool
falls d = lt_z d (pos 0)

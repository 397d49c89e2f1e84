-- The tables on which the wrong routers fail are bytes, which a test shows.
-- Assumes nothing.
use Prim.Native.Nat.{ℕ}
use mathlib.Core.Path.{◌≡◌, refl}
use mathlib.Core.Bool.{Bool, true, ◌&&◌}
use mathlib.Core.List.{List, [], ◌∷◌}
use lib.Dec.{ltb}
use borrow.Author.Tests.{ltb-true}
use Rattle.network.proofs.Tests.{and_l, and_r}
use Rattle.calls.specs.Slices.{Bytes}
use Rattle.promises.specs.Wrong.{waits, arrived, at_home, on_one_link, departs, vacant}
use Rattle.promises.proofs.Computing.{bytes}

abbrev small : List ℕ → Bool
small [] = true
small (x ∷ s) = ltb x 256 && small s

pub bytes_by : (s : List ℕ) → small s ≡ true → Bytes s
bytes_by [] e = tt
bytes_by (x ∷ s) e = (ltb-true x 256 (and_l (ltb x 256) (small s) e), bytes_by s (and_r (ltb x 256) (small s) e))

pub waits-bytes : Bytes waits
unfolding bytes
waits-bytes = bytes_by waits refl

pub arrived_bytes : Bytes arrived
unfolding bytes
arrived_bytes = bytes_by arrived refl

pub at_home-bytes : Bytes at_home
unfolding bytes
at_home-bytes = bytes_by at_home refl

pub on_one_link-bytes : Bytes on_one_link
unfolding bytes
on_one_link-bytes = bytes_by on_one_link refl

pub departs-bytes : Bytes (departs 0)
unfolding bytes
departs-bytes = bytes_by (departs 0) refl

pub second_bytes : Bytes (departs 1)
unfolding bytes
second_bytes = bytes_by (departs 1) refl

pub vacant-bytes : Bytes vacant
unfolding bytes
vacant-bytes = bytes_by vacant refl

-- A slice whose trailer is good, read by its head; and a table behind any bytes, read as it is.
-- Assumes nothing.
use Rattle.std.specs.Prelude.{Some, None}
use Prim.Native.Nat.{ℕ, ◌-◌}
use mathlib.Core.Path.{◌≡◌, refl, sym, ap, ◌∙◌}
use mathlib.Core.List.{List, ◌++◌}
use native.Mathlib.Omega.{arith}
use lib.ListN.{length, take, drop, length-append}
use lib.Seq.{drop_at, take_at}
use Rattle.network.proofs.Tests.{clash}
use Rattle.board.specs.Layout.{Sized}
use Rattle.trailer.specs.declared.Head.{Head}
use Rattle.trailer.specs.Trailer.{trailer_of}
use Rattle.trailer.proofs.TrailerLaws.{trailer_good, good_trailer, trailer-after, trailer_sized}
use Rattle.calls.specs.Slices.{head_in, GoodIn, table_in, before_in}

module _ (s : List ℕ) {h : Head} (e : trailer_of s ≡ Some h) where
  pub head_is : head_in s ≡ h
  unfolding head_in
  head_is = sym (trailer_good s e).read

  pub table_is : table_in s ≡ drop (length s - h.size) s
  unfolding table_in
  table_is = ap (λ (g : Head). drop (length s - g.size) s) head_is

  pub before_is : before_in s ≡ take (length s - h.size) s
  unfolding before_in
  before_is = ap (λ (g : Head). take (length s - g.size) s) head_is

  pub good_in : GoodIn s
  good_in = rw head_is (trailer_good s e)

  pub table_fits : Sized h.board (table_in s)
  table_fits = rw table_is (trailer_sized s e)

pub good_is : (s : List ℕ) → GoodIn s → trailer_of s ≡ Some (head_in s)
good_is s g = good_trailer g

pub bad_in : (s : List ℕ) → trailer_of s ≡ None → GoodIn s → ⊥
bad_in s e g = let f = good_is s g in clash cc

-- ---- a table behind any bytes

module _ (p u : List ℕ) {g : Head} (e : trailer_of u ≡ Some g) where
  pub head-after : head_in (p ++ u) ≡ g
  head-after = head_is (p ++ u) (trailer-after p u e)

  module _ (l : length u ≡ g.size) where
    start : length (p ++ u) - g.size ≡ length p
    start = omega (arith, length-append p u)

    pub table-after : table_in (p ++ u) ≡ u
    table-after = table_is (p ++ u) (trailer-after p u e) ∙ rw start (drop_at p u (length p) refl)

    pub before_after : before_in (p ++ u) ≡ p
    before_after = before_is (p ++ u) (trailer-after p u e) ∙ rw start (take_at p u (length p) refl)

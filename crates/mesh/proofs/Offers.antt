-- What an offered step tells of the coordinates of here, h, and of the destination, d.
-- Assumes nothing.
use Prim.Native.Nat.{ℕ, ◌≤◌, ◌<◌}
use native.Mathlib.Omega.{arith}
use mathlib.Core.Path.{◌≡◌, sym, ap, ◌∙◌}
use mathlib.Core.Bool.{true, not, ◌&&◌, false≢true}
use lib.Dec.{ltb}
use borrow.Author.Tests.{ltb-true, ltb-false, le-ltb, not-true}
use Rattle.network.specs.declared.Kind.{Kind}
use Rattle.network.specs.declared.Kind.TheVariants.{Waiting, A, B}
use Rattle.network.proofs.Tests.{and_l, and_r}
use Rattle.mesh.specs.declared.Step.{Step}
use Rattle.mesh.specs.declared.Step.TheVariants.{Enter, Right, Left, Up, Down, Change, Deliver}
use Rattle.mesh.specs.declared.Signs.{Signs}
use Rattle.mesh.specs.Grid.{x_of, y_of}
use Rattle.mesh.specs.Rule.{signs_of, settled_by, arrived_by, offers, Addressable}
use Rattle.mesh.proofs.Coordinates.{rises_is, falls_is}

-- the signs by plain comparisons
abbrev pub compared : ℕ → ℕ → Signs
compared h d = record {
  right = ltb (x_of h) (x_of d);
  left = ltb (x_of d) (x_of h);
  up = ltb (y_of h) (y_of d);
  down = ltb (y_of d) (y_of h);
}

pub signs_are : (h d : ℕ) → signs_of h d ≡ compared h d
unfolding signs_of
signs_are h d = λ i. record {
  right = rises_is (x_of h) (x_of d) i;
  left = falls_is (x_of h) (x_of d) i;
  up = rises_is (y_of h) (y_of d) i;
  down = falls_is (y_of h) (y_of d) i;
}

-- neither coordinate of the destination is greater
abbrev pub Settled : ℕ → ℕ → Type 0
Settled h d = (x_of d ≤ x_of h) × (y_of d ≤ y_of h)

pub settled_means : (h d : ℕ) → settled_by (signs_of h d) ≡ true → Settled h d
settled_means h d e =
    let f : settled_by (compared h d) ≡ true = rw (signs_are h d) at e in
    (ltb-false _ _ (not-true _ (and_l _ _ f)), ltb-false _ _ (not-true _ (and_r (not (ltb (x_of h) (x_of d))) _ f)))

pub settled_by_lem : (h d : ℕ) → Settled h d → settled_by (signs_of h d) ≡ true
settled_by_lem h d s = rw (signs_are h d, le-ltb _ _ s.0, le-ltb _ _ s.1)

pub arrived_means : (h d : ℕ) → arrived_by (signs_of h d) ≡ true → h ≡ d
arrived_means h d e =
    let f : arrived_by (compared h d) ≡ true = rw (signs_are h d) at e in
    let x = and_l _ _ f in
    let y = and_r (not (ltb (x_of h) (x_of d)) && not (ltb (x_of d) (x_of h))) _ f in
    let a = ltb-false (x_of h) (x_of d) (not-true _ (and_l _ _ x)) in
    let b = ltb-false (x_of d) (x_of h) (not-true _ (and_r (not (ltb (x_of h) (x_of d))) _ x)) in
    let c = ltb-false (y_of h) (y_of d) (not-true _ (and_l _ _ y)) in
    let g = ltb-false (y_of d) (y_of h) (not-true _ (and_r (not (ltb (y_of h) (y_of d))) _ y)) in
    omega arith

pub arrived_by_lem : (h d : ℕ) → h ≡ d → arrived_by (signs_of h d) ≡ true
arrived_by_lem h d e =
    rw (
      signs_are h d,
      le-ltb (x_of h) (x_of d) (omega arith),
      le-ltb (x_of d) (x_of h) (omega arith),
      le-ltb (y_of h) (y_of d) (omega arith),
      le-ltb (y_of d) (y_of h) (omega arith),
    )

abbrev pub Toward : Step → ℕ → ℕ → Type 0
Toward Enter h d = Unit {0}
Toward Right h d = x_of h < x_of d
Toward Left h d = x_of d < x_of h
Toward Up h d = y_of h < y_of d
Toward Down h d = y_of d < y_of h
Toward Change h d = Settled h d
Toward Deliver h d = h ≡ d

module _ (h d : ℕ) where
  right_lt : (signs_of h d).right ≡ true → x_of h < x_of d
  right_lt e = ltb-true _ _ (sym (ap (λ (s : Signs). s.right) (signs_are h d)) ∙ e)

  left_lt : (signs_of h d).left ≡ true → x_of d < x_of h
  left_lt e = ltb-true _ _ (sym (ap (λ (s : Signs). s.left) (signs_are h d)) ∙ e)

  up_lt : (signs_of h d).up ≡ true → y_of h < y_of d
  up_lt e = ltb-true _ _ (sym (ap (λ (s : Signs). s.up) (signs_are h d)) ∙ e)

  down_lt : (signs_of h d).down ≡ true → y_of d < y_of h
  down_lt e = ltb-true _ _ (sym (ap (λ (s : Signs). s.down) (signs_are h d)) ∙ e)

  pub offered_toward : (step : Step) (kind : Kind) → offers step (signs_of h d) kind ≡ true → Toward step h d
  offered_toward Enter kind e = tt
  offered_toward Right Waiting e = absurd (false≢true e)
  offered_toward Right A e = right_lt e
  offered_toward Right B e = absurd (false≢true e)
  offered_toward Left Waiting e = absurd (false≢true e)
  offered_toward Left A e = left_lt (and_l _ _ e)
  offered_toward Left B e = left_lt e
  offered_toward Up Waiting e = absurd (false≢true e)
  offered_toward Up A e = up_lt e
  offered_toward Up B e = absurd (false≢true e)
  offered_toward Down Waiting e = absurd (false≢true e)
  offered_toward Down A e = down_lt (and_l _ _ e)
  offered_toward Down B e = down_lt e
  offered_toward Change Waiting e = absurd (false≢true e)
  offered_toward Change A e = settled_means h d e
  offered_toward Change B e = absurd (false≢true e)
  offered_toward Deliver Waiting e = absurd (false≢true e)
  offered_toward Deliver A e = arrived_means h d e
  offered_toward Deliver B e = arrived_means h d e

  -- an offered hop's target is an address byte
  pub toward_room : d < 256 → h < 256 → (step : Step) → Toward step h d → Addressable step h
  toward_room hd hh Enter t = tt
  toward_room hd hh Right t = omega arith
  toward_room hd hh Left t = omega arith
  toward_room hd hh Up t = omega arith
  toward_room hd hh Down t = omega arith
  toward_room hd hh Change t = tt
  toward_room hd hh Deliver t = tt

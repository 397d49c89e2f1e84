-- What an offered move does: a hop goes to a neighbour one nearer to the destination, a turn goes down, a packet leaves only at its
-- destination; and no other code than 1 to 7 is offered.
-- Assumes nothing.
use Prim.Native.Nat.{ℕ, suc, ◌<◌, ◌≤◌}
use native.Mathlib.Omega.{arith}
use mathlib.Core.Path.{◌≡◌, refl}
use mathlib.Core.Bool.{Bool, true, false, not, cond, ◌&&◌, ◌||◌, false≢true}
use mathlib.Core.Logic.{◌≢◌}
use lib.Dec.{ltb, eqb}
use lib.IntN.{nat_abs}
use borrow.Author.Tests.{ltb-true, lt-ltb, ne_eqb}
use Rattle.std.specs.Prelude.{Option, Some, None}
use Rattle.network.specs.declared.Kind.{Kind}
use Rattle.network.specs.declared.Kind.TheVariants.{Waiting, A, B}
use Rattle.network.specs.declared.Place.{Place}
use Rattle.network.specs.declared.Lead.{Lead}
use Rattle.network.specs.declared.Lead.TheVariants.{Hop, Turn, Out, NotOffered}
use Rattle.network.specs.Net.{at, beside}
use Rattle.network.proofs.Tests.{and_l, and_r, clash}
use Rattle.mesh.specs.declared.Profile.{Profile}
use Rattle.mesh.specs.declared.Step.{Step}
use Rattle.mesh.specs.declared.Step.TheVariants.{Enter, Right, Left, Up, Down, Change, Deliver}
use Rattle.mesh.specs.Axis.{difference}
use Rattle.mesh.specs.Grid.{x_of, y_of, on_grid, dx_of, dy_of, distance_of}
use Rattle.mesh.specs.Rule.{step_of, signs_of, settled_by, in_each, offers, keeps, leads, ruled_for, ruled}
use Rattle.mesh.specs.Mesh.{is_code}
use Rattle.mesh.proofs.Coordinates.{nat_abs_is}
use Rattle.mesh.proofs.Offers.{settled_means, settled_by_lem, offered_toward}

-- a coordinate x becomes m, one nearer to z
pub data Nearer (x z m : ℕ) : Type 0 where
  rise : x < z → m ≡ suc x → Nearer x z m
  fall : z < x → x ≡ suc m → Nearer x z m

module _ (x z m : ℕ) where
  nearer_one : Nearer x z m → nat_abs (difference x m) ≡ 1
  nearer_one (rise h e) = omega (arith, nat_abs_is x m)
  nearer_one (fall h e) = omega (arith, nat_abs_is x m)

  nearer_by_one : Nearer x z m → nat_abs (difference x z) ≡ suc (nat_abs (difference m z))
  nearer_by_one (rise h e) = omega (arith, nat_abs_is x z, nat_abs_is m z)
  nearer_by_one (fall h e) = omega (arith, nat_abs_is x z, nat_abs_is m z)

  nearer_below : (w : ℕ) → x < w → z < w → Nearer x z m → m < w
  nearer_below w hx hz (rise h e) = omega arith
  nearer_below w hx hz (fall h e) = omega arith

  nearer_above : z ≤ x → Nearer x z m → z ≤ m
  nearer_above hz (rise h e) = omega arith
  nearer_above hz (fall h e) = omega arith

-- from h to n, for the destination d: one coordinate nearer, the other kept
pub data Hopping (h d n : ℕ) : Type 0 where
  across : Nearer (x_of h) (x_of d) (x_of n) → y_of n ≡ y_of h → Hopping h d n
  along : Nearer (y_of h) (y_of d) (y_of n) → x_of n ≡ x_of h → Hopping h d n

module _ (h d n : ℕ) where
  hopping_one : Hopping h d n → distance_of h n ≡ 1
  unfolding distance_of
  hopping_one (across m e) = omega (arith, nearer_one _ _ _ m, nat_abs_is (y_of h) (y_of n))
  hopping_one (along m e) = omega (arith, nearer_one _ _ _ m, nat_abs_is (x_of h) (x_of n))

  hopping_nearer : Hopping h d n → distance_of h d ≡ suc (distance_of n d)
  unfolding distance_of
  hopping_nearer (across m e) = let kept : nat_abs (dy_of n d) ≡ nat_abs (dy_of h d) = rw e in omega (arith, nearer_by_one _ _ _ m)
  hopping_nearer (along m e) = let kept : nat_abs (dx_of n d) ≡ nat_abs (dx_of h d) = rw e in omega (arith, nearer_by_one _ _ _ m)

  hopping_settled : settled_by (signs_of h d) ≡ true → Hopping h d n → settled_by (signs_of n d) ≡ true
  hopping_settled s (across m e) = let t = settled_means h d s in settled_by_lem n d (nearer_above _ _ _ t.0 m, omega arith)
  hopping_settled s (along m e) = let t = settled_means h d s in settled_by_lem n d (omega arith, nearer_above _ _ _ t.1 m)

module _ (width height : ℕ) where
  pub on_means : (n : ℕ) → on_grid width height n ≡ true → (x_of n < width) × (y_of n < height)
  on_means n e = (ltb-true _ _ (and_l _ _ e), ltb-true _ _ (and_r (ltb (x_of n) width) _ e))

  pub on_by : (n : ℕ) → x_of n < width → y_of n < height → on_grid width height n ≡ true
  on_by n hx hy = rw (lt-ltb _ _ hx, lt-ltb _ _ hy)

  hopping_on_grid : (h d n : ℕ) → on_grid width height h ≡ true → on_grid width height d ≡ true → Hopping h d n → on_grid width height n ≡ true
  hopping_on_grid h d n gh gd (across m e) =
      let a = on_means h gh in
      let b = on_means d gd in
      on_by n (nearer_below _ _ _ width a.0 b.0 m) (omega arith)
  hopping_on_grid h d n gh gd (along m e) =
      let a = on_means h gh in
      let b = on_means d gd in
      on_by n (omega arith) (nearer_below _ _ _ height a.1 b.1 m)

-- a step that is offered only in A or B
not_waiting : (a b : Bool) (k : Kind) → in_each false a b k ≡ true → k ≢ Waiting
not_waiting a b Waiting o e = false≢true o
not_waiting a b A o e = clash cc
not_waiting a b B o e = clash cc

-- enter turns to A or B, to B only where settled
enters : (right up : Bool) → (beside (cond (right || up) A B) < 3) × (cond (right || up) A B ≡ B → not right && not up ≡ true)
enters true up = (omega arith, λ e. clash cc)
enters false true = (omega arith, λ e. clash cc)
enters false false = (omega arith, λ e. refl)

module _ (profile : Profile) (h d : ℕ) where
  -- what an answer of the rule tells
  abbrev pub Told : Kind → Lead → Type 0
  Told k (Hop n) = (k ≢ Waiting) × Hopping h d n
  Told k (Turn l) = (beside l < beside k) × (l ≡ B → settled_by (signs_of h d) ≡ true)
  Told k Out = h ≡ d
  Told k NotOffered = Unit {0}

  offered_tells : (step : Step) (k : Kind) → offers step (signs_of h d) k ≡ true → Told k (leads step h (signs_of h d))
  offered_tells Enter Waiting o = enters (signs_of h d).right (signs_of h d).up
  offered_tells Enter A o = absurd (false≢true o)
  offered_tells Enter B o = absurd (false≢true o)
  offered_tells Right k o = let t = offered_toward h d Right k o in (not_waiting _ _ k o, across (rise t (omega arith)) (omega arith))
  offered_tells Left k o = let t = offered_toward h d Left k o in (not_waiting _ _ k o, across (fall t (omega arith)) (omega arith))
  offered_tells Up k o = let t = offered_toward h d Up k o in (not_waiting _ _ k o, along (rise t (omega arith)) (omega arith))
  offered_tells Down k o = let t = offered_toward h d Down k o in (not_waiting _ _ k o, along (fall t (omega arith)) (omega arith))
  offered_tells Change Waiting o = absurd (false≢true o)
  offered_tells Change A o = (omega arith, λ e. o)
  offered_tells Change B o = absurd (false≢true o)
  offered_tells Deliver k o = offered_toward h d Deliver k o

  step_tells : (step : Step) (k : Kind) (t : Bool) → keeps profile step (signs_of h d) k && offers step (signs_of h d) k ≡ t
      → Told k (cond t (leads step h (signs_of h d)) NotOffered)
  step_tells step k true o = offered_tells step k (and_r (keeps profile step (signs_of h d) k) _ o)
  step_tells step k false o = tt

  pub tells : (k : Kind) (c : ℕ) → Told k (ruled profile (at h k) d c)
  unfolding ruled
  tells k c = go (step_of c)
    where
      go : (step : Option Step) → Told k (ruled_for profile step (at h k) (signs_of h d))
      go None = tt
      go (Some step) = step_tells step k (keeps profile step (signs_of h d) k && offers step (signs_of h d) k) refl

  module _ (k : Kind) (c n : ℕ) (e : ruled profile (at h k) d c ≡ Hop n) where
    told_hop : (k ≢ Waiting) × Hopping h d n
    told_hop = rw e at (tells k c)

    pub hop_on_grid : (width height : ℕ) → on_grid width height h ≡ true → on_grid width height d ≡ true → on_grid width height n ≡ true
    hop_on_grid width height gh gd = hopping_on_grid width height h d n gh gd told_hop.1

    pub hop_one : distance_of h n ≡ 1
    hop_one = hopping_one h d n told_hop.1

    pub hop_nearer : distance_of h d ≡ suc (distance_of n d)
    hop_nearer = hopping_nearer h d n told_hop.1

    -- used of hops in B
    pub hop_settled : settled_by (signs_of h d) ≡ true → settled_by (signs_of n d) ≡ true
    hop_settled s = hopping_settled h d n s told_hop.1

    pub hop_queued : k ≢ Waiting
    hop_queued = told_hop.0

  module _ (k l : Kind) (c : ℕ) (e : ruled profile (at h k) d c ≡ Turn l) where
    told_turn : (beside l < beside k) × (l ≡ B → settled_by (signs_of h d) ≡ true)
    told_turn = rw e at (tells k c)

    pub turn_down : beside l < beside k
    turn_down = told_turn.0

    pub turn_settled : l ≡ B → settled_by (signs_of h d) ≡ true
    turn_settled = told_turn.1

  pub out_there : (k : Kind) (c : ℕ) → ruled profile (at h k) d c ≡ Out → h ≡ d
  out_there k c e = rw e at (tells k c)

-- a number that is no code is none of the seven
pub other_code : (c : ℕ) → is_code c ≡ false → (i : ℕ) → is_code i ≡ true → eqb c i ≡ false
other_code c e i f = ne_eqb c i (λ q. clash (cc))

pub unknown_never : (profile : Profile) (p : Place) (d c : ℕ) → is_code c ≡ false → ruled profile p d c ≡ NotOffered
unfolding ruled step_of
unknown_never profile p d c e =
    let other = other_code c e in
    simp (other 1 refl, other 2 refl, other 3 refl, other 4 refl, other 5 refl, other 6 refl, other 7 refl)

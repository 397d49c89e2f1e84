-- The rule by signs is the function that source document 003 prints with plain comparisons, and what order 2 leaves of it, for every profile,
-- place, destination and code.
-- Assumes nothing.
use Prim.Native.Nat.{ℕ, ◌+◌, ◌-◌}
use native.Mathlib.Omega.{arith}
use mathlib.Core.Path.{◌≡◌, refl, sym, ap, ◌∙◌}
use mathlib.Core.Bool.{Bool, true, false, not, cond, ◌&&◌, ◌||◌, and_comm}
use lib.Dec.{ltb, leb, eqb}
use borrow.Author.Tests.{ltb-true, ltb-false, le-leb, lt-leb, eq-eqb, ne_eqb}
use Rattle.network.specs.declared.Kind.{Kind}
use Rattle.network.specs.declared.Kind.TheVariants.{Waiting, A, B}
use Rattle.network.specs.declared.Place.{Place}
use Rattle.network.specs.declared.Lead.{Lead}
use Rattle.network.specs.declared.Lead.TheVariants.{Hop, Turn, Out, NotOffered}
use Rattle.network.specs.Net.{at}
use Rattle.network.proofs.Tests.{and_l, and_r}
use Rattle.mesh.specs.declared.Profile.{Profile}
use Rattle.mesh.specs.declared.Profile.TheVariants.{Full, Adapt, Oblivious}
use Rattle.mesh.specs.declared.Signs.{Signs}
use Rattle.mesh.specs.Grid.{node, x_of, y_of}
use Rattle.mesh.specs.Rule.{step_of, signs_of, settled_by, arrived_by, ruled}
use Rattle.mesh.specs.Published.{published}
use Rattle.mesh.specs.Mesh.{is_code}
use Rattle.mesh.proofs.Offers.{signs_are}
use Rattle.mesh.proofs.Hops.{other_code, unknown_never}
use Rattle.mesh.proofs.Codes.{by_code}

leb_is : (a b : ℕ) → leb a b ≡ not (ltb b a)
leb_is a b = go (ltb b a) refl
  where
    go : (t : Bool) → ltb b a ≡ t → leb a b ≡ not t
    go true e = lt-leb a b (ltb-true b a e)
    go false e = le-leb a b (ltb-false b a e)

eqb_is : (a b : ℕ) → eqb a b ≡ not (ltb a b) && not (ltb b a)
eqb_is a b = go (ltb a b) (ltb b a) refl refl
  where
    go : (t u : Bool) → ltb a b ≡ t → ltb b a ≡ u → eqb a b ≡ not t && not u
    go true u e f = let g = ltb-true a b e in ne_eqb a b (λ q. omega arith)
    go false true e f = let g = ltb-true b a f in ne_eqb a b (λ q. omega arith)
    go false false e f = let g = ltb-false a b e in let i = ltb-false b a f in eq-eqb a b (omega arith)

published_never : (profile : Profile) (k : Kind) (n d c : ℕ) → is_code c ≡ false → published profile (at n k) d c ≡ NotOffered
unfolding published
published_never Full Waiting n d c e = simp (other_code c e 1 refl)
published_never Full A n d c e =
    let other = other_code c e in
    simp (other 7 refl, other 2 refl, other 3 refl, other 4 refl, other 5 refl, other 6 refl)
published_never Full B n d c e = let other = other_code c e in simp (other 7 refl, other 5 refl, other 3 refl)
published_never Adapt Waiting n d c e = simp (other_code c e 1 refl)
published_never Adapt A n d c e = let other = other_code c e in simp (other 7 refl, other 2 refl, other 4 refl, other 6 refl)
published_never Adapt B n d c e = let other = other_code c e in simp (other 7 refl, other 5 refl, other 3 refl)
published_never Oblivious Waiting n d c e = simp (other_code c e 1 refl)
published_never Oblivious A n d c e = let other = other_code c e in simp (other 7 refl, other 2 refl, other 4 refl, other 6 refl)
published_never Oblivious B n d c e = let other = other_code c e in simp (other 7 refl, other 3 refl, other 5 refl)

-- enter: one row of document 01, two lines of source 003
enter_same : (right up : Bool) → Turn (cond (right || up) A B) ≡ cond (right || up) (Turn A) (cond (not right && not up) (Turn B) NotOffered)
enter_same true up = refl
enter_same false true = refl
enter_same false false = refl

-- one row of document 01 and one line of source 003
abbrev Row : Bool → Lead → Bool → Lead → Type 0
Row t l u m = cond t l NotOffered ≡ cond u m NotOffered

-- a hop under the same condition to the same node, where the condition holds
hop_same : (t u : Bool) (m n : ℕ) → t ≡ u → (u ≡ true → m ≡ n) → Row t (Hop m) u (Hop n)
hop_same t true m n e f = rw e (ap Hop (f refl))
hop_same t false m n e f = rw e

module _ (n d : ℕ) where
  abbrev s : Signs
  s = signs_of n d

  abbrev x : ℕ
  x = x_of n

  abbrev y : ℕ
  y = y_of n

  abbrev z : ℕ
  z = x_of d

  abbrev w : ℕ
  w = y_of d

  left_node : ltb z x ≡ true → n - 1 ≡ node (x - 1) y
  left_node t = omega (arith, ltb-true z x t)

  down_node : ltb w y ≡ true → n - 16 ≡ node x (y - 1)
  down_node t = omega (arith, ltb-true w y t)

  arrived_is : arrived_by s ≡ eqb x z && eqb y w
  arrived_is = rw (signs_are n d, eqb_is x z, eqb_is y w)

  settled_is : settled_by s ≡ leb z x && leb w y
  settled_is = rw (signs_are n d, leb_is z x, leb_is w y)

  enters : Turn (cond (s.right || s.up) A B) ≡ cond (ltb x z || ltb y w) (Turn A) (cond (leb z x && leb w y) (Turn B) NotOffered)
  enters = rw (signs_are n d, leb_is z x, leb_is w y) (enter_same (ltb x z) (ltb y w))

  rights : Row s.right (Hop (n + 1)) (ltb x z) (Hop (node (x + 1) y))
  rights = hop_same s.right (ltb x z) (n + 1) (node (x + 1) y) (rw (signs_are n d)) (λ t. omega arith)

  lefts_A : Row (s.left && s.up) (Hop (n - 1)) (ltb z x && ltb y w) (Hop (node (x - 1) y))
  lefts_A = hop_same (s.left && s.up) (ltb z x && ltb y w) (n - 1) (node (x - 1) y) (rw (signs_are n d)) (λ t. left_node (and_l _ _ t))

  lefts_B : Row s.left (Hop (n - 1)) (ltb z x) (Hop (node (x - 1) y))
  lefts_B = hop_same s.left (ltb z x) (n - 1) (node (x - 1) y) (rw (signs_are n d)) left_node

  ups : Row s.up (Hop (n + 16)) (ltb y w) (Hop (node x (y + 1)))
  ups = hop_same s.up (ltb y w) (n + 16) (node x (y + 1)) (rw (signs_are n d)) (λ t. omega arith)

  ups_else : Row (not s.right && s.up) (Hop (n + 16)) (not (ltb x z) && ltb y w) (Hop (node x (y + 1)))
  ups_else = hop_same (not s.right && s.up) (not (ltb x z) && ltb y w) (n + 16) (node x (y + 1)) (rw (signs_are n d)) (λ t. omega arith)

  downs_A : Row (s.down && s.right) (Hop (n - 16)) (ltb x z && ltb w y) (Hop (node x (y - 1)))
  downs_A = hop_same (s.down && s.right) (ltb x z && ltb w y) (n - 16) (node x (y - 1)) (rw (signs_are n d) (and_comm (ltb w y) (ltb x z))) (λ t. down_node (and_r (ltb x z) _ t))

  downs_B : Row s.down (Hop (n - 16)) (ltb w y) (Hop (node x (y - 1)))
  downs_B = hop_same s.down (ltb w y) (n - 16) (node x (y - 1)) (rw (signs_are n d)) down_node

  downs_else : Row (not s.left && s.down) (Hop (n - 16)) (not (ltb z x) && ltb w y) (Hop (node x (y - 1)))
  downs_else = hop_same (not s.left && s.down) (not (ltb z x) && ltb w y) (n - 16) (node x (y - 1)) (rw (signs_are n d)) (λ t. down_node (and_r (not (ltb z x)) _ t))

  changes : Row (settled_by s) (Turn B) (leb z x && leb w y) (Turn B)
  changes = rw settled_is

  changes_else : Row (not (arrived_by s) && settled_by s) (Turn B) (not (eqb x z && eqb y w) && (leb z x && leb w y)) (Turn B)
  changes_else = rw (arrived_is, settled_is)

  outs : Row (arrived_by s) Out (eqb x z && eqb y w) Out
  outs = rw arrived_is

  Same : Profile → Kind → ℕ → Type 0
  Same profile k c = ruled profile (at n k) d c ≡ published profile (at n k) d c

  other_same : (profile : Profile) (k : Kind) (c : ℕ) → is_code c ≡ false → Same profile k c
  unfolding Same
  other_same profile k c e = unknown_never profile (at n k) d c e ∙ sym (published_never profile k n d c e)

  every_code : (profile : Profile) (k : Kind) (c : ℕ) → Same profile k c
  unfolding Same ruled step_of published
  every_code Full Waiting = by_code (Same Full Waiting) enters refl refl refl refl refl refl (other_same Full Waiting)
  every_code Full A = by_code (Same Full A) refl rights lefts_A ups downs_A changes outs (other_same Full A)
  every_code Full B = by_code (Same Full B) refl refl lefts_B refl downs_B refl outs (other_same Full B)
  every_code Adapt Waiting = by_code (Same Adapt Waiting) enters refl refl refl refl refl refl (other_same Adapt Waiting)
  every_code Adapt A = by_code (Same Adapt A) refl rights refl ups refl changes outs (other_same Adapt A)
  every_code Adapt B = by_code (Same Adapt B) refl refl lefts_B refl downs_B refl outs (other_same Adapt B)
  every_code Oblivious Waiting = by_code (Same Oblivious Waiting) enters refl refl refl refl refl refl (other_same Oblivious Waiting)
  every_code Oblivious A = by_code (Same Oblivious A) refl rights refl ups_else refl changes_else outs (other_same Oblivious A)
  every_code Oblivious B = by_code (Same Oblivious B) refl refl lefts_B refl downs_else refl outs (other_same Oblivious B)

pub published_is : (profile : Profile) (p : Place) (destination code : ℕ) → ruled profile p destination code ≡ published profile p destination code
unfolding Same
published_is profile p destination code = every_code p.node destination profile p.kind code

-- The routing function printed in source document 003, section IV, with plain comparisons, line by line in the order printed. Here (x, y),
-- destination (z, w). The last two lines of phase B are lost in our copy; there the section's description decides: in phase B messages
-- visit nodes with lower number instead of those with higher number, toward their destination. After it, what document 02, order 2, leaves of it
-- on boards of profile 1 and 2.
-- Assumes nothing.
use Rattle.std.specs.Prelude.{ℕ, ◌+◌, ◌-◌, Bool, not, cond, ◌&&◌, ◌||◌, List, [], ◌∷◌, ltb, leb, eqb}
use Rattle.network.specs.declared.Kind.{Kind}
use Rattle.network.specs.declared.Kind.TheVariants.{Waiting, A, B}
use Rattle.network.specs.declared.Place.{Place}
use Rattle.network.specs.declared.Lead.{Lead}
use Rattle.network.specs.declared.Lead.TheVariants.{Hop, Turn, Out, NotOffered}
use Rattle.mesh.specs.declared.Profile.{Profile}
use Rattle.mesh.specs.declared.Profile.TheVariants.{Full, Adapt, Oblivious}
use Rattle.mesh.specs.Grid.{node, x_of, y_of}

-- a line: where it leads, if its condition holds; and document 01's code for that move
pub record Line : Type 0 where
  pub leads : Lead
  pub if : Bool
  pub code : ℕ

abbrev line : ℕ → Lead → Bool → Line
line c l b = record { leads = l; if = b; code = c }

-- in A the lines of codes 3 and 5 are the dynamic hops; all other hops are static
abbrev pub printed : Kind → ℕ → ℕ → ℕ → ℕ → List Line
printed Waiting x y z w =
    line 1 (Turn A) (ltb x z || ltb y w)
    ∷ line 1 (Turn B) (leb z x && leb w y)
    ∷ []
printed A x y z w =
    line 7 Out (eqb x z && eqb y w)
    ∷ line 2 (Hop (node (x + 1) y)) (ltb x z)
    ∷ line 3 (Hop (node (x - 1) y)) (ltb z x && ltb y w)
    ∷ line 4 (Hop (node x (y + 1))) (ltb y w)
    ∷ line 5 (Hop (node x (y - 1))) (ltb x z && ltb w y)
    ∷ line 6 (Turn B) (leb z x && leb w y)
    ∷ []
printed B x y z w =
    line 7 Out (eqb x z && eqb y w)
    ∷ line 5 (Hop (node x (y - 1))) (ltb w y)
    ∷ line 3 (Hop (node (x - 1) y)) (ltb z x)
    ∷ []

-- profile 1: "without codes 3 and 5 in A"
abbrev pub without_dynamic : Kind → ℕ → ℕ → ℕ → ℕ → List Line
without_dynamic Waiting x y z w = printed Waiting x y z w
without_dynamic A x y z w =
    line 7 Out (eqb x z && eqb y w)
    ∷ line 2 (Hop (node (x + 1) y)) (ltb x z)
    ∷ line 4 (Hop (node x (y + 1))) (ltb y w)
    ∷ line 6 (Turn B) (leb z x && leb w y)
    ∷ []
without_dynamic B x y z w = printed B x y z w

-- profile 2: "with one hop only (in A code 2 if z > x, else 4 if w > y; in B code 3 if z < x, else 5 if w < y; at the destination in A code 7
-- only)"
abbrev pub one_hop : Kind → ℕ → ℕ → ℕ → ℕ → List Line
one_hop Waiting x y z w = printed Waiting x y z w
one_hop A x y z w =
    line 7 Out (eqb x z && eqb y w)
    ∷ line 2 (Hop (node (x + 1) y)) (ltb x z)
    ∷ line 4 (Hop (node x (y + 1))) (not (ltb x z) && ltb y w)
    ∷ line 6 (Turn B) (not (eqb x z && eqb y w) && (leb z x && leb w y))
    ∷ []
one_hop B x y z w =
    line 7 Out (eqb x z && eqb y w)
    ∷ line 3 (Hop (node (x - 1) y)) (ltb z x)
    ∷ line 5 (Hop (node x (y - 1))) (not (ltb z x) && ltb w y)
    ∷ []

abbrev pub lines_in : Profile → Kind → ℕ → ℕ → ℕ → ℕ → List Line
lines_in Full = printed
lines_in Adapt = without_dynamic
lines_in Oblivious = one_hop

-- a code leads where a line of that code leads whose condition holds
abbrev pub among : List Line → ℕ → Lead
among [] code = NotOffered
among (l ∷ ls) code = cond (eqb code l.code && l.if) l.leads (among ls code)

unfoldable pub published : Profile → Place → ℕ → ℕ → Lead
published profile p destination code = among (lines_in profile p.kind (x_of p.node) (y_of p.node) (x_of destination) (y_of destination)) code

-- Document 01's rule of moves, row by row of its table, and what a board's profile keeps of it (document 02, order 2). Here (x, y), destination
-- (z, w); the conditions are the signs of z - x and w - y.
-- Assumes nothing.
use Rattle.std.specs.Prelude.{ℕ, ◌+◌, ◌-◌, ◌≤◌, ◌<◌, Bool, true, false, not, cond, ◌&&◌, ◌||◌, eqb, Option, Some, None}
use Rattle.network.specs.declared.Kind.{Kind}
use Rattle.network.specs.declared.Kind.TheVariants.{Waiting, A, B}
use Rattle.network.specs.declared.Place.{Place}
use Rattle.network.specs.declared.Lead.{Lead}
use Rattle.network.specs.declared.Lead.TheVariants.{Hop, Turn, Out, NotOffered}
use Rattle.mesh.specs.declared.Profile.{Profile}
use Rattle.mesh.specs.declared.Profile.TheVariants.{Full, Adapt, Oblivious}
use Rattle.mesh.specs.declared.Step.{Step}
use Rattle.mesh.specs.declared.Step.TheVariants.{Enter, Right, Left, Up, Down, Change, Deliver}
use Rattle.mesh.specs.declared.Signs.{Signs}
use Rattle.mesh.specs.Axis.{rises, falls}
use Rattle.mesh.specs.Grid.{dx_of, dy_of}

-- the first column
unfoldable pub step_of : ℕ → Option Step
step_of code =
    cond (eqb code 1) (Some Enter)
    (cond (eqb code 2) (Some Right)
    (cond (eqb code 3) (Some Left)
    (cond (eqb code 4) (Some Up)
    (cond (eqb code 5) (Some Down)
    (cond (eqb code 6) (Some Change)
    (cond (eqb code 7) (Some Deliver)
    None))))))

-- z > x, z < x, w > y, w < y
unfoldable pub signs_of : ℕ → ℕ → Signs
signs_of here destination = record {
  right = rises (dx_of here destination);
  left = falls (dx_of here destination);
  up = rises (dy_of here destination);
  down = falls (dy_of here destination);
}

-- z ≤ x and w ≤ y
abbrev pub settled_by : Signs → Bool
settled_by s = not s.right && not s.up

-- z = x and w = y
abbrev pub arrived_by : Signs → Bool
arrived_by s = (not s.right && not s.left) && (not s.up && not s.down)

-- a condition for each queue kind
abbrev pub in_each : Bool → Bool → Bool → Kind → Bool
in_each waiting a b Waiting = waiting
in_each waiting a b A = a
in_each waiting a b B = b

-- the third column: when a step is offered from waiting, in A, in B. Left and Down in A are the dynamic hops; every other hop is a static one
abbrev pub offers : Step → Signs → Kind → Bool
offers Enter s = in_each true false false
offers Right s = in_each false s.right false
offers Left s = in_each false (s.left && s.up) s.left
offers Up s = in_each false s.up false
offers Down s = in_each false (s.down && s.right) s.down
offers Change s = in_each false (settled_by s) false
offers Deliver s = in_each false (arrived_by s) (arrived_by s)

-- the profile of a number
unfoldable pub profile_of : ℕ → Profile
profile_of number = cond (eqb number 0) Full (cond (eqb number 1) Adapt Oblivious)

-- no dynamic hop
abbrev pub is_static : Step → Kind → Bool
is_static Enter = in_each true true true
is_static Right = in_each true true true
is_static Left = in_each true false true
is_static Up = in_each true true true
is_static Down = in_each true false true
is_static Change = in_each true true true
is_static Deliver = in_each true true true

-- of several static moves one: in A Right before Up, in B Left before Down, at the destination Deliver before Change
abbrev pub is_chosen : Step → Signs → Kind → Bool
is_chosen Enter s = in_each true true true
is_chosen Right s = in_each true true true
is_chosen Left s = in_each true true true
is_chosen Up s = in_each true (not s.right) true
is_chosen Down s = in_each true true (not s.left)
is_chosen Change s = in_each true (not (arrived_by s)) true
is_chosen Deliver s = in_each true true true

-- source 003, section VII: "removing all the dynamic transitions from FULL"; "choosing one only among the static transitions"
abbrev pub keeps : Profile → Step → Signs → Kind → Bool
keeps Full step s k = true
keeps Adapt step s k = is_static step k
keeps Oblivious step s k = is_static step k && is_chosen step s k

-- the second column: where a step leads from a node
abbrev pub leads : Step → ℕ → Signs → Lead
leads Enter n s = Turn (cond (s.right || s.up) A B)
leads Right n s = Hop (n + 1)
leads Left n s = Hop (n - 1)
leads Up n s = Hop (n + 16)
leads Down n s = Hop (n - 16)
leads Change n s = Turn B
leads Deliver n s = Out

-- a hop's target is an address byte
abbrev pub Addressable : Step → ℕ → Type 0
Addressable Enter n = Unit {0}
Addressable Right n = n + 1 < 256
Addressable Left n = 1 ≤ n
Addressable Up n = n + 16 < 256
Addressable Down n = 16 ≤ n
Addressable Change n = Unit {0}
Addressable Deliver n = Unit {0}

abbrev pub ruled_by : Profile → Step → Place → Signs → Lead
ruled_by profile step p s = cond (keeps profile step s p.kind && offers step s p.kind) (leads step p.node s) NotOffered

-- what is no step is never offered
abbrev pub ruled_for : Profile → Option Step → Place → Signs → Lead
ruled_for profile None p s = NotOffered
ruled_for profile (Some step) p s = ruled_by profile step p s

-- the rule: where a code leads a packet from its place, for its destination, on a board of a profile
unfoldable pub ruled : Profile → Place → ℕ → ℕ → Lead
ruled profile p destination code = ruled_for profile (step_of code) p (signs_of p.node destination)

-- The contract of each public function determines its answer, and asks nothing of a caller. `Post` is the contract's own reading, as the check made it.
-- Assumes nothing.
use Prim.Native.Nat.{ℕ}
use mathlib.Core.Path.{◌≡◌, sym, ◌∙◌}
use mathlib.Core.Bool.{Bool}
use Rattle.network.specs.declared.Place.{Place}
use Rattle.network.specs.declared.Lead.{Lead}
use Rattle.mesh.specs.declared.Profile.{Profile}
use Rattle.mesh.proofs.rule.Reads as rule-reads
use Rattle.mesh.proofs.profile_of.Reads as profile-of-reads
use Rattle.mesh.proofs.distance.Reads as distance-reads
use Rattle.mesh.proofs.settled.Reads as settled-reads
use Rattle.mesh.proofs.on_grid.Reads as on-grid-reads
use Rattle.mesh.proofs.is_code.Reads as is-code-reads

pub rule_determined : (profile : Profile) (here : Place) (destination code : ℕ) (r r' : Lead)
    → rule-reads.Post tt (profile, (here, (destination, (code, tt)))) r (profile, (here, (destination, (code, tt))))
    → rule-reads.Post tt (profile, (here, (destination, (code, tt)))) r' (profile, (here, (destination, (code, tt)))) → r ≡ r'
rule_determined profile here destination code r r' h h' = h ∙ sym h'

pub rule_asks_nothing : (profile : Profile) (here : Place) (destination code : ℕ) → rule-reads.Asked tt (profile, (here, (destination, (code, tt))))
rule_asks_nothing profile here destination code = tt

pub profile_of_determined : (number : ℕ) (r r' : Profile)
    → profile-of-reads.Post tt (number, tt) r (number, tt) → profile-of-reads.Post tt (number, tt) r' (number, tt) → r ≡ r'
profile_of_determined number r r' h h' = h ∙ sym h'

pub profile_of_asks_nothing : (number : ℕ) → profile-of-reads.Asked tt (number, tt)
profile_of_asks_nothing number = tt

pub distance_determined : (a b r r' : ℕ)
    → distance-reads.Post tt (a, (b, tt)) r (a, (b, tt)) → distance-reads.Post tt (a, (b, tt)) r' (a, (b, tt)) → r ≡ r'
distance_determined a b r r' h h' = h ∙ sym h'

pub distance_asks_nothing : (a b : ℕ) → distance-reads.Asked tt (a, (b, tt))
distance_asks_nothing a b = tt

pub settled_determined : (here destination : ℕ) (r r' : Bool)
    → settled-reads.Post tt (here, (destination, tt)) r (here, (destination, tt))
    → settled-reads.Post tt (here, (destination, tt)) r' (here, (destination, tt)) → r ≡ r'
settled_determined here destination r r' h h' = h ∙ sym h'

pub settled_asks_nothing : (here destination : ℕ) → settled-reads.Asked tt (here, (destination, tt))
settled_asks_nothing here destination = tt

pub on_grid_determined : (width height node : ℕ) (r r' : Bool)
    → on-grid-reads.Post tt (width, (height, (node, tt))) r (width, (height, (node, tt)))
    → on-grid-reads.Post tt (width, (height, (node, tt))) r' (width, (height, (node, tt))) → r ≡ r'
on_grid_determined width height node r r' h h' = h ∙ sym h'

pub on_grid_asks_nothing : (width height node : ℕ) → on-grid-reads.Asked tt (width, (height, (node, tt)))
on_grid_asks_nothing width height node = tt

pub is_code_determined : (code : ℕ) (r r' : Bool)
    → is-code-reads.Post tt (code, tt) r (code, tt) → is-code-reads.Post tt (code, tt) r' (code, tt) → r ≡ r'
is_code_determined code r r' h h' = h ∙ sym h'

pub is_code_asks_nothing : (code : ℕ) → is-code-reads.Asked tt (code, tt)
is_code_asks_nothing code = tt

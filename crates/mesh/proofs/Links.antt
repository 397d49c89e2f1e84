-- The links that A and B share (document 02, order 3): a code from a node is one link, whatever the queue and the destination; in B the hops are codes
-- 3 and 5; and where 3 or 5 is offered it is a hop.
-- Assumes nothing.
use Prim.Native.Nat.{ℕ, ◌-◌}
use mathlib.Core.Path.{◌≡◌, refl}
use mathlib.Core.Bool.{Bool, true, false, cond, ◌&&◌}
use mathlib.Core.Logic.{◌⊎◌, inl, inr, ◌≢◌}
use Rattle.std.specs.Prelude.{Option, Some, None}
use Rattle.network.specs.declared.Kind.{Kind}
use Rattle.network.specs.declared.Kind.TheVariants.{A, B}
use Rattle.network.specs.declared.Place.{Place}
use Rattle.network.specs.declared.Lead.{Lead}
use Rattle.network.specs.declared.Lead.TheVariants.{Hop, NotOffered}
use Rattle.network.specs.Net.{at}
use Rattle.network.proofs.Tests.{clash}
use Rattle.mesh.specs.declared.Profile.{Profile}
use Rattle.mesh.specs.declared.Profile.TheVariants.{Full}
use Rattle.mesh.specs.declared.Step.{Step}
use Rattle.mesh.specs.declared.Step.TheVariants.{Enter, Right, Left, Up, Down, Change, Deliver}
use Rattle.mesh.specs.declared.Signs.{Signs}
use Rattle.mesh.specs.Grid.{node}
use Rattle.mesh.specs.Rule.{step_of, signs_of, settled_by, offers, keeps, leads, ruled_by, ruled_for, ruled}
use Rattle.mesh.proofs.Hops.{unknown_never}
use Rattle.mesh.proofs.Codes.{by_code}

-- a step that hops is offered, and leads there
hops : (profile : Profile) (step : Step) (p : Place) (s : Signs) (n : ℕ) → ruled_by profile step p s ≡ Hop n
    → (offers step s p.kind ≡ true) × (leads step p.node s ≡ Hop n)
hops profile step p s n = go (keeps profile step s p.kind) (offers step s p.kind) _
  where
    go : (k o : Bool) (l : Lead) → cond (k && o) l NotOffered ≡ Hop n → (o ≡ true) × (l ≡ Hop n)
    go true true l e = (refl, e)
    go true false l e = clash cc
    go false o l e = clash cc

-- ---- one link

step_link : (step : Step) (h : ℕ) (s t : Signs) (n m : ℕ) → leads step h s ≡ Hop n → leads step h t ≡ Hop m → n ≡ m
step_link Enter h s t n m e f = clash cc
step_link Right h s t n m e f = cc
step_link Left h s t n m e f = cc
step_link Up h s t n m e f = cc
step_link Down h s t n m e f = cc
step_link Change h s t n m e f = clash cc
step_link Deliver h s t n m e f = clash cc

pub same_link : (profile : Profile) (k l : Kind) (h d e c n m : ℕ) → ruled profile (at h k) d c ≡ Hop n → ruled profile (at h l) e c ≡ Hop m → n ≡ m
unfolding ruled
same_link profile k l h d e c n m = go (step_of c)
  where
    go : (step : Option Step) → ruled_for profile step (at h k) (signs_of h d) ≡ Hop n → ruled_for profile step (at h l) (signs_of h e) ≡ Hop m → n ≡ m
    go None a b = clash cc
    go (Some step) a b =
        step_link step h (signs_of h d) (signs_of h e) n m (hops profile step (at h k) _ n a).1 (hops profile step (at h l) _ m b).1

-- ---- codes 3 and 5

pub B_hops_by : (profile : Profile) (h d c n : ℕ) → ruled profile (at h B) d c ≡ Hop n → (c ≡ 3) ⊎ (c ≡ 5)
unfolding ruled step_of
B_hops_by profile h d c n =
    by_code (λ c. ruled profile (at h B) d c ≡ Hop n → (c ≡ 3) ⊎ (c ≡ 5))
    (λ e. clash (cc (hops profile Enter (at h B) (signs_of h d) n e).0))
    (λ e. clash (cc (hops profile Right (at h B) (signs_of h d) n e).0))
    (λ e. inl refl)
    (λ e. clash (cc (hops profile Up (at h B) (signs_of h d) n e).0))
    (λ e. inr refl)
    (λ e. clash (cc (hops profile Change (at h B) (signs_of h d) n e).0))
    (λ e. clash (cc (hops profile Deliver (at h B) (signs_of h d) n e).1))
    (λ c u e. clash (cc (unknown_never profile (at h B) d c u)))
    c

hop_offered : (b : Bool) (m : ℕ) → cond b (Hop m) NotOffered ≢ NotOffered → (n : ℕ) × (cond b (Hop m) NotOffered ≡ Hop n)
hop_offered true m o = (m, refl)
hop_offered false m o = absurd (o refl)

pub offered_hops : (profile : Profile) (p : Place) (d c : ℕ) → (c ≡ 3) ⊎ (c ≡ 5) → ruled profile p d c ≢ NotOffered
    → (n : ℕ) × (ruled profile p d c ≡ Hop n)
unfolding ruled step_of
offered_hops profile p d c (inl e) o =
    let s : Signs = signs_of p.node d in
    rw e (hop_offered (keeps profile Left s p.kind && offers Left s p.kind) (p.node - 1) (rw e at o))
offered_hops profile p d c (inr e) o =
    let s : Signs = signs_of p.node d in
    rw e (hop_offered (keeps profile Down s p.kind && offers Down s p.kind) (p.node - 16) (rw e at o))

-- a code takes one link from here to n in A and in B, there for a destination that B may hold
abbrev pub Shared : ℕ → ℕ → ℕ → Type 0
Shared c h n = (d e : ℕ) × (ruled Full (at h A) d c ≡ Hop n) × (ruled Full (at h B) e c ≡ Hop n) × (settled_by (signs_of h e) ≡ true)

pub shared_3 : Shared 3 (node 1 1) (node 0 1)
unfolding ruled step_of signs_of
shared_3 = (node 0 2, node 0 1, refl, refl, refl)

pub shared_5 : Shared 5 (node 1 1) (node 1 0)
unfolding ruled step_of signs_of
shared_5 = (node 2 0, node 1 0, refl, refl, refl)

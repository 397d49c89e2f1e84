-- The three profiles of document 02, order 2: profiles 1 and 2 offer nothing that profile 0 doesn't; profile 2 offers at most one hop, whatever the
-- place; and what each keeps of the rule wherever a packet is to go on.
-- Assumes nothing.
use Prim.Native.Nat.{ℕ}
use native.Mathlib.Omega.{arith}
use mathlib.Core.Path.{◌≡◌, refl, sym, ◌∙◌}
use mathlib.Core.Bool.{Bool, true, false, cond, ◌&&◌}
use mathlib.Core.Logic.{◌⊎◌, inl, inr}
use Rattle.std.specs.Prelude.{Option, Some, None}
use Rattle.network.specs.declared.Kind.{Kind}
use Rattle.network.specs.declared.Kind.TheVariants.{Waiting, A, B}
use Rattle.network.specs.declared.Place.{Place}
use Rattle.network.specs.declared.Lead.{Lead}
use Rattle.network.specs.declared.Lead.TheVariants.{Hop, NotOffered}
use Rattle.network.specs.Net.{at}
use Rattle.network.proofs.Tests.{and_both, clash}
use Rattle.mesh.specs.declared.Profile.{Profile}
use Rattle.mesh.specs.declared.Profile.TheVariants.{Full, Adapt, Oblivious}
use Rattle.mesh.specs.declared.Step.{Step}
use Rattle.mesh.specs.declared.Step.TheVariants.{Right, Left, Up}
use Rattle.mesh.specs.declared.Signs.{Signs}
use Rattle.mesh.specs.Rule.{step_of, signs_of, offers, is_static, is_chosen, keeps, leads, ruled_for, ruled}
use Rattle.mesh.specs.Published.{published}
use Rattle.mesh.proofs.Hops.{unknown_never}
use Rattle.mesh.proofs.Codes.{by_code}
use Rattle.mesh.proofs.Source003.{published_is}

-- ---- nothing more than profile 0

kept_or_not : (k o : Bool) (l : Lead) → (cond (k && o) l NotOffered ≡ NotOffered) ⊎ (cond (k && o) l NotOffered ≡ cond o l NotOffered)
kept_or_not true o l = inr refl
kept_or_not false o l = inl refl

narrower : (profile : Profile) (p : Place) (d c : ℕ) → (ruled profile p d c ≡ NotOffered) ⊎ (ruled profile p d c ≡ ruled Full p d c)
unfolding ruled
narrower profile p d c = go (step_of c)
  where
    s : Signs
    s = signs_of p.node d

    go : (step : Option Step) → (ruled_for profile step p s ≡ NotOffered) ⊎ (ruled_for profile step p s ≡ ruled_for Full step p s)
    go None = inl refl
    go (Some step) = kept_or_not (keeps profile step s p.kind) (offers step s p.kind) (leads step p.node s)

-- where a code leads on a board of a profile, it leads on one of profile 0
pub offered_by_full : (profile : Profile) (p : Place) (d c : ℕ)
    → (published profile p d c ≡ NotOffered) ⊎ (published profile p d c ≡ published Full p d c)
offered_by_full profile p d c = rw (← published_is profile p d c, ← published_is Full p d c) (narrower profile p d c)

-- ---- one hop

-- the first of the hops that are kept, by its code
abbrev the_hop : Kind → Signs → ℕ
the_hop k s =
    cond (keeps Oblivious Right s k && offers Right s k) 2
    (cond (keeps Oblivious Left s k && offers Left s k) 3
    (cond (keeps Oblivious Up s k && offers Up s k) 4
    5))

module _ (m d : ℕ) where
  abbrev s : Signs
  s = signs_of m d

  Only : Kind → ℕ → Type 0
  Only k c = (n : ℕ) → ruled Oblivious (at m k) d c ≡ Hop n → c ≡ the_hop k s

  only : (k : Kind) (c : ℕ) → Only k c
  unfolding Only ruled step_of
  only Waiting =
      by_code (Only Waiting)
      (λ n e. clash cc)
      (λ n e. clash cc)
      (λ n e. clash cc)
      (λ n e. clash cc)
      (λ n e. clash cc)
      (λ n e. clash cc)
      (λ n e. clash cc)
      (λ c u n e. clash (cc (unknown_never Oblivious (at m Waiting) d c u)))
  only A =
      by_code (Only A)
      (λ n e. clash cc)
      (λ n e. grind arith)
      (λ n e. clash cc)
      (λ n e. grind arith)
      (λ n e. clash cc)
      (λ n e. grind arith)
      (λ n e. grind arith)
      (λ c u n e. clash (cc (unknown_never Oblivious (at m A) d c u)))
  only B =
      by_code (Only B)
      (λ n e. clash cc)
      (λ n e. clash cc)
      (λ n e. grind arith)
      (λ n e. clash cc)
      (λ n e. grind arith)
      (λ n e. clash cc)
      (λ n e. grind arith)
      (λ c u n e. clash (cc (unknown_never Oblivious (at m B) d c u)))

pub one_hop_lem : (p : Place) (d c c' n n' : ℕ) → published Oblivious p d c ≡ Hop n → published Oblivious p d c' ≡ Hop n' → c ≡ c'
unfolding Only
one_hop_lem p d c c' n n' e e' =
    only p.node d p.kind c n (published_is Oblivious p d c ∙ e) ∙ sym (only p.node d p.kind c' n' (published_is Oblivious p d c' ∙ e'))

-- ---- a way on

-- a static move that is chosen is kept in every profile
pub keeps_chosen : (profile : Profile) (step : Step) (s : Signs) (k : Kind) → is_static step k ≡ true → is_chosen step s k ≡ true → keeps profile step s k ≡ true
keeps_chosen Full step s k a b = refl
keeps_chosen Adapt step s k a b = a
keeps_chosen Oblivious step s k a b = and_both a b

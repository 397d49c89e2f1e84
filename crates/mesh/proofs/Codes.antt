-- Codes: a property of every number from the seven codes and the rest; and code 7 alone delivers.
-- Assumes nothing.
use Prim.Native.Nat.{ℕ, zero, suc, ◌+◌}
use native.Mathlib.Numerals.{unary_clauses}
use native.Mathlib.Omega.{arith}
use mathlib.Core.Path.{◌≡◌, refl, ap, ◌∙◌}
use mathlib.Core.Logic.{◌⊎◌, inl, inr}
use mathlib.Core.Bool.{Bool, true, false, cond, ◌&&◌}
use borrow.Author.Tests.{le-leb, lt-leb}
use Rattle.std.specs.Prelude.{Option, Some, None}
use Rattle.network.specs.declared.Place.{Place}
use Rattle.network.specs.declared.Lead.TheVariants.{Out, NotOffered}
use Rattle.network.proofs.Tests.{clash}
use Rattle.mesh.specs.declared.Profile.{Profile}
use Rattle.mesh.specs.declared.Step.{Step}
use Rattle.mesh.specs.declared.Step.TheVariants.{Enter, Right, Left, Up, Down, Change, Deliver}
use Rattle.mesh.specs.declared.Signs.{Signs}
use Rattle.mesh.specs.Rule.{step_of, signs_of, offers, keeps, leads, ruled_for, ruled}
use Rattle.mesh.specs.Mesh.{is_code}
use Rattle.mesh.proofs.Hops.{other_code}

-- what holds for the seven codes, and for what is no code, holds for every number
pub by_code : (P : ℕ → Type 0) → P 1 → P 2 → P 3 → P 4 → P 5 → P 6 → P 7 → ((c : ℕ) → is_code c ≡ false → P c) → (c : ℕ) → P c
by_code P p1 p2 p3 p4 p5 p6 p7 other zero = other 0 refl
by_code P p1 p2 p3 p4 p5 p6 p7 other (suc zero) = p1
by_code P p1 p2 p3 p4 p5 p6 p7 other (suc (suc zero)) = p2
by_code P p1 p2 p3 p4 p5 p6 p7 other (suc (suc (suc zero))) = p3
by_code P p1 p2 p3 p4 p5 p6 p7 other (suc (suc (suc (suc zero)))) = p4
by_code P p1 p2 p3 p4 p5 p6 p7 other (suc (suc (suc (suc (suc zero))))) = p5
by_code P p1 p2 p3 p4 p5 p6 p7 other (suc (suc (suc (suc (suc (suc zero)))))) = p6
by_code P p1 p2 p3 p4 p5 p6 p7 other (suc (suc (suc (suc (suc (suc (suc zero))))))) = p7
by_code P p1 p2 p3 p4 p5 p6 p7 other (suc (suc (suc (suc (suc (suc (suc (suc n)))))))) = other _ (simp unary_clauses at (beyond n))
  where
    beyond : (n : ℕ) → is_code (n + 8) ≡ false
    beyond n = rw (lt-leb (n + 8) 7 (omega arith), le-leb 1 (n + 8) (omega arith))

-- a step that leads out is delivery
out_step : (step : Step) (n : ℕ) (s : Signs) (b : Bool) → cond b (leads step n s) NotOffered ≡ Out → step ≡ Deliver
out_step step n s false e = clash cc
out_step Enter n s true e = clash cc
out_step Right n s true e = clash cc
out_step Left n s true e = clash cc
out_step Up n s true e = clash cc
out_step Down n s true e = clash cc
out_step Change n s true e = clash cc
out_step Deliver n s true e = refl

deliver_code : (c : ℕ) → step_of c ≡ Some Deliver → c ≡ 7
unfolding step_of
deliver_code =
    by_code (λ c. step_of c ≡ Some Deliver → c ≡ 7)
    (λ e. clash cc)
    (λ e. clash cc)
    (λ e. clash cc)
    (λ e. clash cc)
    (λ e. clash cc)
    (λ e. clash cc)
    (λ e. refl)
    (λ c u e. clash (cc (unknown-step c u)))
  where
    unknown-step : (c : ℕ) → is_code c ≡ false → step_of c ≡ None
    unknown-step c u =
        let other = other_code c u in
        simp (other 1 refl, other 2 refl, other 3 refl, other 4 refl, other 5 refl, other 6 refl, other 7 refl)

pub out_code : (profile : Profile) (p : Place) (d c : ℕ) → ruled profile p d c ≡ Out → c ≡ 7
unfolding ruled
out_code profile p d c = go (step_of c) refl
  where
    go : (step : Option Step) → step_of c ≡ step → ruled_for profile step p (signs_of p.node d) ≡ Out → c ≡ 7
    go None q e = clash cc
    go (Some step) q e =
        let s : Signs = signs_of p.node d in
        deliver_code c (q ∙ ap Some (out_step step p.node s (keeps profile step s p.kind && offers step s p.kind) e))

-- and it leads nowhere else
pub delivers : (profile : Profile) (p : Place) (d : ℕ) → (ruled profile p d 7 ≡ Out) ⊎ (ruled profile p d 7 ≡ NotOffered)
unfolding ruled step_of
delivers profile p d = go (keeps profile Deliver (signs_of p.node d) p.kind && offers Deliver (signs_of p.node d) p.kind)
  where
    go : (b : Bool) → (cond b Out NotOffered ≡ Out) ⊎ (cond b Out NotOffered ≡ NotOffered)
    go true = inl refl
    go false = inr refl

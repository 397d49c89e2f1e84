-- Progress, once for the three profiles: from every place the rule offers a move that leads on: from waiting the turn to A or B, in A a hop up, the
-- change to B or delivery, in B a hop down or delivery.
-- Assumes nothing.
use Prim.Native.Nat.{ℕ, ◌+◌, ◌-◌, ◌<◌, ◌≤◌}
use native.Mathlib.Omega.{arith}
use native.Mathlib.Decide.{dec_lt}
use mathlib.Core.Path.{◌≡◌, refl, ap, ◌∙◌}
use mathlib.Core.Bool.{Bool, true, false, not, cond, ◌||◌}
use mathlib.Core.Logic.{◌⊎◌, inl, inr}
use borrow.Author.Tests.{lt-ltb, le-ltb}
use Rattle.network.specs.declared.Kind.TheVariants.{Waiting, A, B}
use Rattle.network.specs.declared.Lead.TheVariants.{Hop, Turn, Out}
use Rattle.network.specs.Net.{at}
use Rattle.mesh.specs.declared.Profile.{Profile}
use Rattle.mesh.specs.declared.Step.TheVariants.{Enter, Right, Left, Up, Down, Change, Deliver}
use Rattle.mesh.specs.declared.Signs.{Signs}
use Rattle.mesh.specs.Grid.{x_of, y_of}
use Rattle.mesh.specs.Rule.{step_of, signs_of, settled_by, arrived_by, ruled}
use Rattle.mesh.proofs.Offers.{signs_are, settled_means, settled_by_lem, arrived_means, arrived_by_lem}
use Rattle.mesh.proofs.Profiles.{keeps_chosen}

-- at the destination delivery is offered, in A and in B
module _ (profile : Profile) (n : ℕ) where
  pub delivers_A : ruled profile (at n A) n 7 ≡ Out
  unfolding ruled step_of
  delivers_A = rw (keeps_chosen profile Deliver (signs_of n n) A refl refl, arrived_by_lem n n refl)

  pub delivers_B : ruled profile (at n B) n 7 ≡ Out
  unfolding ruled step_of
  delivers_B = rw (keeps_chosen profile Deliver (signs_of n n) B refl refl, arrived_by_lem n n refl)

module _ (profile : Profile) (h d : ℕ) where
  pub waiting_goes : (c : ℕ) × ((ruled profile (at h Waiting) d c ≡ Turn A) ⊎ (ruled profile (at h Waiting) d c ≡ Turn B))
  unfolding ruled step_of
  waiting_goes = (1, rw (keeps_chosen profile Enter (signs_of h d) Waiting refl refl) (go ((signs_of h d).right || (signs_of h d).up)))
    where
      go : (t : Bool) → (Turn (cond t A B) ≡ Turn A) ⊎ (Turn (cond t A B) ≡ Turn B)
      go true = inl refl
      go false = inr refl

  no_right : x_of d ≤ x_of h → (signs_of h d).right ≡ false
  no_right u = ap (λ (s : Signs). s.right) (signs_are h d) ∙ le-ltb _ _ u

  no_left : x_of h ≤ x_of d → (signs_of h d).left ≡ false
  no_left u = ap (λ (s : Signs). s.left) (signs_are h d) ∙ le-ltb _ _ u

  -- in A nothing is left to rise: at the destination delivery is offered, elsewhere the change
  turns : settled_by (signs_of h d) ≡ true → (t : Bool) → arrived_by (signs_of h d) ≡ t
      → (c : ℕ) × ((ruled profile (at h A) d c ≡ Out) ⊎ (ruled profile (at h A) d c ≡ Turn B))
  unfolding ruled step_of
  turns s true e = let here : h ≡ d = arrived_means h d e in (7, inl (rw here (delivers_A profile d)))
  turns s false e = (6, inr (rw (keeps_chosen profile Change (signs_of h d) A refl (ap not e), s)))

  pub A_goes : (c : ℕ) × ((ruled profile (at h A) d c ≡ Out) ⊎ ((ruled profile (at h A) d c ≡ Turn B)
      ⊎ ((n : ℕ) × (ruled profile (at h A) d c ≡ Hop n) × (x_of h + y_of h < x_of n + y_of n))))
  unfolding ruled step_of
  A_goes = elim (dec_lt (x_of h) (x_of d)) [
    | yes u ↦ (2, inr (inr (h + 1, rw (keeps_chosen profile Right (signs_of h d) A refl refl, signs_are h d, lt-ltb _ _ u), omega arith)))
    | no u ↦ elim (dec_lt (y_of h) (y_of d)) [
      | yes v ↦ (4, inr (inr (h + 16, rw (keeps_chosen profile Up (signs_of h d) A refl (ap not (no_right (omega arith))), signs_are h d, lt-ltb _ _ v), omega arith)))
      | no v ↦
          let t = turns (settled_by_lem h d (omega arith, omega arith)) (arrived_by (signs_of h d)) refl in (
            t.0,
            elim t.1 [
              | inl e ↦ inl e
              | inr e ↦ inr (inl e)
            ],
          )
    ]
  ]

  pub B_goes : settled_by (signs_of h d) ≡ true
      → (c : ℕ) × ((ruled profile (at h B) d c ≡ Out) ⊎ ((n : ℕ) × (ruled profile (at h B) d c ≡ Hop n) × (x_of n + y_of n < x_of h + y_of h)))
  unfolding ruled step_of
  B_goes s = elim (dec_lt (x_of d) (x_of h)) [
    | yes u ↦ (3, inr (h - 1, rw (keeps_chosen profile Left (signs_of h d) B refl refl, signs_are h d, lt-ltb _ _ u), omega arith))
    | no u ↦ elim (dec_lt (y_of d) (y_of h)) [
      | yes v ↦ (5, inr (h - 16, rw (keeps_chosen profile Down (signs_of h d) B refl (ap not (no_left (omega arith))), signs_are h d, lt-ltb _ _ v), omega arith))
      | no v ↦ let here : h ≡ d = omega (arith, settled_means h d s) in (7, inl (rw here (delivers_B profile d)))
    ]
  ]

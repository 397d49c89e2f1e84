-- What a refusal's number tells: the refusal, but for the place beside 10. So a numbered answer tells the result that a call returns in Rust, where
-- its number isn't 10; and which calls never answer 10.
-- Assumes nothing.
use Rattle.std.specs.Prelude.{Result, Ok, Err}
use Prim.Native.Nat.{ℕ}
use mathlib.Core.Path.{◌≡◌, refl, sym, ap, ◌∙◌}
use mathlib.Core.Logic.{◌≢◌, inl, inr}
use mathlib.Core.Bool.{Bool, false, cond, ◌||◌}
use lib.Dec.{eqb}
use borrow.Author.Tests.{eqb-false}
use Rattle.network.proofs.Tests.{neither}
use Rattle.table.specs.declared.refusals.Refusal.{Refusal}
use Rattle.table.specs.declared.refusals.Refusal.TheVariants.{Trailer, OutOfRange, Empty, Spoiled, NotOffered, NoRoom, AllTaken, Sizes, Buffer, Fault, NothingHeld, GivesWay}
use Rattle.table.specs.Refusals.{number_of, place_of}
use Rattle.table.specs.Calls.{Outcome, outcome}
use Rattle.table.proofs.RefusalLaws.{refused_by_lem}
use Rattle.table.proofs.CallLaws.{both}
use Rattle.judging.proofs.VerdictLaws.{number_not_zero}
use Rattle.promises.specs.Demand1.{Grounds, end, ground, First, Refuses}

-- ---- back from a number

abbrev pub named : ℕ → Refusal
named n =
    cond (eqb n 1) Trailer
    (cond (eqb n 2) OutOfRange
    (cond (eqb n 3) Empty
    (cond (eqb n 4) Spoiled
    (cond (eqb n 5) NotOffered
    (cond (eqb n 6) NoRoom
    (cond (eqb n 7) AllTaken
    (cond (eqb n 8) Sizes
    (cond (eqb n 9) Buffer
    (cond (eqb n 11) NothingHeld
    GivesWay)))))))))

-- a refusal but 10 is told by its number, and names no place
pub numbered : (e : Refusal) → number_of e ≢ 10 → (named (number_of e) ≡ e) × (place_of e ≡ 0)
unfolding number_of place_of
numbered Trailer u = (refl, refl)
numbered OutOfRange u = (refl, refl)
numbered Empty u = (refl, refl)
numbered Spoiled u = (refl, refl)
numbered NotOffered u = (refl, refl)
numbered NoRoom u = (refl, refl)
numbered AllTaken u = (refl, refl)
numbered Sizes u = (refl, refl)
numbered Buffer u = (refl, refl)
numbered (Fault place) u = absurd (u refl)
numbered NothingHeld u = (refl, refl)
numbered GivesWay u = (refl, refl)

pub refusal_told : (e e' : Refusal) → number_of e ≢ 10 → number_of e ≡ number_of e' → e ≡ e'
refusal_told e e' u q = sym (numbered e u).0 ∙ ap named q ∙ (numbered e' (λ t. u (q ∙ t))).0

-- a value beside 0, and else the refusal of the number
abbrev back : {A : Type 0} → ℕ → A → Result A Refusal
back n a = cond (eqb n 0) (Ok a) (Err (named n))

refused_back : {A : Type 0} (a : A) (e : Refusal) → number_of e ≢ 10 → back (number_of e) a ≡ Err e
refused_back a e u = refused_by_lem _ _ (number_not_zero e) ∙ ap Err (numbered e u).0

-- a numbered answer that has a result's number and, accepted, its value
module _ {A X : Type 0} (answer : Result A Refusal → X) (number : X → ℕ) (value : X → A)
    (accepted : (a : A) → back (number (answer (Ok a))) (value (answer (Ok a))) ≡ Ok a) (refused : (e : Refusal) → number (answer (Err e)) ≡ number_of e) where
  answer_back : (r : Result A Refusal) → number (answer r) ≢ 10 → back (number (answer r)) (value (answer r)) ≡ r
  answer_back (Ok a) u = accepted a
  answer_back (Err e) u =
      ap (λ (n : ℕ). back n (value (answer (Err e)))) (refused e) ∙ refused_back (value (answer (Err e))) e (λ v. u (refused e ∙ v))

  -- two results that one outcome tells are one, and so is what they leave
  module _ {B : Type 0} {r r' : Result A Refusal} {u u' : B} (o : Outcome X B) (never : number o.answer ≢ 10) where
    pub outcome_told : outcome (answer r) u ≡ o → outcome (answer r') u' ≡ o → (r ≡ r') × (u ≡ u')
    outcome_told h h' =
        let e = both o h h' in
        let told = λ (x : X). back (number x) (value x) in
        let unlike : number (answer r) ≢ 10 = λ t. never (ap (λ (x : Outcome X B). number x.answer) (sym h) ∙ t) in
        (sym (answer_back r unlike) ∙ ap told e.0 ∙ answer_back r' (λ t. unlike (ap number e.0 ∙ t)), e.1)

-- ---- conditions of which none has a number

abbrev pub names : ℕ → Grounds → Bool
names n end = eqb n 0
names n (ground m Condition rest) = eqb n m || names n rest

never_first : (n : ℕ) (g : Grounds) → names n g ≡ false → First g n → ⊥
never_first n end e f = eqb-false n 0 e f
never_first n (ground m Condition rest) e (inl a) = eqb-false n m (neither (eqb n m) (names n rest) e).0 a.1
never_first n (ground m Condition rest) e (inr a) = never_first n rest (neither (eqb n m) (names n rest) e).1 a.1

pub never_answers : {A B : Type 0} {number : A → ℕ} {Told : A → Type 0} {grounds : Grounds} {lent : B} {o : Outcome A B} (n : ℕ)
    → Refuses number Told grounds lent o → names n grounds ≡ false → number o.answer ≢ n
never_answers {grounds = grounds} n r e q = never_first n grounds e ((r.exactly n).0 q)

-- The calls that need a table which passes answer 1, then 10 with the first fault's place, then what their own conditions say.
-- Assumes nothing.
use Rattle.std.specs.Prelude.{Option, Some, None}
use Prim.Native.Nat.{ℕ}
use mathlib.Core.Path.{◌≡◌, refl, sym, ap, subst, ◌∙◌}
use mathlib.Core.Logic.{◌≢◌, inl, inr}
use mathlib.Core.List.{List}
use Rattle.trailer.specs.declared.Head.{Head}
use Rattle.trailer.specs.Trailer.{trailer_of}
use Rattle.survey.specs.Check.{fault_in, fault_or, unless_fault, read_by, on_passing}
use Rattle.calls.specs.Slices.{head_in, table_in, GoodIn}
use Rattle.promises.specs.Conditions.{FaultAt}
use Rattle.promises.specs.Demand1.{Grounds, First, check_grounds}
use Rattle.promises.proofs.Reading.{good_in, bad_in}
use Rattle.promises.proofs.Checked.{on_head}
use Rattle.promises.proofs.Faults.{fault_there, no_fault}

module _ {A : Type 0} (s : List ℕ) (bad : A) (fault : ℕ → A) (passes : Head → List ℕ → A) where
  -- what holds of each of the three answers holds of the one given
  pub by_passing : (P : A → Type 0) → ((GoodIn s → ⊥) → P bad) → (GoodIn s → (p : ℕ) → fault_in (head_in s) (table_in s) ≡ Some p → P (fault p))
      → (GoodIn s → fault_in (head_in s) (table_in s) ≡ None → P (passes (head_in s) (table_in s))) → P (on_passing s bad fault passes)
  by_passing P of-bad of-fault of-passes = on (trailer_of s) refl
    where
      by : GoodIn s → (r : Option ℕ) → fault_in (head_in s) (table_in s) ≡ r → P (fault_or fault (passes (head_in s) (table_in s)) r)
      by g (Some p) e = of-fault g p e
      by g None e = of-passes g e

      on : (t : Option Head) → trailer_of s ≡ t → P (on_passing s bad fault passes)
      on None e = subst P (sym (ap (read_by s bad (unless_fault fault passes)) e)) (of-bad (bad_in s e))
      on (Some h) e =
          let g = good_in s e in
          subst P (sym (on_head s bad (unless_fault fault passes) g)) (by g (fault_in (head_in s) (table_in s)) refl)

  pub passing_is : GoodIn s → fault_in (head_in s) (table_in s) ≡ None → on_passing s bad fault passes ≡ passes (head_in s) (table_in s)
  passing_is g e = on_head s bad (unless_fault fault passes) g ∙ ap (fault_or fault (passes (head_in s) (table_in s))) e

  module _ (number : A → ℕ) where
    -- the number answered is that of the first condition that holds
    pub first_passing : (rest : Grounds) → number bad ≡ 1 → ((p : ℕ) → number (fault p) ≡ 10)
        → (GoodIn s → fault_in (head_in s) (table_in s) ≡ None → First rest (number (passes (head_in s) (table_in s))))
        → First (check_grounds s rest) (number (on_passing s bad fault passes))
    first_passing rest one ten first =
        by_passing (λ a. First (check_grounds s rest) (number a)) (λ n. inl (n, one))
        (λ g p e. inr (λ n. n g, inl ((p, fault_there s g p e), ten p)))
        (λ g e. inr (λ n. n g, inr (λ f. no_fault s g f.0 e f.1, first g e)))

    -- and with 10 comes the place of the first fault
    pub fault_passing : (place : A → ℕ) → number bad ≢ 10 → ((p : ℕ) → place (fault p) ≡ p)
        → (GoodIn s → fault_in (head_in s) (table_in s) ≡ None → number (passes (head_in s) (table_in s)) ≢ 10)
        → number (on_passing s bad fault passes) ≡ 10 → FaultAt s (place (on_passing s bad fault passes))
    fault_passing place not-bad there not-passes =
        by_passing (λ a. number a ≡ 10 → FaultAt s (place a)) (λ n e. absurd (not-bad e))
        (λ g p e q. subst (FaultAt s) (sym (there p)) (fault_there s g p e))
        (λ g e q. absurd (not-passes g e q))

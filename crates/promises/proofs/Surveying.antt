-- Full check, find and copy outward refuse exactly where the paper says, and name a place with 10 alone.
-- Assumes nothing.
use Rattle.std.specs.Prelude.{None, Result, Ok, Err, ⊤}
use Prim.Native.Nat.{ℕ}
use mathlib.Core.Path.{◌≡◌, refl, ap, subst}
use mathlib.Core.Logic.{◌≢◌, inl, inr}
use mathlib.Core.Bool.{Bool, true, false, cond}
use mathlib.Core.List.{List}
use native.Mathlib.Omega.{arith}
use lib.Dec.{eqb}
use lib.ListN.{length}
use borrow.Author.Tests.{eqb-true, eqb-false}
use Rattle.table.specs.declared.refusals.Refusal.{Refusal}
use Rattle.table.specs.declared.refusals.Refusal.TheVariants.{Trailer, Fault, Buffer}
use Rattle.table.specs.Refusals.{number_of, place_of}
use Rattle.table.specs.Calls.{Outcome, outcome}
use Rattle.survey.specs.declared.finding.Move.{Move}
use Rattle.survey.specs.Check.{PlacedAnswer, check_answer, fault_in, checked_slice}
use Rattle.survey.specs.Find.{FindAnswer, find_answer, found_in, found_slice}
use Rattle.survey.specs.Copy.{copy_answer, veiled, copied_in, copied_slice}
use Rattle.survey.proofs.CopyLaws.{refused_unwritten}
use Rattle.calls.specs.Slices.{Bytes, head_in, table_in, GoodIn, slots_in}
use Rattle.promises.specs.Conditions.{NothingHeld}
use Rattle.calls.specs.Router.{Buffers}
use Rattle.promises.specs.Demand1.{end, ground, First, check_grounds, find_grounds, copy_grounds, Refuses, Placed}
use Rattle.promises.proofs.Results.{numbered}
use Rattle.promises.proofs.Checked.{unplaced}
use Rattle.promises.proofs.Tables.{table-long}
use Rattle.promises.proofs.Finding.{not_stuck, nothing_found}
use Rattle.promises.proofs.Grounds.{exactly_first}
use Rattle.promises.proofs.Passing.{passing_is, first_passing, fault_passing}

-- ---- full check

module _ (s : List ℕ) where
  check_first : First (check_grounds s end) (check_answer (checked_slice s)).number
  unfolding checked_slice number_of place_of
  check_first =
      first_passing s (Err Trailer) (λ p. Err (Fault p)) (λ h t. Ok tt) (λ c. (check_answer c).number) end refl (λ p. refl) (λ g e. refl)

  check_told : Placed s (check_answer (checked_slice s)).number (check_answer (checked_slice s)).place
  unfolding checked_slice number_of place_of
  check_told = (
    fault_passing s (Err Trailer) (λ p. Err (Fault p)) (λ h t. Ok tt) (λ c. (check_answer c).number) (λ c. (check_answer c).place)
        (λ e. omega arith) (λ p. refl) (λ g e. omega arith),
    unplaced (checked_slice s),
  )

  pub check_refuses : Refuses (λ (a : PlacedAnswer). a.number) (λ a. Placed s a.number a.place) (check_grounds s end) s
      (outcome (check_answer (checked_slice s)) s)
  check_refuses = record {
    exactly = exactly_first (check_grounds s end) (check_answer (checked_slice s)).number check_first;
    told = λ u. check_told;
    unchanged = λ u. refl;
  }

-- ---- find

-- a refusal but 10 names no slot, and none a code
no_move : (f : Result Move Refusal) → (find_answer f).number ≢ 0 → ((find_answer f).number ≢ 10 → (find_answer f).slot ≡ 0) × ((find_answer f).code ≡ 0)
no_move (Ok m) u = absurd (u refl)
no_move (Err e) u = (λ v. (numbered e v).1, refl)

module _ (s : List ℕ) where
  -- of a table that passes
  module _ (g : GoodIn s) (e : fault_in (head_in s) (table_in s) ≡ None) where
    passes : checked_slice s ≡ Ok tt
    unfolding checked_slice
    passes = passing_is s (Err Trailer) (λ p. Err (Fault p)) (λ h t. Ok tt) g e

    found_is : found_slice s ≡ found_in (head_in s) (table_in s)
    unfolding found_slice
    found_is = passing_is s (Err Trailer) (λ p. Err (Fault p)) found_in g e

    find_ten : (find_answer (found_in (head_in s) (table_in s))).number ≢ 10
    find_ten t = elim (not_stuck s passes) [
      | inl z ↦ let q = ap (λ (f : Result Move Refusal). (find_answer f).number) found_is in omega arith
      | inr z ↦ let q = ap (λ (f : Result Move Refusal). (find_answer f).number) found_is in omega arith
    ]

    passed_first : Bytes s → First (ground 11 (NothingHeld s) end) (find_answer (found_in (head_in s) (table_in s))).number
    passed_first b = subst (λ (f : Result Move Refusal). First (ground 11 (NothingHeld s) end) (find_answer f).number) found_is (elim (not_stuck s passes) [
      | inl z ↦ inr (λ h. let n = (nothing_found s passes b).1 h in omega arith, z)
      | inr z ↦ inl ((nothing_found s passes b).0 z, z)
    ])

  find_told : (find_answer (found_slice s)).number ≢ 0 → Placed s (find_answer (found_slice s)).number (find_answer (found_slice s)).slot
      × ((find_answer (found_slice s)).code ≡ 0)
  unfolding found_slice number_of place_of
  find_told u =
      let n = no_move (found_slice s) u in (
        (
          fault_passing s (Err Trailer) (λ p. Err (Fault p)) found_in (λ f. (find_answer f).number) (λ f. (find_answer f).slot) (λ e. omega arith) (λ p. refl) find_ten,
          n.0,
        ),
        n.1,
      )

  module _ (b : Bytes s) where
    find_first : First (find_grounds s) (find_answer (found_slice s)).number
    unfolding found_slice number_of
    find_first =
        first_passing s (Err Trailer) (λ p. Err (Fault p)) found_in (λ f. (find_answer f).number) (ground 11 (NothingHeld s) end) refl (λ p. refl)
        (λ g e. passed_first g e b)

    pub find_refuses : Refuses (λ (a : FindAnswer). a.number) (λ a. Placed s a.number a.slot × (a.code ≡ 0)) (find_grounds s) s
        (outcome (find_answer (found_slice s)) s)
    find_refuses = record {
      exactly = exactly_first (find_grounds s) (find_answer (found_slice s)).number find_first;
      told = find_told;
      unchanged = λ u. refl;
    }

-- ---- copy outward

module _ (s out : List ℕ) where
  abbrev number : Outcome (Result ⊤ Refusal) (List ℕ) → ℕ
  number o = (copy_answer o.answer).number

  abbrev place : Outcome (Result ⊤ Refusal) (List ℕ) → ℕ
  place o = (copy_answer o.answer).place

  -- of a table that passes, by the second buffer's length
  abbrev copy_by : Bool → Outcome (Result ⊤ Refusal) (List ℕ)
  copy_by b = cond b (outcome (Ok tt) (veiled (slots_in s) (table_in s))) (outcome (Err Buffer) out)

  copy_ten : GoodIn s → fault_in (head_in s) (table_in s) ≡ None → number (copied_in out (head_in s) (table_in s)) ≢ 10
  unfolding copied_in number_of
  copy_ten g e = go (eqb (length out) (length (table_in s)))
    where
      go : (b : Bool) → number (copy_by b) ≢ 10
      go true t = omega arith
      go false t = omega arith

  length-first : GoodIn s → First (ground 9 (length out ≢ (head_in s).size) end) (number (copied_in out (head_in s) (table_in s)))
  unfolding copied_in number_of
  length-first g = rw (table-long s g) (go (eqb (length out) (head_in s).size) refl)
    where
      go : (b : Bool) → eqb (length out) (head_in s).size ≡ b → First (ground 9 (length out ≢ (head_in s).size) end) (number (copy_by b))
      go true e = inr (λ u. u (eqb-true _ _ e), refl)
      go false e = inl (eqb-false _ _ e, refl)

  copy_first : First (copy_grounds s out) (number (copied_slice s out))
  unfolding copied_slice number_of place_of
  copy_first =
      first_passing s (outcome (Err Trailer) out) (λ p. outcome (Err (Fault p)) out) (copied_in out) number
      (ground 9 (length out ≢ (head_in s).size) end) refl (λ p. refl) (λ g e. length-first g)

  copy_told : Placed s (number (copied_slice s out)) (place (copied_slice s out))
  unfolding copied_slice number_of place_of
  copy_told = (
    fault_passing s (outcome (Err Trailer) out) (λ p. outcome (Err (Fault p)) out) (copied_in out) number place
        (λ e. omega arith) (λ p. refl) copy_ten,
    unplaced (copied_slice s out).answer,
  )

  copy_unwritten : number (copied_slice s out) ≢ 0 → (copied_slice s out).bytes ≡ out
  copy_unwritten u = refused_unwritten s out (λ e. u (ap (λ (c : Result ⊤ Refusal). (copy_answer c).number) e))

  pub copy_refuses :
      let o = copied_slice s out in
      Refuses {B = Buffers} (λ (a : PlacedAnswer). a.number) (λ a. Placed s a.number a.place) (copy_grounds s out) record { slice = s; second = out }
      (outcome (copy_answer o.answer) record { slice = s; second = o.bytes })
  copy_refuses = record {
    exactly = exactly_first (copy_grounds s out) (number (copied_slice s out)) copy_first;
    told = λ u. copy_told;
    unchanged = λ u. ap (λ (w : List ℕ). record { slice = s; second = w }) (copy_unwritten u);
  }

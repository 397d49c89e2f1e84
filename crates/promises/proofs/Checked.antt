-- Demand 3 of every slice of bytes for which the full check's own answer is 'passes', under proposed moves.
-- Assumes nothing.
use Rattle.std.specs.Prelude.{Option, Some, None, Result, Ok, Err, ⊤}
use Prim.Native.Nat.{ℕ, ◌-◌, ◌<◌, ◌^◌}
use mathlib.Core.Path.{◌≡◌, refl, sym, ap, ◌∙◌}
use mathlib.Core.Logic.{◌≢◌}
use mathlib.Core.List.{List}
use native.Mathlib.Omega.{arith}
use lib.ListN.{length, get_or}
use lib.Seq.{get_or-drop}
use Rattle.network.specs.Contents.{Passing}
use Rattle.network.specs.View.{contents}
use Rattle.network.specs.Run.{trace}
use Rattle.network.specs.Drain.{Drains}
use Rattle.network.proofs.Tests.{clash}
use Rattle.slots.proofs.ByteLaws.{byte_small}
use Rattle.trailer.specs.declared.Head.{Head}
use Rattle.trailer.specs.Trailer.{trailer_of, last16}
use Rattle.trailer.proofs.TrailerLaws.{trailer_good}
use Rattle.trailer.proofs.CountLaws.{delivering}
use Rattle.table.specs.declared.refusals.Refusal.{Refusal}
use Rattle.table.specs.declared.refusals.Refusal.TheVariants.{Trailer, Fault}
use Rattle.judging.proofs.VerdictLaws.{number_not_zero}
use Rattle.survey.specs.Check.{unless_fault, read_by, fault_in, checked_in, checked_slice, check_answer}
use Rattle.survey.proofs.CheckLaws.{passes_fault, fault_passes}
use Rattle.survey.proofs.Meaning.{passes_means, means_passes}
use Rattle.calls.specs.Slices.{Bytes, head_in, GoodIn, table_in, layout_in, net_in, see, contents_in}
use Rattle.promises.proofs.Results.{numbered}
use Rattle.promises.proofs.Reading.{table_is, good_in, good_is}
use Rattle.promises.proofs.Proposals.{Proposal, answering}
use Rattle.promises.proofs.Slices.{slices_drain, slices_fit}

-- a count of four bytes
pub taken_small : (s : List ℕ) {h : Head} → Bytes s → trailer_of s ≡ Some h → h.taken < 2 ^ 32
taken_small s b e =
    let at : (i : ℕ) → get_or (last16 s) i 0 < 256 = λ i. rw (get_or-drop (length s - 16) s i 0) (byte_small s b _) in
    rw (trailer_good s e).read (omega (arith, at 4, at 5, at 6, at 7))

-- a call that needs a passing table reads the slice by its head
pub on_head : {A : Type 0} (s : List ℕ) (bad : A) (f : Head → List ℕ → A) → GoodIn s → read_by s bad f (trailer_of s) ≡ f (head_in s) (table_in s)
on_head s bad f g = let e = good_is s g in ap (read_by s bad f) e ∙ ap (f (head_in s)) (sym (table_is s e))

-- a slice that passes has a good trailer
pub passing_good : (s : List ℕ) → checked_slice s ≡ Ok tt → GoodIn s
unfolding checked_slice
passing_good s c = go (trailer_of s) refl c
  where
    go : (t : Option Head) → trailer_of s ≡ t → ◌≡◌ {A = Result ⊤ Refusal} (read_by s (Err Trailer) (unless_fault (λ p. Err (Fault p)) (λ h t. Ok tt)) t) (Ok tt)
        → GoodIn s
    go None e f = clash cc
    go (Some h) e f = good_in s e

-- under a good trailer the check is that of the table
pub checked_is : (s : List ℕ) → GoodIn s → checked_slice s ≡ checked_in (head_in s) (table_in s)
unfolding checked_slice checked_in
checked_is s g = on_head s (Err Trailer) (unless_fault (λ p. Err (Fault p)) (λ h t. Ok tt)) g

pub faultless_in : (s : List ℕ) → checked_slice s ≡ Ok tt → fault_in (head_in s) (table_in s) ≡ None
faultless_in s c = passes_fault (head_in s) (table_in s) (sym (checked_is s (passing_good s c)) ∙ c)

pub passing_in : (s : List ℕ) → checked_slice s ≡ Ok tt → Passing (net_in s) (contents_in s)
passing_in s c = let g = passing_good s c in passes_means (head_in s) (table_in s) g.ranges g.counts (faultless_in s c)

pub passes_in : (s : List ℕ) → GoodIn s → Passing (net_in s) (contents_in s) → checked_slice s ≡ Ok tt
passes_in s g p = checked_is s g ∙ fault_passes (head_in s) (table_in s) (means_passes (head_in s) (table_in s) p)

-- the answer's number says it
pub number_passes : (c : Result ⊤ Refusal) → (check_answer c).number ≡ 0 → c ≡ Ok tt
number_passes (Ok a) z = refl
number_passes (Err e) z = absurd (number_not_zero e z)

-- only 10 names a place
pub unplaced : (c : Result ⊤ Refusal) → (check_answer c).number ≢ 10 → (check_answer c).place ≡ 0
unplaced (Ok a) u = refl
unplaced (Err e) u = (numbered e u).1

module _ (s : List ℕ) (b : Bytes s) (c : checked_slice s ≡ Ok tt) (calls : List Proposal) where
  head : trailer_of s ≡ Some (head_in s)
  head = good_is s (passing_good s c)

  pub checked_drain : Drains (net_in s) (λ u. contents (layout_in s) (see u)) answering s calls
  checked_drain = slices_drain s (head_in s) head (taken_small s b head) (passing_in s c) calls

  pub checked_fit : (d : ℕ) × (trailer_of (trace answering s calls).last ≡ Some (delivering (head_in s) d))
  checked_fit = slices_fit s (head_in s) head (taken_small s b head) (passing_in s c) calls

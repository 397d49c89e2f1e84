-- The shape of a call: a refusal or what is done, by the first row that is due; where the table lent on lies in the slice; and that two outcomes of one
-- definition are equal.
-- Assumes nothing.
use Rattle.std.specs.Prelude.{Some, None}
use Prim.Native.Nat.{ℕ, ◌-◌, ◌≤◌}
use mathlib.Core.Path.{◌≡◌, refl, sym, ap, ◌∙◌}
use mathlib.Core.Logic.{◌≢◌}
use mathlib.Core.List.{List}
use native.Mathlib.Decide.{ℕ_discrete}
use lib.ListN.{length, take, drop}
use Rattle.slots.proofs.Parts.{lent_rest}
use Rattle.board.specs.Layout.{Sized}
use Rattle.trailer.specs.declared.Head.{Head}
use Rattle.trailer.specs.Trailer.{trailer_of}
use Rattle.trailer.proofs.TrailerLaws.{trailer_good, trailer_sized}
use Rattle.table.proofs.RefusalLaws.{accepted_by, refused_by_lem}
use Rattle.table.specs.Refusals.{Row, first_due, trailer_not_good}
use Rattle.table.specs.Calls.{Outcome, outcome, answered, after, on_headed, on_table}

-- the first row that is due decides
module _ {A B : Type 0} (rows : List Row) (refusal : ℕ → A) (lent : B) (done : Outcome A B) where
  pub answered-done : first_due rows ≡ 0 → answered rows refusal lent done ≡ done
  answered-done e = accepted_by _ _ e

  pub answered_refused : {n : ℕ} → first_due rows ≡ n → n ≢ 0 → answered rows refusal lent done ≡ outcome (refusal n) lent
  answered_refused e u = refused_by_lem _ _ (λ z. u (sym e ∙ z)) ∙ ap (λ (k : ℕ). outcome (refusal k) lent) e

-- the answer's number is that of the first row that is due; where none is, what is done answers 0
pub answered-number : {A B : Type 0} (number : A → ℕ) (refusal : ℕ → A) → ((n : ℕ) → number (refusal n) ≡ n) → (rows : List Row) (lent : B) (done : Outcome A B)
    → (first_due rows ≡ 0 → number done.answer ≡ 0) → number (answered rows refusal lent done).answer ≡ first_due rows
answered-number number refusal named rows lent done zero = elim (ℕ_discrete (first_due rows) 0) [
  | yes e ↦ ap (λ o. number o.answer) (answered-done rows refusal lent done e) ∙ zero e ∙ sym e
  | no u ↦ ap (λ o. number o.answer) (answered_refused rows refusal lent done refl u) ∙ named (first_due rows)
]

pub on_table_bad : {A : Type 0} (s : List ℕ) (refusal : ℕ → A) (f : Head → List ℕ → Outcome A (List ℕ)) → trailer_of s ≡ None → on_table s refusal f ≡ outcome (refusal trailer_not_good) s
on_table_bad s refusal f e = ap (on_headed s refusal f) e

pub on_table_good : {A : Type 0} (s : List ℕ) (refusal : ℕ → A) (f : Head → List ℕ → Outcome A (List ℕ)) (h : Head) → trailer_of s ≡ Some h
    → on_table s refusal f ≡ after (take (length s - h.size) s) (f h (drop (length s - h.size) s))
on_table_good s refusal f h e = ap (on_headed s refusal f) e

module _ (s : List ℕ) (h : Head) (e : trailer_of s ≡ Some h) where
  pub start_in : h.size ≤ length s
  start_in = (trailer_good s e).size_in

  pub lent_sized : Sized h.board (take (length s - (length s - h.size)) (drop (length s - h.size) s))
  lent_sized = rw (lent_rest s (length s - h.size)) (trailer_sized s e)

-- two answers that equal one definition are equal
pub one : {A : Type 0} {r r' : A} (d : A) → r ≡ d → r' ≡ d → r ≡ r'
one d h h' = h ∙ sym h'

-- of an answer, and of the bytes left
pub both : {A B : Type 0} {r r' : A} {u u' : B} (o : Outcome A B) → outcome r u ≡ o → outcome r' u' ≡ o → (r ≡ r') × (u ≡ u')
both o h h' = let e = one o h h' in (ap (λ x. x.answer) e, ap (λ x. x.bytes) e)

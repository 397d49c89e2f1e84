-- A refused call answers its number, zeros beside it, and leaves every byte as it was.
-- Assumes nothing.
use Rattle.std.specs.Prelude.{Option, Some, None}
use Prim.Native.Nat.{ℕ, ◌-◌}
use mathlib.Core.Path.{◌≡◌, refl, sym, ap, ◌∙◌}
use mathlib.Core.Logic.{◌≢◌}
use mathlib.Core.List.{List}
use native.Mathlib.Decide.{ℕ_discrete}
use lib.ListN.{length, take, drop, take-append-drop}
use Rattle.board.specs.declared.Board.{Board}
use Rattle.trailer.specs.declared.Head.{Head}
use Rattle.trailer.specs.Trailer.{trailer_of}
use Rattle.table.specs.Refusals.{Row, first_due, trailer_not_good}
use Rattle.table.specs.Calls.{Outcome, outcome, answered, after, on_headed, on_table}
use Rattle.table.proofs.CallLaws.{answered-done, answered_refused}
use Rattle.judging.specs.Named.{slot_rows}
use Rattle.judging.specs.Takings.{take_rows}
use Rattle.router.specs.Clear.{used, clear_rows, cleared_as, cleared_slice}
use Rattle.router.specs.TakeIn.{TakeAnswer, refusal as take_refusal, took_in, taken_in, taken_slice}
use Rattle.router.specs.Move.{MoveAnswer, refusal as move_refusal, moved_in, moved_slice}
use Rattle.router.specs.ReadPayload.{Reading, refusal as read_refusal, read_in, read_slice}
use Rattle.router.proofs.MoveLaws.{moved_refused, moved_number}

-- a refusal: its number, the rest of its answer, and the bytes as they were
abbrev pub Refused : {A : Type 0} → (A → ℕ) → (ℕ → A) → List ℕ → Outcome A (List ℕ) → Type 0
Refused number refusal s o = number o.answer ≢ 0 → o ≡ outcome (refusal (number o.answer)) s

module _ {A : Type 0} (number : A → ℕ) (refusal : ℕ → A) (named : (n : ℕ) → number (refusal n) ≡ n) where
  -- a call of the one shape, which answers 0 where it is done
  by_rows : (rows : List Row) (done : Outcome A (List ℕ)) (t : List ℕ) → number done.answer ≡ 0 → Refused number refusal t (answered rows refusal t done)
  by_rows rows done t zero u = elim (ℕ_discrete (first_due rows) 0) [
    | yes e ↦ absurd (u (ap (λ (o : Outcome A (List ℕ)). number o.answer) (answered-done rows refusal t done e) ∙ zero))
    | no v ↦
        let r = answered_refused rows refusal t done refl v in
        let m = ap (λ (o : Outcome A (List ℕ)). number o.answer) r ∙ named (first_due rows) in
        r ∙ ap (λ (m : ℕ). outcome (refusal m) t) (sym m)
  ]

  -- on a slice: a call that leaves its table as it was where it refuses leaves the slice as it was
  sliced : (s : List ℕ) (f : Head → List ℕ → Outcome A (List ℕ)) → ((h : Head) (t : List ℕ) → Refused number refusal t (f h t))
      → Refused number refusal s (on_table s refusal f)
  sliced s f same = go (trailer_of s)
    where
      go : (t : Option Head) → Refused number refusal s (on_headed s refusal f t)
      go None u = ap (λ (m : ℕ). outcome (refusal m) s) (sym (named trailer_not_good))
      go (Some h) u =
          let t = drop (length s - h.size) s in
          let before = take (length s - h.size) s in
          ap (after before) (same h t u) ∙ ap (outcome (refusal (number (f h t).answer))) (take-append-drop (length s - h.size) s)

pub clear_refused : (s : List ℕ) (b : Board) → Refused (λ (n : ℕ). n) (λ n. n) s (cleared_slice s b)
unfolding cleared_slice cleared_as
clear_refused s b = by_rows (λ n. n) (λ n. n) (λ n. refl) (clear_rows s (used b)) _ s refl

pub take_refused : (s : List ℕ) (source destination : ℕ) (payload : List ℕ)
    → Refused (λ (a : TakeAnswer). a.number) take_refusal s (taken_slice s source destination payload)
unfolding taken_slice taken_in took_in
take_refused s source destination payload =
    sliced (λ a. a.number) take_refusal (λ n. refl) s (λ h t. taken_in h t source destination payload)
    (λ h t. by_rows (λ a. a.number) take_refusal (λ n. refl) (take_rows h t source destination) _ t refl)

moved_refusal : (h : Head) (t : List ℕ) (slot code : ℕ) → Refused (λ (a : MoveAnswer). a.number) move_refusal t (moved_in h t slot code)
moved_refusal h t slot code u =
    let m = moved_number h t slot code in
    moved_refused h t slot code refl (λ e. u (m ∙ e)) ∙ ap (λ (n : ℕ). outcome (move_refusal n) t) (sym m)

pub move_refused : (s : List ℕ) (slot code : ℕ) → Refused (λ (a : MoveAnswer). a.number) move_refusal s (moved_slice s slot code)
unfolding moved_slice
move_refused s slot code = sliced (λ a. a.number) move_refusal (λ n. refl) s (λ h t. moved_in h t slot code) (λ h t. moved_refusal h t slot code)

pub read_refused : (s : List ℕ) (slot : ℕ) → Refused (λ (a : Reading). a.number) read_refusal s (read_slice s slot)
unfolding read_slice read_in
read_refused s slot =
    sliced (λ a. a.number) read_refusal (λ n. refl) s (λ h t. read_in h t slot)
    (λ h t. by_rows (λ a. a.number) read_refusal (λ n. refl) (slot_rows h t slot) _ t refl)

-- Where a payload is read it has eight bytes, and what crosses of a refusal.
-- Assumes nothing.
use Rattle.std.specs.Prelude.{Option, Some, None}
use Prim.Native.Nat.{ℕ, ◌-◌}
use mathlib.Core.Path.{◌≡◌, refl, sym, ap, ◌∙◌}
use mathlib.Core.Logic.{◌≢◌}
use mathlib.Core.List.{List}
use native.Mathlib.Omega.{arith}
use native.Mathlib.Decide.{ℕ_discrete}
use lib.ListN.{length, drop, replicate}
use Rattle.network.proofs.Tests.{clash}
use Rattle.slots.specs.Slots.{slot_at}
use Rattle.slots.proofs.Parts.{length_part}
use Rattle.slots.proofs.SlotLaws.{length-slot_at}
use Rattle.board.specs.Layout.{Sized}
use Rattle.board.proofs.BoardLaws.{slot_fits}
use Rattle.trailer.specs.declared.Head.{Head}
use Rattle.trailer.specs.Trailer.{trailer_of}
use Rattle.trailer.proofs.TrailerLaws.{trailer_sized}
use Rattle.table.specs.Calls.{Outcome, on_headed}
use Rattle.table.proofs.RefusalLaws.{refused_by_lem}
use Rattle.judging.specs.Named.{slot_due}
use Rattle.judging.proofs.NamedLaws.{due_named}
use Rattle.router.specs.ReadPayload.{Reading, reading, refusal, read_in, read_slice}
use Rattle.router.proofs.ReadLaws.{read_refused, read_done}
use Rattle.paneglove.specs.declared.Read.{Read}
use Rattle.paneglove.specs.Across.{read_across}

abbrev number_of : Outcome Reading (List ℕ) → ℕ
number_of o = o.answer.number

abbrev length_of : Outcome Reading (List ℕ) → ℕ
length_of o = length o.answer.bytes

eight_in : (h : Head) (t : List ℕ) (k : ℕ) → Sized h.board t → number_of (read_in h t k) ≡ 0 → length_of (read_in h t k) ≡ 8
eight_in h t k z e = elim (ℕ_discrete (slot_due h t k) 0) [
  | yes d ↦
      let l = length-slot_at t k (slot_fits z k (due_named h t k d).inside) in
      ap length_of (read_done h t k d) ∙ length_part (slot_at t k) 8 8 (omega (arith, l))
  | no d ↦ absurd (d (sym (ap number_of (read_refused h t k refl d)) ∙ e))
]

pub eight : (s : List ℕ) (k : ℕ) → number_of (read_slice s k) ≡ 0 → length_of (read_slice s k) ≡ 8
unfolding read_slice
eight s k e = go (trailer_of s) refl e
  where
    go : (x : Option Head) → trailer_of s ≡ x → number_of (on_headed s refusal (λ h t. read_in h t k) x) ≡ 0
        → length_of (on_headed s refusal (λ h t. read_in h t k) x) ≡ 8
    go None q e = clash (sym e)
    go (Some h) q e = eight_in h (drop (length s - h.size) s) k (trailer_sized s q) e

-- ---- what crosses

abbrev pub answered : ℕ → List ℕ → Read
answered number payload = record { number = number; payload = payload }

pub crosses_refused : (n : ℕ) (bytes : List ℕ) → n ≢ 0 → answered n (replicate 8 0) ≡ read_across (reading n bytes)
crosses_refused n bytes u = ap (answered n) (sym (refused_by_lem bytes _ u))

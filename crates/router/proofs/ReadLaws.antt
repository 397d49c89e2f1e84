-- What a reading of a payload comes to by what is due, and where its part lies: addresses some bytes further.
-- Assumes nothing.
use Rattle.std.specs.Prelude.{Option, Some, IfSome, option_map}
use Prim.Native.Nat.{ℕ, ◌+◌, ◌-◌, ◌*◌}
use mathlib.Core.Path.{◌≡◌, sym, ap, ◌∙◌}
use mathlib.Core.Logic.{◌≢◌}
use mathlib.Core.List.{List}
use native.Mathlib.Omega.{arith}
use lib.ListN.{length, drop}
use Rattle.slots.specs.Bytes.{part}
use Rattle.slots.specs.Slots.{slot_at}
use Rattle.trailer.specs.declared.Head.{Head}
use Rattle.trailer.specs.declared.headed.Table.{Table}
use Rattle.trailer.specs.Trailer.{trailer_of}
use Rattle.table.specs.Calls.{Outcome, outcome}
use Rattle.table.proofs.RefusalLaws.{accepted_by}
use Rattle.table.proofs.CallLaws.{answered-done, answered_refused, on_table_good}
use Rattle.judging.specs.Named.{slot_rows, slot_due}
use Rattle.router.specs.ReadPayload.{Reading, reading, refusal, read_in, read_slice, further, offset_in, offset_by, offset_in_slice}

module _ (h : Head) (t : List ℕ) (k : ℕ) where
  pub read_refused : {n : ℕ} → slot_due h t k ≡ n → n ≢ 0 → read_in h t k ≡ outcome (refusal n) t
  unfolding read_in slot_due
  read_refused e u = answered_refused (slot_rows h t k) refusal t _ e u

  pub read_done : slot_due h t k ≡ 0 → read_in h t k ≡ outcome (reading 0 (part (slot_at t k) 8 8)) t
  unfolding read_in slot_due
  read_done e = answered-done (slot_rows h t k) refusal t _ e

  pub offset-done : slot_due h t k ≡ 0 → offset_in h t k ≡ 16 * k + 8
  unfolding offset_in slot_due
  offset-done e = accepted_by _ _ e

-- a good trailer's table answers for the whole slice
module _ (s : List ℕ) (k : ℕ) {r : Option Table} {t : Table} (is : r ≡ Some t) (head : option_map (λ t. t.head) r ≡ trailer_of s)
    (bytes : IfSome r (λ t. t.bytes.now ≡ drop (length s - t.head.size) s)) where
  abbrev h : Head
  h = t.head

  e : Some h ≡ trailer_of s
  e = rw is at head

  l : t.bytes.now ≡ drop (length s - h.size) s
  l = rw is at bytes

  pub slice_answers : (read_slice s k).answer ≡ (read_in h t.bytes.now k).answer
  unfolding read_slice
  slice_answers = ap (λ (o : Outcome Reading (List ℕ)). o.answer) (on_table_good s refusal (λ h t. read_in h t k) h (sym e)) ∙ ap (λ (u : List ℕ). (read_in h u k).answer) (sym l)

  pub slice_offset : offset_in_slice s k ≡ offset_in h t.bytes.now k + (length s - h.size)
  unfolding offset_in_slice
  slice_offset = ap (offset_by s k) (sym e) ∙ ap (λ (u : List ℕ). offset_in h u k + (length s - h.size)) (sym l)

pub further-both : (p : ℕ × ℕ) (n m : ℕ) → further (further p n) m ≡ further p (m + n)
further-both p n m = let q : m + (n + p.1) ≡ m + n + p.1 = omega arith in λ i. (p.0, q i)

-- Laws of what is sent outward: which of the two, by the input's length, its trailer and the copy's own answer; and both laid into buffers.
-- Assumes nothing.
use Rattle.std.specs.Prelude.{Option, Some, None, Result, Ok, Err, ⊤}
use Prim.Native.Nat.{ℕ, ◌-◌, ◌≤◌, ◌<◌}
use mathlib.Core.Path.{◌≡◌, refl, sym, ap, ◌∙◌}
use mathlib.Core.Bool.{true, ◌||◌}
use mathlib.Core.List.{List, [], ◌++◌}
use native.Mathlib.Omega.{arith}
use lib.Dec.{ltb}
use lib.ListN.{length, take, drop, length-append}
use lib.Seq.{length-take-le}
use borrow.Author.Tests.{lt-ltb, le-ltb, eq-eqb}
use Rattle.network.proofs.Tests.{clash, cond_true, cond_false}
use Rattle.board.specs.Layout.{layout_of}
use Rattle.board.proofs.BoardLaws.{slots_most, slots_inside}
use Rattle.trailer.specs.declared.Head.{Head}
use Rattle.trailer.specs.Trailer.{trailer_of}
use Rattle.trailer.proofs.TrailerLaws.{trailer_good, trailer_sized, length-table}
use Rattle.table.specs.declared.refusals.Refusal.{Refusal}
use Rattle.table.specs.declared.refusals.Refusal.TheVariants.{Trailer, Buffer, Fault}
use Rattle.table.specs.Calls.{Outcome, outcome}
use Rattle.table.proofs.CallLaws.{both}
use Rattle.survey.specs.Check.{fault_in, fault_or, unless_fault, read_by, on_passing}
use Rattle.survey.specs.Copy.{veiled, copied_in, copied_slice}
use Rattle.survey.proofs.ShownLaws.{length-veiled}
use Rattle.listing.specs.declared.sending.Sent.{Sent}
use Rattle.listing.specs.declared.sending.Sent.TheVariants.{Copy, Words}
use Rattle.listing.specs.Output.{most, verdict, line_room}
use Rattle.listing.specs.Outward.{Sending, copy_alone, words_alone, withheld, copy_of, sent_of, copy_room, laid, send_answer, sent_into}

-- ---- which of the two

module _ (s : List ℕ) where
  pub sent-long : most < length s → sent_of s ≡ words_alone (verdict s)
  unfolding sent_of
  sent-long l = cond_true _ _ (lt-ltb most (length s) l)

  -- the copy, or words
  abbrev pub sent_by : List ℕ → Sending
  sent_by words = on_passing s (words_alone words) (withheld words) copy_of

  module _ (l : length s ≤ most) where
    pub sent_read : sent_of s ≡ sent_by (verdict s)
    unfolding sent_of
    sent_read = cond_false _ _ (le-ltb most (length s) l)

    abbrev asked : Head → List ℕ → Sending
    asked = unless_fault (withheld (verdict s)) copy_of

    pub sent_bad : trailer_of s ≡ None → sent_of s ≡ words_alone (verdict s)
    sent_bad e = sent_read ∙ ap (read_by s (words_alone (verdict s)) asked) e

    module _ (h : Head) (e : trailer_of s ≡ Some h) where
      abbrev table : List ℕ
      table = drop (length s - h.size) s

      pub copy_fits : h.size ≤ copy_room
      copy_fits = let g = trailer_good s e in omega (arith, g.size_is, slots_most h.board g.ranges)

      sent_is : (x : Option ℕ) → fault_in h table ≡ x → sent_of s ≡ fault_or (withheld (verdict s)) (copy_of h table) x
      sent_is x f =
          sent_read ∙ ap (read_by s (words_alone (verdict s)) asked) e ∙ ap (fault_or (withheld (verdict s)) (copy_of h table)) f

      -- of a copy into a buffer of the table's length
      module _ (o : List ℕ) (m : length o ≡ h.size) {c : Result ⊤ Refusal} {b : List ℕ} (q : outcome c b ≡ copied_slice s o) where
        abbrev fault : ℕ → Outcome (Result ⊤ Refusal) (List ℕ)
        fault place = outcome (Err (Fault place)) o

        copied_is : (x : Option ℕ) → fault_in h table ≡ x → outcome c b ≡ fault_or fault (copied_in o h table) x
        unfolding copied_slice
        copied_is x f =
            q ∙ ap (read_by s (outcome (Err Trailer) o) (unless_fault fault (copied_in o))) e ∙ ap (fault_or fault (copied_in o h table)) f

        copied_all : fault_in h table ≡ None → outcome c b ≡ outcome (Ok tt) (veiled (layout_of h.board).size table)
        unfolding copied_in
        copied_all f = copied_is None f ∙ cond_true _ _ (eq-eqb _ _ (m ∙ sym (length-table s e)))

        pub sent_refused : (c ≡ Ok tt → ⊥) → (sent_of s ≡ words_alone (verdict s)) × (b ≡ o)
        sent_refused k = go (fault_in h table) refl
          where
            go : (x : Option ℕ) → fault_in h table ≡ x → (sent_of s ≡ words_alone (verdict s)) × (b ≡ o)
            go None f = absurd (k (both _ (copied_all f) refl).0)
            go (Some place) f = (sent_is (Some place) f, (both _ (copied_is (Some place) f) refl).1)

        pub sent-done : c ≡ Ok tt → (sent_of s ≡ copy_alone b) × (length b ≡ h.size)
        sent-done k = go (fault_in h table) refl
          where
            go : (x : Option ℕ) → fault_in h table ≡ x → (sent_of s ≡ copy_alone b) × (length b ≡ h.size)
            go None f =
                let v : b ≡ veiled (layout_of h.board).size table = (both _ (copied_all f) refl).1 in
                let long = length-veiled (layout_of h.board).size table (slots_inside (trailer_sized s e)) in
                (rw v (sent_is None f), rw v (long ∙ length-table s e))
            go (Some place) f = let refused = (both _ (copied_is (Some place) f) refl).0 in clash cc

-- ---- both laid into buffers

-- what the call ensures
abbrev Ensured : List ℕ → List ℕ → List ℕ → Result Sent Refusal → List ℕ → List ℕ → Type 0
Ensured s out line r e f =
    (outcome r (e, f) ≡ sent_into s out line)
    × (((send_answer r).copy ≤ length e)
    × (((send_answer r).copy ≡ length (take (send_answer r).copy e))
    × (((send_answer r).words ≤ length f) × ((send_answer r).words ≡ length (take (send_answer r).words f)))))

starts : {n : ℕ} {e : List ℕ} (v w : List ℕ) → n ≡ length v → e ≡ v ++ w → (n ≤ length e) × (n ≡ length (take n e))
starts {n} {e} v w p q =
    let l : n ≤ length e = rw q (omega (arith, length-append v w)) in
    (l, sym (length-take-le n e l))

module _ (s out line : List ℕ) where
  pub words_laid : sent_of s ≡ words_alone (verdict s) → {r : Sent} {f : List ℕ}
      → r ≡ Words (length (verdict s))
      → f ≡ verdict s ++ drop (length (verdict s)) line
      → outcome (Ok r) (out, f) ≡ laid (sent_of s) out line
  words_laid e p q = rw (e, p, q)

  pub copy_laid : (b : List ℕ) {size : ℕ} → (sent_of s ≡ copy_alone b) × (length b ≡ size)
      → outcome (Ok (Copy size)) (b ++ drop size out, line) ≡ laid (sent_of s) out line
  copy_laid b d = rw (d.0, ← d.1)

  -- one of the buffers is short, or neither
  not_sent : (ltb (length out) copy_room || ltb (length line) line_room) ≡ true → outcome (Err Buffer) (out, line) ≡ sent_into s out line
  unfolding sent_into
  not_sent l = sym (cond_true _ _ l)

  pub short : length out < copy_room → outcome (Err Buffer) (out, line) ≡ sent_into s out line
  short l = not_sent (rw (lt-ltb (length out) copy_room l))

  pub short_line : copy_room ≤ length out → length line < line_room → outcome (Err Buffer) (out, line) ≡ sent_into s out line
  short_line k l = not_sent (rw (le-ltb (length out) copy_room k, lt-ltb (length line) line_room l))

  pub sent_all : {r : Result Sent Refusal} {e f : List ℕ} → copy_room ≤ length out → line_room ≤ length line
      → outcome r (e, f) ≡ laid (sent_of s) out line
      → Ensured s out line r e f
  unfolding sent_into
  sent_all {r} {e} {f} k l p =
      let b = by (sent_of s) p in
      (p ∙ sym (rw (le-ltb (length out) copy_room k, le-ltb (length line) line_room l)), (b.0.0, (b.0.1, (b.1.0, b.1.1))))
    where
      by : (x : Sending) → outcome r (e, f) ≡ laid x out line
          → (((send_answer r).copy ≤ length e) × ((send_answer r).copy ≡ length (take (send_answer r).copy e)))
          × (((send_answer r).words ≤ length f) × ((send_answer r).words ≡ length (take (send_answer r).words f)))
      by (copy_alone t) q =
          let d = both _ q refl in (
            starts t _ (ap (λ (x : Result Sent Refusal). (send_answer x).copy) d.0) (ap (λ (x : List ℕ × List ℕ). x.0) d.1),
            starts [] f (ap (λ (x : Result Sent Refusal). (send_answer x).words) d.0) refl,
          )
      by (words_alone t) q =
          let d = both _ q refl in (
            starts [] e (ap (λ (x : Result Sent Refusal). (send_answer x).copy) d.0) refl,
            starts t _ (ap (λ (x : Result Sent Refusal). (send_answer x).words) d.0) (ap (λ (x : List ℕ × List ℕ). x.1) d.1),
          )

-- Laws of what is printed: which of its texts, by the input's length and its trailer; and a text in a buffer that has room.
-- Assumes nothing.
use Rattle.std.specs.Prelude.{Some, None, Result, Ok, Err, IfOk, IfErr}
use Prim.Native.Nat.{ℕ, ◌-◌, ◌≤◌, ◌<◌}
use mathlib.Core.Path.{◌≡◌, sym, ◌∙◌}
use mathlib.Core.List.{List}
use native.Mathlib.Nat.{zero-add}
use lib.ListN.{length, drop}
use borrow.Author.Tests.{lt-ltb, le-ltb}
use denote.Ref.{MutBor}
use Rattle.network.proofs.Tests.{cond_true, cond_false}
use Rattle.board.specs.Layout.{layout_of}
use Rattle.trailer.specs.declared.headed.Table.{Table}
use Rattle.trailer.specs.Trailer.{trailer_of}
use Rattle.table.specs.declared.refusals.Refusal.{Refusal}
use Rattle.table.specs.declared.refusals.Refusal.TheVariants.{Buffer}
use Rattle.table.specs.Refusals.{trailer_not_good, number_of}
use Rattle.table.specs.Held.{held_below}
use Rattle.table.specs.Calls.{outcome}
use Rattle.survey.specs.Check.{fault_in, on_passing, checked_slice}
use Rattle.survey.proofs.CheckLaws.{called, call_refused, call_passed, fault_none}
use Rattle.text.specs.Put.{added, begun}
use Rattle.lines.specs.Lines.{table_text}
use Rattle.listing.specs.Output.{most, refusal_line, fault_line, refusal_words, verdict_line, listing, verdict, into}

module _ (s : List ℕ) where
  pub listing_long : most < length s → listing s ≡ refusal_words Buffer
  unfolding listing number_of
  listing_long l = cond_true _ _ (lt-ltb most (length s) l)

  pub verdict_long : most < length s → verdict s ≡ verdict_line (Err Buffer)
  unfolding verdict number_of
  verdict_long l = cond_true _ _ (lt-ltb most (length s) l)

  pub verdict_read : length s ≤ most → verdict s ≡ verdict_line (checked_slice s)
  unfolding verdict
  verdict_read l = cond_false _ _ (le-ltb most (length s) l)

  pub listing_read : length s ≤ most → listing s ≡ on_passing s (refusal_line trailer_not_good) fault_line table_text
  unfolding listing
  listing_read l = cond_false _ _ (le-ltb most (length s) l)

  listing_called : length s ≤ most → listing s ≡ called refusal_words table_text s
  unfolding number_of
  listing_called l = listing_read l

  -- by what is answered where a table that passes is asked for
  pub refusal_told : (r : Result Table Refusal) → length s ≤ most → IfErr r (λ e. checked_slice s ≡ Err e) → IfErr r (λ e. listing s ≡ refusal_words e)
  refusal_told (Err e) l q = listing_called l ∙ call_refused refusal_words table_text s q
  refusal_told (Ok t) l q = tt

  pub table_told : (r : Result Table Refusal) → length s ≤ most → IfOk r (λ t. trailer_of s ≡ Some t.head)
      → IfOk r (λ t. t.bytes.now ≡ drop (length s - t.head.size) s)
      → IfOk r (λ t. fault_in t.head t.bytes.now ≡ None)
      → IfOk r (λ t. listing s ≡ table_text t.head t.bytes.now)
  table_told (Ok t) l e b f = listing_called l ∙ call_passed refusal_words table_text s e b f
  table_told (Err x) l e b f = tt

pub counts_agree : (r : Result Table Refusal) → IfOk r (λ t. fault_in t.head t.bytes.now ≡ None)
    → IfOk r (λ t. t.head.taken - t.head.delivered ≡ held_below t.bytes.now (layout_of t.head.board).size)
counts_agree (Ok t) f = (fault_none t.head t.bytes.now f).counted
counts_agree (Err x) f = tt

-- what is answered and what the buffer holds, with and without room
module _ (need : ℕ) (t : List ℕ) where
  pub not_printed : (out : List ℕ) → length out < need → outcome (Err Buffer) out ≡ into need t out
  not_printed out l = sym (cond_true _ _ (lt-ltb (length out) need l))

  pub printed : (d : MutBor (List ℕ)) → need ≤ length d.now → outcome (Ok (added (begun d) t).at) (added (begun d) t).buf.now ≡ into need t d.now
  unfolding added
  printed d l = rw (zero-add (length t)) (sym (cond_false _ _ (le-ltb (length d.now) need l)))

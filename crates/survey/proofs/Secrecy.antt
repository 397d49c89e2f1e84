-- Document 01's secrecy: two slices that are alike, with equal second buffers before the call, give the same answer and copy. The full check
-- answers them alike too.
-- Assumes nothing.
use Rattle.std.specs.Prelude.{Option, Some, None, Ok, Err}
use Prim.Native.Nat.{ℕ, ◌+◌, ◌-◌, ◌*◌}
use mathlib.Core.Path.{◌≡◌, refl, sym, ap, ◌∙◌}
use mathlib.Core.Logic.{⊎_elim}
use mathlib.Core.List.{List, ◌++◌}
use native.Mathlib.Omega.{arith}
use lib.ListN.{length, take, drop, replicate, length-append}
use lib.Seq.{drop_at}
use Rattle.slots.specs.Bytes.{le32}
use Rattle.slots.specs.Slots.{zeros}
use Rattle.slots.proofs.SlotLaws.{slots_ext}
use Rattle.board.specs.Layout.{layout_of}
use Rattle.trailer.specs.declared.Head.{Head}
use Rattle.trailer.specs.Trailer.{trailer_of, last16}
use Rattle.trailer.proofs.TrailerLaws.{table_sized, trailer_good, trailer_same, trailer_before}
use Rattle.table.specs.declared.refusals.Refusal.TheVariants.{Trailer, Fault}
use Rattle.table.specs.Calls.{outcome}
use Rattle.survey.specs.Check.{fault_in, fault_or, unless_fault, read_by, on_passing, checked_slice}
use Rattle.survey.specs.Copy.{veiled, copied_in, copied_slice}
use Rattle.survey.specs.Secrecy.{SameButPayloads, Alike, tables, neither}
use Rattle.survey.proofs.ShownLaws.{veiled_slot, veiled_end}
use Rattle.survey.proofs.Sight.{SeenSame, fault_same}

-- what is read of two slices that are alike: no head in either, or one head, and tables that differ in payloads alone
pub data ReadAlike : List ℕ → List ℕ → Type 0 where
  no_head : {s u : List ℕ} → trailer_of s ≡ None → trailer_of u ≡ None → ReadAlike s u
  one_head : {s u : List ℕ} (h : Head) → trailer_of s ≡ Some h → trailer_of u ≡ Some h
      → SameButPayloads (layout_of h.board).size (drop (length s - h.size) s) (drop (length u - h.size) u)
      → ReadAlike s u

-- the table of a slice that ends with it
table_of : (p t : List ℕ) (m : ℕ) → m ≡ length t → drop (length (p ++ t) - m) (p ++ t) ≡ t
table_of p t m e =
    let l : length (p ++ t) ≡ length p + length t = length-append p t in
    drop_at p t (length (p ++ t) - m) (omega arith)

module _ {n : ℕ} {t w : List ℕ} (a : SameButPayloads n t w) where
  pub seen : SeenSame n t w
  seen = record {
    held = λ k l. ⊎_elim (λ e. ap zeros e) (λ d. d.0 ∙ sym d.1) (a.slots k l);
    front = λ k l. ⊎_elim (λ e. ap (take 8) e) (λ d. d.2) (a.slots k l);
  }

  pub same_copy : veiled n t ≡ veiled n w
  same_copy =
      slots_ext n (veiled n t) (veiled n w)
      (λ k l.
      veiled_slot n t k l (omega (arith, a.full))
      ∙ ap (λ (v : List ℕ). v ++ replicate 8 0) (seen.front k l)
      ∙ sym (veiled_slot n w k l (omega (arith, a.full_too))))
      (veiled_end n t (omega (arith, a.full)) ∙ a.trailer ∙ sym (veiled_end n w (omega (arith, a.full_too))))

  ends : last16 t ≡ drop (16 * n) t
  ends = let at : length t - 16 ≡ 16 * n = omega (arith, a.full) in rw at

  ends_too : last16 w ≡ drop (16 * n) t
  ends_too = let at : length w - 16 ≡ 16 * n = omega (arith, a.full_too) in rw at (sym a.trailer)

  same_trailer : trailer_of t ≡ trailer_of w
  same_trailer = trailer_same t w (a.full ∙ sym a.full_too) (ends ∙ sym ends_too)

  module _ (p q : List ℕ) where
    first-trailer : trailer_of (p ++ t) ≡ trailer_of t
    first-trailer =
        let d = ap (λ (z : List ℕ). le32 z 12) ends ∙ a.distance in
        trailer_before p t (omega (arith, a.full)) (omega arith)

    second_trailer : trailer_of (q ++ w) ≡ trailer_of t
    second_trailer =
        let d = ap (λ (z : List ℕ). le32 z 12) ends_too ∙ a.distance in
        trailer_before q w (omega (arith, a.full_too)) (omega (arith, a.full, a.full_too)) ∙ sym same_trailer

    read_tables : ReadAlike (p ++ t) (q ++ w)
    read_tables = by (trailer_of t) refl
      where
        by : (x : Option Head) → trailer_of t ≡ x → ReadAlike (p ++ t) (q ++ w)
        by None e = no_head (first-trailer ∙ e) (second_trailer ∙ e)
        by (Some h) e =
            let l : h.size ≡ length t = ap (λ (x : Head). x.size) (trailer_good t e).read ∙ ap (λ (z : List ℕ). le32 z 12) ends ∙ a.distance in
            let m : n ≡ (layout_of h.board).size = omega (arith, a.full, (table_sized t e (sym l)).full) in
            let same : SameButPayloads (layout_of h.board).size t w = rw m at a in
            one_head h (first-trailer ∙ e) (second_trailer ∙ e)
            (rw (table_of p t h.size l, table_of q w h.size (l ∙ a.full ∙ sym a.full_too)) same)

pub read_alike : {s u : List ℕ} → Alike s u → ReadAlike s u
read_alike (tables p q a) = read_tables a p q
read_alike (neither e f) = no_head e f

-- whatever is asked of a passing table: the first fault decides, and it is the same
module _ {A : Type 0} (bad : A) (fault : ℕ → A) (passes : Head → List ℕ → A)
    (same : (h : Head) (t w : List ℕ) → SameButPayloads (layout_of h.board).size t w → passes h t ≡ passes h w) where
  by_read : {s u : List ℕ} → ReadAlike s u → on_passing s bad fault passes ≡ on_passing u bad fault passes
  by_read (no_head {s} {u} e f) = ap (read_by s bad (unless_fault fault passes)) e ∙ sym (ap (read_by u bad (unless_fault fault passes)) f)
  by_read (one_head {s} {u} h e f a) =
      let t = drop (length s - h.size) s in
      let w = drop (length u - h.size) u in
      ap (read_by s bad (unless_fault fault passes)) e
      ∙ ap (λ (x : A). fault_or fault x (fault_in h t)) (same h t w a)
      ∙ ap (fault_or fault (passes h w)) (fault_same h t w (seen a))
      ∙ sym (ap (read_by u bad (unless_fault fault passes)) f)

  pub passing_secret : {s u : List ℕ} → Alike s u → on_passing s bad fault passes ≡ on_passing u bad fault passes
  passing_secret a = by_read (read_alike a)

pub check_secret : {s u : List ℕ} → Alike s u → checked_slice s ≡ checked_slice u
unfolding checked_slice
check_secret a = passing_secret (Err Trailer) (λ place. Err (Fault place)) (λ h t. Ok tt) (λ h t w b. refl) a

pub secret : {s u : List ℕ} → Alike s u → (out : List ℕ) → copied_slice s out ≡ copied_slice u out
unfolding copied_slice copied_in
secret a out =
    passing_secret (outcome (Err Trailer) out) (λ place. outcome (Err (Fault place)) out) (copied_in out)
    (λ h t w b. rw (same_copy b, b.full, b.full_too)) a

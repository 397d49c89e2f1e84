-- The outward copy: where it is made, and that it leaves the second buffer as it was where it is refused.
-- Assumes nothing.
use Rattle.std.specs.Prelude.{Option, Some, None, Result, Ok, Err, ⊤}
use Prim.Native.Nat.{ℕ, ◌-◌}
use mathlib.Core.Path.{◌≡◌, refl, ap, ◌∙◌}
use mathlib.Core.Logic.{◌≢◌}
use mathlib.Core.List.{List}
use mathlib.Core.Bool.{Bool, true, false, cond}
use lib.Dec.{eqb}
use borrow.Author.Tests.{eqb-true}
use lib.ListN.{length, drop}
use Rattle.network.proofs.Tests.{clash}
use Rattle.board.specs.Layout.{layout_of}
use Rattle.trailer.specs.declared.Head.{Head}
use Rattle.trailer.specs.Trailer.{trailer_of}
use Rattle.table.specs.declared.refusals.Refusal.{Refusal}
use Rattle.table.specs.declared.refusals.Refusal.TheVariants.{Trailer, Buffer, Fault}
use Rattle.table.specs.Calls.{Outcome, outcome}
use Rattle.survey.specs.Check.{fault_in, fault_or, unless_fault, read_by}
use Rattle.survey.specs.Copy.{veiled, copied_in, copied_slice}

-- ---- made: the second buffer has exactly the table's length

module _ (out : List ℕ) (h : Head) (t : List ℕ) where
  abbrev copy_by : Bool → Outcome (Result ⊤ Refusal) (List ℕ)
  copy_by b = cond b (outcome (Ok tt) (veiled (layout_of h.board).size t)) (outcome (Err Buffer) out)

  pub copied_exactly : (copied_in out h t).answer ≡ Ok tt → length out ≡ length t
  unfolding copied_in
  copied_exactly u = go (eqb (length out) (length t)) refl u
    where
      go : (b : Bool) → eqb (length out) (length t) ≡ b → (copy_by b).answer ≡ Ok tt → length out ≡ length t
      go true e v = eqb-true (length out) (length t) e
      go false e v = clash cc

  done-veiled : (copied_in out h t).answer ≡ Ok tt → (copied_in out h t).bytes ≡ veiled (layout_of h.board).size t
  unfolding copied_in
  done-veiled u = go (eqb (length out) (length t)) u
    where
      go : (b : Bool) → (copy_by b).answer ≡ Ok tt → (copy_by b).bytes ≡ veiled (layout_of h.board).size t
      go true v = refl
      go false v = clash cc

  -- ---- refused: the second buffer is as it was

  wrong_unwritten : (copied_in out h t).answer ≢ Ok tt → (copied_in out h t).bytes ≡ out
  unfolding copied_in
  wrong_unwritten u = go (eqb (length out) (length t)) u
    where
      go : (b : Bool) → (copy_by b).answer ≢ Ok tt → (copy_by b).bytes ≡ out
      go true v = absurd (v refl)
      go false v = refl

pub refused_unwritten : (s out : List ℕ) → (copied_slice s out).answer ≢ Ok tt → (copied_slice s out).bytes ≡ out
unfolding copied_slice
refused_unwritten s out = on (trailer_of s)
  where
    fault : ℕ → Outcome (Result ⊤ Refusal) (List ℕ)
    fault place = outcome (Err (Fault place)) out

    by-fault : (h : Head) (t : List ℕ) (r : Option ℕ) → (fault_or fault (copied_in out h t) r).answer ≢ Ok tt → (fault_or fault (copied_in out h t) r).bytes ≡ out
    by-fault h t (Some place) u = refl
    by-fault h t None u = wrong_unwritten out h t u

    on : (x : Option Head) → (read_by s (outcome (Err Trailer) out) (unless_fault fault (copied_in out)) x).answer ≢ Ok tt
        → (read_by s (outcome (Err Trailer) out) (unless_fault fault (copied_in out)) x).bytes ≡ out
    on None u = refl
    on (Some h) u = by-fault h _ (fault_in h _) u

-- a copy is made of a table that passes, into a buffer of its length
pub record Made (s out : List ℕ) : Type 0 where
  pub h : Head
  pub head : trailer_of s ≡ Some h
  pub passes : fault_in h (drop (length s - h.size) s) ≡ None
  pub exactly : length out ≡ length (drop (length s - h.size) s)
  pub bytes : (copied_slice s out).bytes ≡ veiled (layout_of h.board).size (drop (length s - h.size) s)

pub copied_made : (s out : List ℕ) → (copied_slice s out).answer ≡ Ok tt → Made s out
unfolding copied_slice
copied_made s out u = on (trailer_of s) refl u
  where
    fault : ℕ → Outcome (Result ⊤ Refusal) (List ℕ)
    fault place = outcome (Err (Fault place)) out

    by : Option Head → Outcome (Result ⊤ Refusal) (List ℕ)
    by = read_by s (outcome (Err Trailer) out) (unless_fault fault (copied_in out))

    of-fault : (h : Head) → trailer_of s ≡ Some h → (r : Option ℕ) → fault_in h (drop (length s - h.size) s) ≡ r
        → (fault_or fault (copied_in out h (drop (length s - h.size) s)) r).answer ≡ Ok tt → Made s out
    of-fault h e (Some place) f v = clash cc
    of-fault h e None f v =
        let t = drop (length s - h.size) s in
        record {
          h = h;
          head = e;
          passes = f;
          exactly = copied_exactly out h t v;
          bytes = ap (λ (o : Outcome (Result ⊤ Refusal) (List ℕ)). o.bytes) (ap by e ∙ ap (fault_or fault (copied_in out h t)) f) ∙ done-veiled out h t v;
        }

    on : (x : Option Head) → trailer_of s ≡ x → (by x).answer ≡ Ok tt → Made s out
    on None e v = clash cc
    on (Some h) e v = of-fault h e (fault_in h _) refl v

-- Calls among which no taking in and no clear is accepted come to what their proposed moves come to.
-- Assumes nothing.
use Prim.Native.Nat.{ℕ, ◌+◌}
use mathlib.Core.Path.{◌≡◌, refl, sym, ap, subst, ◌∙◌}
use mathlib.Core.Bool.{Bool, true, false}
use mathlib.Core.List.{List, [], ◌∷◌, ◌++◌, map, map-append}
use lib.Dec.{eqb}
use native.Mathlib.Omega.{arith}
use borrow.Author.Tests.{eqb-false}
use Rattle.network.specs.Net.{delivery}
use Rattle.network.specs.Packet.{Delivery}
use Rattle.network.specs.Run.{Answer, moved, delivered, Trace, after, trace}
use Rattle.table.specs.Packets.{packet_of}
use Rattle.table.specs.Calls.{Outcome}
use Rattle.router.specs.Move.{MoveAnswer, moved_slice}
use Rattle.router.specs.TakeIn.{TakeAnswer}
use Rattle.calls.specs.Slices.{Bytes, place_in}
use Rattle.calls.specs.Router.{ours}
use Rattle.calls.specs.Calls.{Look, reads, checks, finds, copies, Call, clears, takes, moves, looks, Given, looked_by, left_by, given_by, moves_by, course, MovesAlone}
use Rattle.promises.proofs.Proposals.{Proposal, answering}
use Rattle.promises.proofs.Lent.{whole}
use Rattle.promises.proofs.Records.{bytes_of, record_back}
use Rattle.promises.proofs.Unchanged.{clear_refused, take_refused, move_refused}

-- the proposed moves among calls
abbrev pub proposals : List Call → List Proposal
proposals [] = []
proposals (clears b ∷ cs) = proposals cs
proposals (takes source destination payload ∷ cs) = proposals cs
proposals (moves slot code ∷ cs) = record { slot = slot; code = code } ∷ proposals cs
proposals (looks l ∷ cs) = proposals cs

-- a delivery as bytes
abbrev pub as_given : Delivery → Given
as_given d = record { node = d.node; packet = bytes_of d.packet }

pub record Traced (s : List ℕ) (calls : List Call) : Type 0 where
  pub last : (course ours s calls).last ≡ (trace answering s (proposals calls)).last
  pub given : (course ours s calls).given ≡ map as_given (trace answering s (proposals calls)).given
  pub accepted : (course ours s calls).accepted ≡ (trace answering s (proposals calls)).accepted
  pub bytes : Bytes (course ours s calls).last

-- one more call: what it leaves and tells of, and what the trace makes of it
joined : (s : List ℕ) (c : Call) (cs : List Call) (r : Trace (List ℕ)) → (ds : List Delivery) (n : ℕ) → trace answering s (proposals (c ∷ cs)) ≡ r
    → r.last ≡ (trace answering (left_by ours s c) (proposals cs)).last
    → r.given ≡ ds ++ (trace answering (left_by ours s c) (proposals cs)).given
    → r.accepted ≡ n + (trace answering (left_by ours s c) (proposals cs)).accepted
    → given_by ours s c ≡ map as_given ds → moves_by ours s c ≡ n
    → Traced (left_by ours s c) cs → Traced s (c ∷ cs)
joined s c cs r ds n e last given accepted told counts t = record {
  last = t.last ∙ sym last ∙ ap (λ (q : Trace (List ℕ)). q.last) (sym e);
  given = (λ i. told i ++ t.given i)
      ∙ sym (map-append as_given ds (trace answering (left_by ours s c) (proposals cs)).given)
      ∙ ap (map as_given) (sym given ∙ ap (λ (q : Trace (List ℕ)). q.given) (sym e));
  accepted = (λ i. counts i + t.accepted i) ∙ sym accepted ∙ ap (λ (q : Trace (List ℕ)). q.accepted) (sym e);
  bytes = t.bytes;
}

-- a call that leaves the slice as it was and tells of nothing
passed_by : (s : List ℕ) (c : Call) (cs : List Call) → left_by ours s c ≡ s → given_by ours s c ≡ [] → moves_by ours s c ≡ 0
    → trace answering s (proposals (c ∷ cs)) ≡ trace answering s (proposals cs) → Traced s cs → Traced s (c ∷ cs)
passed_by s c cs left told counts e t =
    let back : trace answering s (proposals cs) ≡ trace answering (left_by ours s c) (proposals cs) = ap (λ (u : List ℕ). trace answering u (proposals cs)) (sym left) in
    joined s c cs (trace answering (left_by ours s c) (proposals cs)) [] 0 (e ∙ back) refl refl (omega arith) told counts (subst (λ (u : List ℕ). Traced u cs) (sym left) t)

-- a proposed move, by whether it is accepted and whether its code is delivery's
module _ (s : List ℕ) (b : Bytes s) (slot code : ℕ) (cs : List Call) (t : Traced (moved_slice s slot code).bytes cs) where
  abbrev o : Outcome MoveAnswer (List ℕ)
  o = moved_slice s slot code

  abbrev d : Delivery
  d = record { node = (place_in s slot).node; packet = packet_of o.answer.packet }

  abbrev then : Answer (List ℕ) → Trace (List ℕ)
  then a = after (λ u. trace answering u (proposals cs)) s a

  moved_on : (y z : Bool) → eqb o.answer.number 0 ≡ y → eqb code delivery ≡ z → Traced s (moves slot code ∷ cs)
  moved_on true true e f =
      let w = whole s b slot code in
      let same = record_back o.answer.packet w.1 w.2 in
      joined s (moves slot code) cs (then (delivered o.bytes d)) (d ∷ []) 1 (rw (e, f)) refl refl (omega arith)
      (rw (e, f) (λ i. record { node = (place_in s slot).node; packet = sym same i } ∷ [])) (rw e) t
  moved_on true false e f =
      joined s (moves slot code) cs (then (moved o.bytes)) [] 1 (rw (e, f)) refl refl (omega arith) (rw (e, f)) (rw e) t
  moved_on false z e f =
      let same = ap (λ (u : Outcome MoveAnswer (List ℕ)). u.bytes) (move_refused s slot code (eqb-false _ 0 e)) in
      passed_by s (moves slot code) cs same (none z f) (rw e) (rw e) (subst (λ (u : List ℕ). Traced u cs) same t)
    where
      none : (z : Bool) → eqb code delivery ≡ z → given_by ours s (moves slot code) ≡ []
      none true f = rw (e, f)
      none false f = rw (e, f)

-- a look leaves the slice as it was
pub looked : (s : List ℕ) (l : Look) → looked_by ours s l ≡ s
looked s (reads slot) = refl
looked s checks = refl
looked s finds = refl
looked s (copies second) = refl

pub traced : (calls : List Call) (s : List ℕ) → Bytes s → MovesAlone ours s calls → Traced s calls
traced [] s b q = record { last = refl; given = refl; accepted = refl; bytes = b }
traced (clears k ∷ cs) s b q =
    let same = ap (λ (o : Outcome ℕ (List ℕ)). o.bytes) (clear_refused s k q.0) in
    passed_by s (clears k) cs same refl refl refl (traced cs s b (rw same at q.1))
traced (takes source destination payload ∷ cs) s b q =
    let same = ap (λ (o : Outcome TakeAnswer (List ℕ)). o.bytes) (take_refused s source destination payload q.0) in
    passed_by s (takes source destination payload) cs same refl refl refl (traced cs s b (rw same at q.1))
traced (moves slot code ∷ cs) s b q =
    moved_on s b slot code cs (traced cs (moved_slice s slot code).bytes (whole s b slot code).0 q.1)
    (eqb (moved_slice s slot code).answer.number 0) (eqb code delivery) refl refl
traced (looks l ∷ cs) s b q =
    let same = looked s l in
    passed_by s (looks l) cs same refl refl refl (traced cs s b (rw same at q.1))

-- Find on a slice that passes: it names the lowest accepted move, and it names none exactly where nothing is held. That there is one while a
-- packet is held is the large theorem's.
-- Assumes nothing.
use Rattle.std.specs.Prelude.{Option, Some, None, Result, Ok, Err}
use Prim.Native.Nat.{ℕ, ◌<◌, ◌≤◌}
use mathlib.Core.Path.{◌≡◌, refl, sym, ap, ◌∙◌}
use mathlib.Core.Logic.{◌⊎◌, inl, inr, ◌↔◌}
use mathlib.Core.Bool.{Bool, true, false}
use mathlib.Core.List.{List, []}
use native.Mathlib.Omega.{arith}
use Rattle.network.specs.Search.{lowest_with}
use Rattle.network.proofs.Tests.{clash}
use Rattle.network.proofs.Slots.{held_mem}
use Rattle.slots.specs.Slots.{zeros}
use Rattle.trailer.specs.declared.Head.{Head}
use Rattle.table.specs.declared.refusals.Refusal.{Refusal}
use Rattle.table.specs.declared.refusals.Refusal.TheVariants.{Trailer, Fault, NothingHeld as nothing}
use Rattle.table.specs.Refusals.{number_of}
use Rattle.table.specs.Packets.{packet_of}
use Rattle.table.proofs.PacketLaws.{slot_held}
use Rattle.judging.specs.Moves.{move_due}
use Rattle.judging.proofs.GrantedLaws.{due_granted}
use Rattle.judging.proofs.VerdictLaws.{number_not_zero}
use Rattle.router.specs.Move.{moved_slice}
use Rattle.survey.specs.declared.finding.Move.{Move}
use Rattle.survey.specs.Check.{fault_or, unless_fault, checked_slice}
use Rattle.survey.specs.Find.{movable, move_at, found_in, found_slice, find_answer}
use Rattle.survey.proofs.FindLaws as find-laws
use Rattle.calls.specs.Slices.{Bytes, head_in, table_in, GoodIn, layout_in, slots_in, slot_in, see}
use Rattle.promises.specs.Conditions.{EmptyAt, NothingHeld}
use Rattle.promises.proofs.Proposals.{number_by_accepted}
use Rattle.promises.proofs.Results.{named, numbered}
use Rattle.promises.proofs.Checked.{on_head, passing_good, faultless_in, checked_drain}
use Rattle.promises.proofs.Conditions.{empty_zeros, zeros_empty}
use Rattle.promises.proofs.OneStep.{number_is}

-- a search names a move or nothing
shape : (h : Head) (t : List ℕ) (r : Option ℕ) → ((find_answer (move_at h t r)).number ≡ 0) ⊎ ((find_answer (move_at h t r)).number ≡ 11)
unfolding number_of
shape h t (Some slot) = inl refl
shape h t None = inr refl

-- what an answer's number says
is_move : (f : Result Move Refusal) → (find_answer f).number ≡ 0 → f ≡ Ok record { slot = (find_answer f).slot; code = (find_answer f).code }
is_move (Ok m) z = refl
is_move (Err e) z = absurd (number_not_zero e z)

is_nothing : (f : Result Move Refusal) → (find_answer f).number ≡ 11 → f ≡ Err nothing
is_nothing (Ok m) q = absurd (omega arith)
is_nothing (Err e) q = ap Err (sym (numbered e (λ t. omega arith)).0 ∙ ap named q)

module _ (s : List ℕ) (c : checked_slice s ≡ Ok tt) where
  g : GoodIn s
  g = passing_good s c

  found_is : found_slice s ≡ found_in (head_in s) (table_in s)
  unfolding found_slice
  found_is =
      on_head s (Err Trailer) (unless_fault (λ p. Err (Fault p)) found_in) g
      ∙ ap (fault_or (λ p. Err (Fault p)) (found_in (head_in s) (table_in s))) (faultless_in s c)

  pub not_stuck : ((find_answer (found_slice s)).number ≡ 0) ⊎ ((find_answer (found_slice s)).number ≡ 11)
  unfolding found_in
  not_stuck = rw found_is (shape (head_in s) (table_in s) (lowest_with (movable (head_in s) (table_in s)) 0 (slots_in s)))

  -- an accepted move
  due_is : (slot code : ℕ) → (moved_slice s slot code).answer.number ≡ 0 → move_due (head_in s) (table_in s) slot code ≡ 0
  due_is slot code z = sym (number_is s g slot code) ∙ z

  -- what find names is accepted, and nothing lower is
  module _ (z : (find_answer (found_slice s)).number ≡ 0) where
    abbrev slot : ℕ
    slot = (find_answer (found_slice s)).slot

    abbrev code : ℕ
    code = (find_answer (found_slice s)).code

    names : found_in (head_in s) (table_in s) ≡ Ok record { slot = slot; code = code }
    names = sym found_is ∙ is_move (found_slice s) z

    pub found_accepted : (moved_slice s (find_answer (found_slice s)).slot (find_answer (found_slice s)).code).answer.number ≡ 0
    found_accepted = number_is s g slot code ∙ find-laws.found_accepted (head_in s) (table_in s) slot code names

    pub found_lowest : (slot' code' : ℕ) → (moved_slice s slot' code').answer.number ≡ 0
        → ((find_answer (found_slice s)).slot < slot') ⊎ (((find_answer (found_slice s)).slot ≡ slot') × ((find_answer (found_slice s)).code ≤ code'))
    found_lowest slot' code' a = find-laws.found_lowest (head_in s) (table_in s) slot code names slot' code' (due_is slot' code' a)

  module _ (b : Bytes s) where
    -- while a packet is held, some move is accepted
    pub onward : (k : ℕ) → k < slots_in s → zeros (slot_in s k) ≡ false → (slot : ℕ) × (code : ℕ) × ((moved_slice s slot code).answer.number ≡ 0)
    onward k l z =
        let v = slot_in s k in
        let r = (checked_drain s b c []).onward _ (held_mem (layout_in s) (see s) k (packet_of v) l (slot_held v z)) in
        (r.0.slot, r.0.code, number_by_accepted s r.0 (moved_slice s r.0.slot r.0.code) r.1)

    nothing_held : (find_answer (found_slice s)).number ≡ 11 → NothingHeld s
    nothing_held e k l = go (zeros (slot_in s k)) refl
      where
        none : found_in (head_in s) (table_in s) ≡ Err nothing
        none = sym found_is ∙ is_nothing (found_slice s) e

        go : (z : Bool) → zeros (slot_in s k) ≡ z → EmptyAt s k
        go true z = zeros_empty s g k l z
        go false z =
            let r = onward k l z in
            absurd (find-laws.found_nothing (head_in s) (table_in s) none r.0 r.1 (due_is r.0 r.1 r.2))

    stuck_empty : NothingHeld s → (find_answer (found_slice s)).number ≡ 11
    unfolding number_of
    stuck_empty n =
        rw (
          found_is,
          find-laws.nothing_found (head_in s) (table_in s) (λ slot code e.
              (let a = (due_granted (head_in s) (table_in s) slot code e).named in let z = empty_zeros s g slot (n slot a.inside) in let f = a.held in clash cc)),
        )

    pub nothing_found : ((find_answer (found_slice s)).number ≡ 11) ↔ NothingHeld s
    nothing_found = (nothing_held, stuck_empty)

-- What find's answers mean: the move named is accepted, nothing lower is, and where none is named none is accepted.
-- Assumes nothing.
use Rattle.std.specs.Prelude.{Option, Some, None, Result, Ok, Err, is_ok}
use Prim.Native.Nat.{ℕ, suc, ◌≤◌, ◌<◌}
use mathlib.Core.Path.{◌≡◌, refl, sym, ap, ◌∙◌}
use mathlib.Core.Logic.{◌≢◌, ◌⊎◌, inl, inr}
use mathlib.Core.List.{List}
use mathlib.Core.Bool.{false}
use native.Mathlib.Omega.{arith}
use native.Mathlib.Decide.{dec_lt}
use borrow.Author.Tests.{eqb-true, eqb-false, eq-eqb, ne_eqb}
use Rattle.network.specs.Search.{lowest_with, is_at, number_at, IsLowest}
use Rattle.network.proofs.Tests.{clash}
use Rattle.network.proofs.SearchLaws.{at_some, at_none, at_lowest, nowhere_none, none_nowhere}
use Rattle.board.specs.Board.{net_of}
use Rattle.board.specs.Layout.{layout_of}
use Rattle.board.proofs.BoardLaws.{net_laws}
use Rattle.trailer.specs.declared.Head.{Head}
use Rattle.table.specs.declared.refusals.Refusal.{Refusal}
use Rattle.table.specs.declared.refusals.Refusal.TheVariants.{NothingHeld}
use Rattle.judging.specs.Moves.{move_due}
use Rattle.judging.specs.declared.verdict.Onward.{Onward}
use Rattle.judging.specs.declared.verdict.Onward.TheVariants.{Leaves, Into}
use Rattle.judging.specs.Verdicts.{Verdict, verdict_of, move_verdict}
use Rattle.judging.proofs.GrantedLaws.{due_granted}
use Rattle.judging.proofs.VerdictLaws.{number_not_zero, verdict-number}
use Rattle.survey.specs.declared.finding.Move.{Move}
use Rattle.survey.specs.Find.{accepts, first_code, movable, move_at, found_in}

-- judging a move accepts it, or tells the refusal that is due
pub accepts-judged : (h : Head) (t : List ℕ) (slot code : ℕ) (r : Result Onward Refusal) → verdict_of r ≡ move_verdict h t slot code → is_ok r ≡ accepts h t slot code
accepts-judged h t slot code r e = go r (ap (λ (v : Verdict). v.number) e ∙ verdict-number h t slot code)
  where
    go : (r : Result Onward Refusal) → (verdict_of r).number ≡ move_due h t slot code → is_ok r ≡ accepts h t slot code
    go (Ok Leaves) q = sym (eq-eqb _ 0 (sym q))
    go (Ok (Into s n l)) q = sym (eq-eqb _ 0 (sym q))
    go (Err x) q = sym (ne_eqb _ 0 (λ z. number_not_zero x (q ∙ z)))

module _ (h : Head) (t : List ℕ) where
  abbrev size : ℕ
  size = (layout_of h.board).size

  abbrev codes : ℕ
  codes = suc (net_of h.board).last

  -- a move that is accepted is of a slot that there is, by a code that there is
  due_slot : (slot code : ℕ) → move_due h t slot code ≡ 0 → slot < size
  due_slot slot code e = (due_granted h t slot code e).named.inside

  due_code : (slot code : ℕ) → move_due h t slot code ≡ 0 → code < codes
  due_code slot code e = let l = (net_laws h.board).known_last code (due_granted h t slot code e).known in omega arith

  -- a slot has a code exactly where some move of it is accepted
  still : (slot : ℕ) → movable h t slot ≡ false → (code : ℕ) → move_due h t slot code ≢ 0
  unfolding first_code
  still slot e code q =
      let none = nowhere_none (accepts h t slot) 0 codes (at_none _ e) in
      eqb-false _ 0 (none.lacks code (omega arith) (omega (arith, due_code slot code q))) q

  not_movable : (slot : ℕ) → ((code : ℕ) → move_due h t slot code ≢ 0) → movable h t slot ≡ false
  unfolding first_code
  not_movable slot u = ap is_at (none_nowhere (accepts h t slot) 0 codes (record { lacks = λ code l m. ne_eqb _ 0 (u code) }))

  module _ (slot code : ℕ) (e : found_in h t ≡ Ok (record { slot = slot; code = code })) where
    named : (lowest_with (movable h t) 0 size ≡ Some slot) × (number_at (first_code h t slot) ≡ code)
    unfolding found_in
    named = by (lowest_with (movable h t) 0 size) e
      where
        by : (r : Option ℕ) → move_at h t r ≡ Ok (record { slot = slot; code = code }) → (r ≡ Some slot) × (number_at (first_code h t slot) ≡ code)
        by (Some k) q =
            let m : ◌≡◌ {A = Move} (record { slot = k; code = number_at (first_code h t k) }) (record { slot = slot; code = code }) = cc in
            let r : k ≡ slot = ap (λ (m : Move). m.slot) m in
            let c : number_at (first_code h t k) ≡ code = ap (λ (m : Move). m.code) m in
            (ap Some r, rw r at c)
        by None q = clash cc

    slots : IsLowest (movable h t) 0 size slot
    slots = at_lowest (movable h t) 0 size slot named.0

    code_found : IsLowest (accepts h t slot) 0 codes code
    unfolding first_code
    code_found = at_lowest (accepts h t slot) 0 codes code (at_some _ slots.has ∙ ap Some named.1)

    pub found_accepted : move_due h t slot code ≡ 0
    found_accepted = eqb-true _ 0 code_found.has

    -- nothing lower is: no lower slot, and for the slot no lower code
    pub found_lowest : (j c : ℕ) → move_due h t j c ≡ 0 → (slot < j) ⊎ ((slot ≡ j) × (code ≤ c))
    found_lowest j c q = elim (dec_lt slot j) [
      | yes l ↦ inl l
      | no l ↦ elim (dec_lt j slot) [
        | yes m ↦ absurd (still j (slots.least j (omega arith) m) c q)
        | no m ↦
            let same : slot ≡ j = omega arith in
            inr (same, lowest_code c (rw (← same) at q))
      ]
    ]
      where
        lowest_code : (c : ℕ) → move_due h t slot c ≡ 0 → code ≤ c
        lowest_code c q = elim (dec_lt c code) [
          | yes l ↦ absurd (eqb-false _ 0 (code_found.least c (omega arith) l) q)
          | no l ↦ omega arith
        ]

  pub found_nothing : found_in h t ≡ Err NothingHeld → (slot code : ℕ) → move_due h t slot code ≢ 0
  unfolding found_in
  found_nothing e slot code q =
      let none = nowhere_none (movable h t) 0 size (by (lowest_with (movable h t) 0 size) e) in
      still slot (none.lacks slot (omega arith) (omega (arith, due_slot slot code q))) code q
    where
      by : (r : Option ℕ) → move_at h t r ≡ Err NothingHeld → r ≡ None
      by (Some k) q = clash cc
      by None q = refl

  pub nothing_found : ((slot code : ℕ) → move_due h t slot code ≢ 0) → found_in h t ≡ Err NothingHeld
  unfolding found_in
  nothing_found u = ap (move_at h t) (none_nowhere (movable h t) 0 size (record { lacks = λ j l m. not_movable j (u j) }))

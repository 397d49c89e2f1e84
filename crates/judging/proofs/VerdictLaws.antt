-- The verdict on a move: its number is the one that is due, and where that is 0 it is what the rule's answer comes to.
-- Assumes nothing.
use Rattle.std.specs.Prelude.{Option, Some, None, Result, Err, IsErrAnd}
use Rattle.std.proofs.lemmas.Result.{err_from_is_err_and}
use Prim.Native.Nat.{ℕ}
use mathlib.Core.Path.{◌≡◌, refl, sym, ap, ◌∙◌}
use mathlib.Core.Logic.{◌≢◌}
use mathlib.Core.Bool.{true, false, cond, not}
use mathlib.Core.List.{List}
use native.Mathlib.Omega.{arith}
use native.Mathlib.Decide.{ℕ_discrete}
use Rattle.network.specs.declared.Place.{Place}
use Rattle.network.specs.declared.Lead.{Lead}
use Rattle.network.specs.declared.Lead.TheVariants.{Hop, Turn, Out, NotOffered}
use Rattle.network.specs.Net.{at}
use Rattle.network.specs.Search.{is_at}
use Rattle.network.proofs.Tests.{clash, cond_false}
use Rattle.board.specs.declared.Board.{Board}
use Rattle.board.specs.Board.{net_of}
use Rattle.board.specs.Layout.{layout_of}
use Rattle.trailer.specs.declared.Head.{Head}
use Rattle.table.specs.declared.refusals.Refusal.{Refusal}
use Rattle.table.specs.declared.refusals.Refusal.TheVariants.{Trailer, OutOfRange, Empty, Spoiled, NotOffered, NoRoom, AllTaken, Sizes, Buffer, Fault, NothingHeld, GivesWay}
use Rattle.table.specs.Refusals.{first_due, no_room, must_give_way, number_of}
use Rattle.table.specs.Queues.{room_at, empties_at}
use Rattle.table.proofs.RefusalLaws.{due_first, accepted_by, refused_by_lem}
use Rattle.way.specs.Way.{gives_way}
use Rattle.way.proofs.WayLaws.{stopped}
use Rattle.judging.specs.Verdicts.{Verdict}
use Rattle.judging.specs.Named.{slot_rows, slot_due}
use Rattle.judging.specs.Moves.{lead_of, lead_rows, move_due}
use Rattle.judging.specs.Verdicts.{refused_by, into, ahead, move_verdict}
use Rattle.judging.proofs.NamedLaws.{Named}
use Rattle.judging.proofs.GrantedLaws.{Granted, onward, past_slot, way_due, due_granted}

-- the refusal that a `?` passes on, as a call answers it
pub passed_on : {A B : Type 0} (answer : Result A Refusal → B) (r : Result A Refusal) (x : Refusal) → IsErrAnd r (λ y. y ≡ x) → answer r ≡ answer (Err x)
passed_on answer r x h = let e = err_from_is_err_and r h in ap answer (e.1 ∙ ap (λ (y : Refusal). Err y) e.2)

-- no refusal has the number of an accepted call
pub number_not_zero : (e : Refusal) → number_of e ≢ 0
unfolding number_of
number_not_zero Trailer z = clash cc
number_not_zero OutOfRange z = clash cc
number_not_zero Empty z = clash cc
number_not_zero Spoiled z = clash cc
number_not_zero NotOffered z = clash cc
number_not_zero NoRoom z = clash cc
number_not_zero AllTaken z = clash cc
number_not_zero Sizes z = clash cc
number_not_zero Buffer z = clash cc
number_not_zero (Fault place) z = clash cc
number_not_zero NothingHeld z = clash cc
number_not_zero GivesWay z = clash cc

module _ (empty hops : ℕ) where
  into-number : (r : Option ℕ) → (into r empty hops).number ≡ cond (not (is_at r)) no_room 0
  into-number (Some k) = refl
  into-number None = refl

  into_refused : (r : Option ℕ) → (into r empty hops).number ≢ 0 → into r empty hops ≡ refused_by (into r empty hops).number
  into_refused (Some k) u = absurd (u refl)
  into_refused None u = refl

-- what the rule's answer comes to, where the packet gives way to none
module _ (h : Head) (t : List ℕ) (here : Place) (code : ℕ) where
  ahead-number : (lead : Lead) → gives_way h t here code lead ≡ false → (ahead h.board t here lead).number ≡ first_due (lead_rows h t here code lead)
  unfolding ahead
  ahead-number (Hop n) f = rw f (into-number (empties_at h.board t (at n here.kind)) 1 (room_at h.board t (at n here.kind)))
  ahead-number (Turn k) f = rw f (into-number (empties_at h.board t (at here.node k)) 0 (room_at h.board t (at here.node k)))
  ahead-number Out f = sym (cond_false _ _ f)
  ahead-number NotOffered f = refl

module _ (b : Board) (t : List ℕ) (here : Place) where
  ahead_refused : (lead : Lead) → (ahead b t here lead).number ≢ 0 → ahead b t here lead ≡ refused_by (ahead b t here lead).number
  unfolding ahead
  ahead_refused (Hop n) u = into_refused (empties_at b t (at n here.kind)) 1 (room_at b t (at n here.kind)) u
  ahead_refused (Turn k) u = into_refused (empties_at b t (at here.node k)) 0 (room_at b t (at here.node k)) u
  ahead_refused Out u = absurd (u refl)
  ahead_refused NotOffered u = refl

module _ (h : Head) (t : List ℕ) (k code : ℕ) where
  abbrev here : Place
  here = (layout_of h.board).place_of k

  abbrev lead : Lead
  lead = lead_of h.board t k code

  pub due_refuses : (n : ℕ) → n ≡ move_due h t k code → n ≢ 0 → move_verdict h t k code ≡ refused_by n
  unfolding move_verdict move_due
  due_refuses n e u = rw (← e) (refused_by_lem _ _ u)

  granted_ahead : move_due h t k code ≡ 0 → move_verdict h t k code ≡ ahead h.board t here lead
  unfolding move_verdict move_due
  granted_ahead z = accepted_by _ _ z

  -- refused by the slot, past it by the right of way, and past that by what the rule's answer comes to
  module _ (c : (net_of h.board).known code ≡ true) where
    pub slot_refuses : (n : ℕ) → n ≡ slot_due h t k → n ≢ 0 → move_verdict h t k code ≡ refused_by n
    unfolding slot_due move_due
    slot_refuses n e u =
        due_refuses n (e ∙ sym (cond_false _ _ (ap not c) ∙ due_first (slot_rows h t k) (onward h t k code) (λ q. u (e ∙ q)))) u

    pub way_refuses : Named h t k → stopped h t k code ≡ true → move_verdict h t k code ≡ refused_by must_give_way
    way_refuses n w = due_refuses _ (sym (way_due h t k code c n w)) (λ e. omega arith)

    pub way_passes : Named h t k → stopped h t k code ≡ false → move_verdict h t k code ≡ ahead h.board t here lead
    way_passes n f =
        let d : (ahead h.board t here lead).number ≡ move_due h t k code = ahead-number h t here code lead f ∙ sym (past_slot h t k code c n) in
        elim (ℕ_discrete (move_due h t k code) 0) [
          | yes z ↦ granted_ahead z
          | no z ↦ due_refuses _ d (λ q. z (sym d ∙ q)) ∙ sym (ahead_refused h.board t here lead (λ q. z (sym d ∙ q)))
        ]

  pub verdict-number : (move_verdict h t k code).number ≡ move_due h t k code
  verdict-number = elim (ℕ_discrete (move_due h t k code) 0) [
    | yes z ↦
        let g = due_granted h t k code z in
        ap (λ (v : Verdict). v.number) (granted_ahead z) ∙ ahead-number h t here code lead g.right_of_way ∙ sym (past_slot h t k code g.known g.named)
    | no z ↦ ap (λ (v : Verdict). v.number) (due_refuses _ refl z)
  ]

-- of a verdict that was given
module _ (h : Head) (t : List ℕ) (k code : ℕ) (v : Verdict) (e : v ≡ move_verdict h t k code) where
  pub verdict_due : v.number ≡ move_due h t k code
  verdict_due = ap (λ (x : Verdict). x.number) e ∙ verdict-number h t k code

  module _ (z : v.number ≡ 0) where
    pub none_due : move_due h t k code ≡ 0
    none_due = sym verdict_due ∙ z

    pub granted : Granted h t k code
    granted = due_granted h t k code none_due

    pub is_ahead : v ≡ ahead h.board t (here h t k code) (lead h t k code)
    is_ahead = e ∙ granted_ahead h t k code none_due

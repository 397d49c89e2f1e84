-- Each call's answer as it crosses the boundary: the struct of this crate that stands for it, field by field. What a call comes to is the definition
-- of `router`, `survey` or `listing`, with its answer so turned and the bytes as they are.
-- Assumes nothing.
use Rattle.std.specs.Prelude.{ℕ, cond, List, eqb, replicate, Result, ⊤}
use Rattle.table.specs.declared.refusals.Refusal.{Refusal}
use Rattle.table.specs.Calls.{Outcome, outcome}
use Rattle.router.specs.TakeIn.{TakeAnswer, taken_slice}
use Rattle.router.specs.Move.{MoveAnswer, moved_slice}
use Rattle.router.specs.ReadPayload.{Reading}
use Rattle.survey.specs.Check.{PlacedAnswer}
use Rattle.survey.specs.Find.{FindAnswer}
use Rattle.survey.specs.Copy.{copy_answer, copied_slice}
use Rattle.listing.specs.Output.{ListAnswer, list_answer, listed_into}
use Rattle.paneglove.specs.declared.Taken.{Taken}
use Rattle.paneglove.specs.declared.Moved.{Moved}
use Rattle.paneglove.specs.declared.Read.{Read}
use Rattle.paneglove.specs.declared.Checked.{Checked}
use Rattle.paneglove.specs.declared.Found.{Found}
use Rattle.paneglove.specs.declared.Copied.{Copied}
use Rattle.paneglove.specs.declared.Listed.{Listed}

-- the answer turned, the bytes as they are
abbrev pub across : {A B C : Type 0} → (A → B) → Outcome A C → Outcome B C
across f o = outcome (f o.answer) o.bytes

abbrev pub take_across : TakeAnswer → Taken
take_across a = record { number = a.number; slot = a.slot; serial = a.serial; left = a.left }

unfoldable pub taken_across : List ℕ → ℕ → ℕ → List ℕ → Outcome Taken (List ℕ)
taken_across s source destination payload = across take_across (taken_slice s source destination payload)

abbrev pub move_across : MoveAnswer → Moved
move_across a = record { number = a.number; slot = a.slot; packet = a.packet; left = a.left }

unfoldable pub moved_across : List ℕ → ℕ → ℕ → Outcome Moved (List ℕ)
moved_across s slot code = across move_across (moved_slice s slot code)

-- the bytes of the part, or eight zeros for the empty part of a refusal
abbrev pub read_across : Reading → Read
read_across a = record { number = a.number; payload = cond (eqb a.number 0) a.bytes (replicate 8 0) }

abbrev pub check_across : PlacedAnswer → Checked
check_across a = record { number = a.number; place = a.place }

-- where the check failed, `find_answer` has its place as the slot
abbrev pub find_across : FindAnswer → Found
find_across a = record { number = a.number; slot = a.slot; code = a.code }

abbrev pub copy_across : PlacedAnswer → Copied
copy_across a = record { number = a.number; place = a.place }

unfoldable pub copied_across : List ℕ → List ℕ → Outcome Copied (List ℕ)
copied_across s out = across (λ (a : Result ⊤ Refusal). copy_across (copy_answer a)) (copied_slice s out)

abbrev pub list_across : ListAnswer → Listed
list_across a = record { number = a.number; length = a.length }

unfoldable pub listed_across : List ℕ → List ℕ → Outcome Listed (List ℕ)
listed_across s out = across (λ (a : Result ℕ Refusal). list_across (list_answer a)) (listed_into s out)

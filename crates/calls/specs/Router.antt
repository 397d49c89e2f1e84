-- A router: what each of document 01's seven calls answers and leaves, as functions on bytes. The promises are predicates over any router; ours
-- is made of the definitions that the contracts of `router` and `survey` cite.
-- Assumes nothing.
use Rattle.std.specs.Prelude.{ℕ, List}
use Rattle.board.specs.declared.Board.{Board}
use Rattle.table.specs.Calls.{Outcome, outcome}
use Rattle.router.specs.Clear.{cleared_slice}
use Rattle.router.specs.TakeIn.{TakeAnswer, taken_slice}
use Rattle.router.specs.Move.{MoveAnswer, moved_slice}
use Rattle.router.specs.ReadPayload.{Reading, read_slice}
use Rattle.survey.specs.Check.{PlacedAnswer, check_answer, checked_slice}
use Rattle.survey.specs.Find.{FindAnswer, find_answer, found_slice}
use Rattle.survey.specs.Copy.{copy_answer, copied_slice}

-- the two buffers of a copy
pub record Buffers : Type 0 where
  pub slice : List ℕ
  pub second : List ℕ

pub record Router : Type 0 where
  -- the board asked for
  pub clear : List ℕ → Board → Outcome ℕ (List ℕ)
  -- source, destination, payload
  pub take_in : List ℕ → ℕ → ℕ → List ℕ → Outcome TakeAnswer (List ℕ)
  -- slot, code
  pub make_move : List ℕ → ℕ → ℕ → Outcome MoveAnswer (List ℕ)
  -- slot
  pub read_payload : List ℕ → ℕ → Outcome Reading (List ℕ)
  pub full_check : List ℕ → Outcome PlacedAnswer (List ℕ)
  pub find : List ℕ → Outcome FindAnswer (List ℕ)
  -- the second buffer
  pub copy_outward : List ℕ → List ℕ → Outcome PlacedAnswer Buffers

-- a slice that is lent to be read only is left as it was: no call can write it
abbrev pub ours : Router
ours = record {
  clear = cleared_slice;
  take_in = taken_slice;
  make_move = moved_slice;
  read_payload = λ s slot. outcome (read_slice s slot).answer s;
  full_check = λ s. outcome (check_answer (checked_slice s)) s;
  find = λ s. outcome (find_answer (found_slice s)) s;
  copy_outward = λ s out. let o = copied_slice s out in outcome (copy_answer o.answer) record { slice = s; second = o.bytes };
}

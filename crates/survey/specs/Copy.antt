-- Outward copy: 1, 10, then 9 unless the second buffer has exactly the table's length. It receives the table with the payload of each held
-- slot zero. (An empty slot is zeros already.)
-- Assumes nothing.
use Rattle.std.specs.Prelude.{ℕ, zero, suc, List, ◌++◌, cond, eqb, length, take, drop, replicate, Result, Ok, Err, ⊤}
use Rattle.board.specs.Layout.{layout_of}
use Rattle.trailer.specs.declared.Head.{Head}
use Rattle.table.specs.declared.refusals.Refusal.{Refusal}
use Rattle.table.specs.declared.refusals.Refusal.TheVariants.{Trailer, Buffer, Fault}
use Rattle.table.specs.Calls.{Outcome, outcome}
use Rattle.survey.specs.Check.{PlacedAnswer, check_answer, on_passing}

-- a slot's bytes with the payload zero
abbrev pub without_payload : List ℕ → List ℕ
without_payload v = take 8 v ++ replicate 8 0

-- a table of n slots with every payload zero
abbrev pub veiled : ℕ → List ℕ → List ℕ
veiled zero t = t
veiled (suc n) t = without_payload (take 16 t) ++ veiled n (drop 16 t)

-- of a table that passes
unfoldable pub copied_in : List ℕ → Head → List ℕ → Outcome (Result ⊤ Refusal) (List ℕ)
copied_in out h t = cond (eqb (length out) (length t)) (outcome (Ok tt) (veiled (layout_of h.board).size t)) (outcome (Err Buffer) out)

unfoldable pub copied_slice : List ℕ → List ℕ → Outcome (Result ⊤ Refusal) (List ℕ)
copied_slice s out = on_passing s (outcome (Err Trailer) out) (λ place. outcome (Err (Fault place)) out) (copied_in out)

-- the paper's number and place of each answer
abbrev pub copy_answer : Result ⊤ Refusal → PlacedAnswer
copy_answer = check_answer

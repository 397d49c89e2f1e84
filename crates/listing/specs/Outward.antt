-- What the program `outward` writes, for any input: the table's copy for outsiders (document 01, "Outward copy") to standard output; or nothing
-- there, and to standard error why the table is refused, in the words of the check's line. An input is too long as for the listing.
-- Assumes nothing.
use Rattle.std.specs.Prelude.{ℕ, cond, ◌||◌, List, ◌++◌, ltb, length, drop, Result, Ok, Err}
use Rattle.board.specs.Layout.{layout_of}
use Rattle.trailer.specs.declared.Head.{Head}
use Rattle.table.specs.declared.refusals.Refusal.{Refusal}
use Rattle.table.specs.declared.refusals.Refusal.TheVariants.{Buffer}
use Rattle.table.specs.Refusals.{number_of}
use Rattle.table.specs.Calls.{Outcome, outcome}
use Rattle.survey.specs.Check.{on_passing}
use Rattle.survey.specs.Copy.{veiled}
use Rattle.listing.specs.declared.sending.Sent.{Sent}
use Rattle.listing.specs.declared.sending.Sent.TheVariants.{Copy, Words}
use Rattle.listing.specs.Output.{most, verdict, line_room}

-- what goes to standard output, with nothing to standard error; or the other way round
pub data Sending : Type 0 where
  copy_alone : List ℕ → Sending
  words_alone : List ℕ → Sending

-- of a table with a fault at a place: no copy, and the words for that
abbrev pub withheld : List ℕ → ℕ → Sending
withheld words place = words_alone words

-- of a table that passes: every payload zero
abbrev pub copy_of : Head → List ℕ → Sending
copy_of h t = copy_alone (veiled (layout_of h.board).size t)

-- all that is sent of s
unfoldable pub sent_of : List ℕ → Sending
sent_of s =
    cond (ltb most (length s)) (words_alone (verdict s))
    (on_passing s (words_alone (verdict s)) (withheld (verdict s)) copy_of)

-- the longest table
abbrev pub copy_room : ℕ
copy_room = 61456

-- the number of each answer, and how much of each buffer is to be sent
pub record SendAnswer : Type 0 where
  pub number : ℕ
  pub copy : ℕ
  pub words : ℕ

abbrev pub send_answer : Result Sent Refusal → SendAnswer
send_answer (Ok (Copy n)) = record { number = 0; copy = n; words = 0 }
send_answer (Ok (Words n)) = record { number = 0; copy = 0; words = n }
send_answer (Err refusal) = record { number = number_of refusal; copy = 0; words = 0 }

-- at the start of its buffer, and the bytes past it and the other buffer as they were
abbrev pub laid : Sending → List ℕ → List ℕ → Outcome (Result Sent Refusal) (List ℕ × List ℕ)
laid (copy_alone t) out line = outcome (Ok (Copy (length t))) (t ++ drop (length t) out, line)
laid (words_alone t) out line = outcome (Ok (Words (length t))) (out, t ++ drop (length t) line)

unfoldable pub sent_into : List ℕ → List ℕ → List ℕ → Outcome (Result Sent Refusal) (List ℕ × List ℕ)
sent_into s out line =
    cond (ltb (length out) copy_room || ltb (length line) line_room)
    (outcome (Err Buffer) (out, line))
    (laid (sent_of s) out line)

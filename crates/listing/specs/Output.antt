-- What the listing program prints, for any input (document 01, "The listing program"), and the one line of the check.
-- Assumes nothing.
use Rattle.std.specs.Prelude.{ℕ, cond, List, ◌++◌, ltb, length, drop, Result, Ok, Err, ⊤}
use Rattle.table.specs.declared.refusals.Refusal.{Refusal}
use Rattle.table.specs.declared.refusals.Refusal.TheVariants.{Buffer, Fault}
use Rattle.table.specs.Refusals.{trailer_not_good, wrong_length, check_failed, number_of}
use Rattle.table.specs.Calls.{Outcome, outcome}
use Rattle.survey.specs.Check.{on_passing, checked_slice}
use Rattle.text.specs.Dec.{dec}
use Rattle.text.specs.Text.{text}
use Rattle.lines.specs.Lines.{table_text, room}

-- the longest input that is read
abbrev pub most : ℕ
most = 65536

-- `refused N`
unfoldable pub refusal_line : ℕ → List ℕ
refusal_line n = text "refused " ++ dec n ++ text "\n"

-- `refused 10 at N`
unfoldable pub fault_line : ℕ → List ℕ
fault_line place = (text "refused " ++ dec check_failed) ++ (text " at " ++ dec place) ++ text "\n"

-- the line that tells a refusal
abbrev pub refusal_words : Refusal → List ℕ
refusal_words (Fault place) = fault_line place
refusal_words refusal = refusal_line (number_of refusal)

-- the check's answer as one line
abbrev pub verdict_line : Result ⊤ Refusal → List ℕ
verdict_line (Ok done) = text "passes\n"
verdict_line (Err refusal) = refusal_words refusal

-- a text, unless the input is too long
abbrev pub unless_long : List ℕ → List ℕ → List ℕ
unless_long s t = cond (ltb most (length s)) (refusal_line wrong_length) t

-- all that is printed of s
unfoldable pub listing : List ℕ → List ℕ
listing s = unless_long s (on_passing s (refusal_line trailer_not_good) fault_line table_text)

-- the one line that tells whether s passes
unfoldable pub verdict : List ℕ → List ℕ
verdict s = unless_long s (verdict_line (checked_slice s))

-- room for the check's line
abbrev pub line_room : ℕ
line_room = 59

-- the number of each answer, and how much of the buffer is text
pub record ListAnswer : Type 0 where
  pub number : ℕ
  pub length : ℕ

abbrev pub list_answer : Result ℕ Refusal → ListAnswer
list_answer (Ok n) = record { number = 0; length = n }
list_answer (Err refusal) = record { number = number_of refusal; length = 0 }

-- a text at the start of a buffer that has room for it, and the bytes past it as they were
abbrev pub into : ℕ → List ℕ → List ℕ → Outcome (Result ℕ Refusal) (List ℕ)
into need t out = cond (ltb (length out) need) (outcome (Err Buffer) out) (outcome (Ok (length t)) (t ++ drop (length t) out))

unfoldable pub listed_into : List ℕ → List ℕ → Outcome (Result ℕ Refusal) (List ℕ)
listed_into s out = into room (listing s) out

unfoldable pub verdict_into : List ℕ → List ℕ → Outcome (Result ℕ Refusal) (List ℕ)
verdict_into s out = into line_room (verdict s) out

-- The shape of every call: an answer, and the bytes of what was lent as it returns; the first refusal that is due changes nothing.
-- Assumes nothing.
use Rattle.std.specs.Prelude.{ℕ, ◌-◌, cond, List, ◌++◌, eqb, length, take, drop, Option, Some, None}
use Rattle.trailer.specs.declared.Head.{Head}
use Rattle.trailer.specs.Trailer.{trailer_of}
use Rattle.table.specs.Refusals.{Row, first_due, trailer_not_good}

pub record Outcome (A B : Type 0) : Type 0 where
  pub answer : A
  pub bytes : B

abbrev pub outcome : {A B : Type 0} → A → B → Outcome A B
outcome a b = record { answer = a; bytes = b }

-- a refusal, with nothing changed, where one of the rows is due; else what is done
abbrev pub answered : {A B : Type 0} → List Row → (ℕ → A) → B → Outcome A B → Outcome A B
answered rows refusal lent done = cond (eqb (first_due rows) 0) done (outcome (refusal (first_due rows)) lent)

-- the bytes before the table are kept
abbrev pub after : {A : Type 0} → List ℕ → Outcome A (List ℕ) → Outcome A (List ℕ)
after p o = outcome o.answer (p ++ o.bytes)

-- a call on the table of a slice: refusal 1 where the trailer is not good; else what f says of the table
abbrev pub on_headed : {A : Type 0} → List ℕ → (ℕ → A) → (Head → List ℕ → Outcome A (List ℕ)) → Option Head → Outcome A (List ℕ)
on_headed s refusal f None = outcome (refusal trailer_not_good) s
on_headed s refusal f (Some h) = after (take (length s - h.size) s) (f h (drop (length s - h.size) s))

abbrev pub on_table : {A : Type 0} → List ℕ → (ℕ → A) → (Head → List ℕ → Outcome A (List ℕ)) → Outcome A (List ℕ)
on_table s refusal f = on_headed s refusal f (trailer_of s)

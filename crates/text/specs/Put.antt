-- A text put into a buffer: the bytes before and after it stay.
-- Assumes nothing.
use Rattle.std.specs.Prelude.{ℕ, ◌+◌, ◌≤◌, ◌≡◌, List, length}
use Rattle.std.specs.Borrow.{MutBor}
use Rattle.slots.specs.Bytes.{put}
use Rattle.text.specs.declared.Text.{Text}

-- the text t has room in d from place at on
pub record Fits (d : List ℕ) (at : ℕ) (t : List ℕ) : Type 0 where
  pub room : at + length t ≤ length d

-- r is the place past the text, and e is d with the text in it
pub record Wrote (d : List ℕ) (at : ℕ) (t e : List ℕ) (r : ℕ) : Type 0 where
  pub fits : Fits d at t
  pub next : r ≡ at + length t
  pub bytes : e ≡ put d at t

-- the buffer d, of which nothing is written
abbrev pub begun : MutBor (List ℕ) → Text
begun d = record { buf = d; at = 0 }

-- the text t has room past what is written of x
abbrev pub Takes : Text → List ℕ → Type 0
Takes x t = Fits x.buf.now x.at t

-- x with the text t written past what was
unfoldable pub added : Text → List ℕ → Text
added x t = record x { buf = record x.buf { now = put x.buf.now x.at t }; at = x.at + length t }

-- A machine that answers calls, and what comes of any list of them.
-- Assumes nothing.
use Rattle.std.specs.Prelude.{List, [], ◌∷◌, ℕ, suc}
use Rattle.network.specs.Packet.{Delivery}

-- what a call leaves: nothing changed (a proposed move refused, or a call that only reads), a packet moved, or one delivered
pub data Answer (S : Type 0) : Type 0 where
  unchanged : Answer S
  moved : S → Answer S
  delivered : S → Delivery → Answer S

abbrev pub Accepted : {S : Type 0} → Answer S → Type 0
Accepted unchanged = ⊥
Accepted (moved t) = Unit {0}
Accepted (delivered t d) = Unit {0}

-- the last state, what was handed out, and how many moves were accepted
pub record Trace (S : Type 0) : Type 0 where
  pub last : S
  pub given : List Delivery
  pub accepted : ℕ

abbrev pub after : {S : Type 0} → (S → Trace S) → S → Answer S → Trace S
after go s unchanged = go s
after go s (moved t) = let r = go t in record { last = r.last; given = r.given; accepted = suc r.accepted }
after go s (delivered t d) = let r = go t in record { last = r.last; given = d ∷ r.given; accepted = suc r.accepted }

-- calls one after the other, each on what the one before left
abbrev pub trace : {S C : Type 0} → (S → C → Answer S) → S → List C → Trace S
trace answer s [] = record { last = s; given = []; accepted = 0 }
trace answer s (c ∷ cs) = after (λ t. trace answer t cs) s (answer s c)

-- How long a listing is: at most the room for a table's lines; and a verdict at most one line of 59.
-- Assumes nothing.
use Rattle.std.specs.Prelude.{Option, Some, None, Ok, Err}
use Prim.Native.Nat.{ℕ, ◌+◌, ◌-◌, ◌^◌, ◌≤◌, ◌<◌}
use mathlib.Core.Path.{◌≡◌, refl}
use mathlib.Core.Bool.{Bool, true, false, cond}
use mathlib.Core.List.{List}
use native.Mathlib.Omega.{arith}
use lib.Dec.{ltb}
use lib.ListN.{length, get_or, drop, length-append}
use lib.Seq.{get_or-drop}
use Rattle.board.proofs.BoardLaws.{slots_most}
use Rattle.trailer.specs.declared.Head.{Head}
use Rattle.trailer.specs.Trailer.{trailer_of, last16, GoodTrailer}
use Rattle.trailer.proofs.TrailerLaws.{trailer_good}
use Rattle.table.specs.Refusals.{trailer_not_good, wrong_length, number_of}
use Rattle.table.specs.declared.refusals.Refusal.TheVariants.{Trailer, Fault}
use Rattle.survey.specs.Check.{fault_in, fault_or, unless_fault, read_by, on_passing, checked_slice}
use Rattle.survey.proofs.CheckLaws.{held_good, fault-most}
use Rattle.text.proofs.DecLaws.{length-dec}
use Rattle.lines.specs.Lines.{table_text, room}
use Rattle.lines.proofs.Bounds.{table_short}
use Rattle.listing.specs.Output.{most, refusal_line, fault_line, verdict_line, unless_long, listing, verdict, line_room}

-- ---- refusals

refusal_short : (n : ℕ) → n < 100 → length (refusal_line n) ≤ line_room
unfolding refusal_line
refusal_short n l = simp length-append (omega (arith, length-dec 1 n (omega arith)))

fault_short : (place : ℕ) → place ≤ 3840 → length (fault_line place) ≤ line_room
unfolding fault_line
fault_short place l = simp length-append (omega (arith, length-dec 1 10 (omega arith), length-dec 3 place (omega arith)))

-- ---- all that is printed of a slice

unless_short : (need : ℕ) (s t : List ℕ) → 59 ≤ need → length t ≤ need → length (unless_long s t) ≤ need
unless_short need s t l k = go (ltb most (length s))
  where
    go : (b : Bool) → length (cond b (refusal_line wrong_length) t) ≤ need
    go true = omega (arith, refusal_short wrong_length (omega arith))
    go false = k

module _ (s : List ℕ) where
  abbrev table : Head → List ℕ
  table h = drop (length s - h.size) s

  -- a fault's place is a slot, or S
  named_short : (h : Head) → trailer_of s ≡ Some h → (place : ℕ) → fault_in h (table h) ≡ Some place → length (fault_line place) ≤ line_room
  named_short h e place f = fault_short place (omega (arith, fault-most h (table h) place f, slots_most h.board (trailer_good s e).ranges))

  pub verdict_short : length (verdict s) ≤ line_room
  unfolding verdict checked_slice number_of
  verdict_short = unless_short line_room s (verdict_line (checked_slice s)) (omega arith) (by (trailer_of s) refl)
    where
      told : (h : Head) → trailer_of s ≡ Some h → (x : Option ℕ) → fault_in h (table h) ≡ x → length (verdict_line (fault_or (λ place. Err (Fault place)) (Ok tt) x)) ≤ line_room
      told h e (Some place) f = named_short h e place f
      told h e None f = omega arith

      by : (x : Option Head) → trailer_of s ≡ x → length (verdict_line (read_by s (Err Trailer) (unless_fault (λ place. Err (Fault place)) (λ h t. Ok tt)) x)) ≤ line_room
      by None e = refusal_short trailer_not_good (omega arith)
      by (Some h) e = told h e (fault_in h (table h)) refl

  module _ (byte : (i : ℕ) → get_or s i 0 < 256) where
    taken_few : (h : Head) → GoodTrailer s h → h.taken < 2 ^ 32
    taken_few h g =
        let b : (i : ℕ) → get_or (last16 s) i 0 < 256 = λ i. rw (get_or-drop (length s - 16) s i 0) (byte (length s - 16 + i)) in
        rw g.read (omega (arith, b 4, b 5, b 6, b 7))

    pub listing_short : length (listing s) ≤ room
    unfolding listing
    listing_short = unless_short room s (on_passing s (refusal_line trailer_not_good) fault_line table_text) (omega arith) (by (trailer_of s) refl)
      where
        told : (h : Head) → trailer_of s ≡ Some h → (x : Option ℕ) → fault_in h (table h) ≡ x
            → length (fault_or fault_line (table_text h (table h)) x) ≤ room
        told h e (Some place) f = omega (arith, named_short h e place f)
        told h e None f = let g = trailer_good s e in table_short h g.ranges (table h) (taken_few h g) (held_good h (table h) f) g.counts

        by : (x : Option Head) → trailer_of s ≡ x → length (read_by s (refusal_line trailer_not_good) (unless_fault fault_line table_text) x) ≤ room
        by None e = omega (arith, refusal_short trailer_not_good (omega arith))
        by (Some h) e = told h e (fault_in h (table h)) refl

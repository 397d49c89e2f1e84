-- The refusals' numbers, and the first that is due (document 01, "What each call answers"; document 02).
-- Assumes nothing.
use Rattle.std.specs.Prelude.{ℕ, Bool, cond, List, [], ◌∷◌, Result, Ok, Err}
use Rattle.table.specs.declared.refusals.Refusal.{Refusal}
use Rattle.table.specs.declared.refusals.Refusal.TheVariants.{Trailer, OutOfRange, Empty, Spoiled, NotOffered, NoRoom, AllTaken, Sizes, Buffer, Fault, NothingHeld, GivesWay}

abbrev pub trailer_not_good : ℕ
trailer_not_good = 1

abbrev pub out_of_range : ℕ
out_of_range = 2

abbrev pub slot_empty : ℕ
slot_empty = 3

abbrev pub slot_spoiled : ℕ
slot_spoiled = 4

abbrev pub not_offered : ℕ
not_offered = 5

abbrev pub no_room : ℕ
no_room = 6

abbrev pub all_taken : ℕ
all_taken = 7

abbrev pub sizes_not_accepted : ℕ
sizes_not_accepted = 8

abbrev pub wrong_length : ℕ
wrong_length = 9

abbrev pub check_failed : ℕ
check_failed = 10

abbrev pub nothing_held : ℕ
nothing_held = 11

abbrev pub must_give_way : ℕ
must_give_way = 12

-- a refusal's number, and when it is due
pub record Row : Type 0 where
  pub number : ℕ
  pub due : Bool

abbrev pub row : ℕ → Bool → Row
row n b = record { number = n; due = b }

-- the number of the first row that is due, or 0
abbrev pub first_due : List Row → ℕ
first_due [] = 0
first_due (r ∷ rs) = cond r.due r.number (first_due rs)

-- the number of each refusal, and the place that stands beside 10
unfoldable pub number_of : Refusal → ℕ
number_of Trailer = trailer_not_good
number_of OutOfRange = out_of_range
number_of Empty = slot_empty
number_of Spoiled = slot_spoiled
number_of NotOffered = not_offered
number_of NoRoom = no_room
number_of AllTaken = all_taken
number_of Sizes = sizes_not_accepted
number_of Buffer = wrong_length
number_of (Fault place) = check_failed
number_of NothingHeld = nothing_held
number_of GivesWay = must_give_way

unfoldable pub place_of : Refusal → ℕ
place_of Trailer = 0
place_of OutOfRange = 0
place_of Empty = 0
place_of Spoiled = 0
place_of NotOffered = 0
place_of NoRoom = 0
place_of AllTaken = 0
place_of Sizes = 0
place_of Buffer = 0
place_of (Fault place) = place
place_of NothingHeld = 0
place_of GivesWay = 0

-- the number that a call answers: 0 where it is accepted
abbrev pub told : {A : Type 0} → Result A Refusal → ℕ
told (Ok a) = 0
told (Err e) = number_of e

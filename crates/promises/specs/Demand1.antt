-- Demand 1: each refusal has its number, is given exactly where the paper says, and changes no byte; a slot left by a packet holds only zeros.
-- Assumes nothing.
use Rattle.std.specs.Prelude.{ℕ, ◌<◌, ◌≤◌, ◌≡◌, ◌≢◌, ◌⊎◌, ◌↔◌, false, List, [], ◌++◌, length}
use Rattle.network.specs.declared.Kind.TheVariants.{Waiting}
use Rattle.network.specs.declared.Lead.TheVariants.{NotOffered}
use Rattle.network.specs.Net.{at}
use Rattle.slots.specs.Slots.{empty_slot}
use Rattle.board.specs.declared.Board.{Board}
use Rattle.board.specs.Board.{GoodBoard}
use Rattle.board.specs.Layout.{table_size}
use Rattle.table.specs.Calls.{Outcome, outcome, after}
use Rattle.router.specs.Move.{MoveAnswer}
use Rattle.router.specs.TakeIn.{TakeAnswer}
use Rattle.router.specs.Clear.{used}
use Rattle.router.specs.ReadPayload.{Reading}
use Rattle.survey.specs.Check.{PlacedAnswer}
use Rattle.survey.specs.Find.{FindAnswer}
use Rattle.calls.specs.Slices.{Bytes, head_in, GoodIn, net_in, slots_in, place_in}
use Rattle.calls.specs.Router.{Router}
use Rattle.promises.specs.Conditions.{EmptyAt, SpoiledAt, IsCode, lead_in, HasEmpty, Room, GivesWay, FaultAt, NothingHeld}

-- the refusals of a call in the papers' order, each with its number and the condition that it is given for
pub data Grounds : Type 1 where
  end : Grounds
  ground : ℕ → Type 0 → Grounds → Grounds

-- n is the number of the first condition that holds, and 0 where none does
abbrev pub First : Grounds → ℕ → Type 0
First end n = n ≡ 0
First (ground m Condition rest) n = (Condition × (n ≡ m)) ⊎ ((Condition → ⊥) × First rest n)

abbrev pub clear_grounds : List ℕ → Board → Grounds
clear_grounds s b =
    ground 8 (GoodBoard (used b) → ⊥)
    (ground 9 (length s < table_size (used b))
    end)

abbrev pub take_grounds : List ℕ → ℕ → ℕ → Grounds
take_grounds s source destination =
    ground 1 (GoodIn s → ⊥)
    (ground 2 (((net_in s).valid source ≡ false) ⊎ ((net_in s).valid destination ≡ false))
    (ground 7 ((head_in s).taken ≡ 4294967295)
    (ground 6 (HasEmpty s (at source Waiting) → ⊥)
    end)))

-- those of a named slot, then the rest
abbrev pub slot_grounds : List ℕ → ℕ → Type 0 → Grounds → Grounds
slot_grounds s slot Odd rest =
    ground 1 (GoodIn s → ⊥)
    (ground 2 ((slots_in s ≤ slot) ⊎ Odd)
    (ground 3 (EmptyAt s slot)
    (ground 4 (SpoiledAt s slot)
    rest)))

abbrev pub move_grounds : List ℕ → ℕ → ℕ → Grounds
move_grounds s slot code =
    slot_grounds s slot (IsCode s code → ⊥)
    (ground 5 (lead_in s slot code ≡ NotOffered)
    (ground 12 (GivesWay s slot code)
    (ground 6 (Room s (place_in s slot) (lead_in s slot code) → ⊥)
    end)))

abbrev pub read_grounds : List ℕ → ℕ → Grounds
read_grounds s slot = slot_grounds s slot ⊥ end

abbrev pub check_grounds : List ℕ → Grounds → Grounds
check_grounds s rest =
    ground 1 (GoodIn s → ⊥)
    (ground 10 ((place : ℕ) × FaultAt s place)
    rest)

abbrev pub find_grounds : List ℕ → Grounds
find_grounds s = check_grounds s (ground 11 (NothingHeld s) end)

abbrev pub copy_grounds : List ℕ → List ℕ → Grounds
copy_grounds s out = check_grounds s (ground 9 (length out ≢ (head_in s).size) end)

-- the answer is n exactly when condition n holds and no earlier one does; a refusal says what Told says beside its number, and changes no byte
pub record Refuses {A B : Type 0} (number : A → ℕ) (Told : A → Type 0) (grounds : Grounds) (lent : B) (o : Outcome A B) : Type 0 where
  pub exactly : (n : ℕ) → (number o.answer ≡ n) ↔ First grounds n
  pub told : number o.answer ≢ 0 → Told o.answer
  pub unchanged : number o.answer ≢ 0 → o.bytes ≡ lent

-- zeros beside the number
abbrev pub NothingTaken : TakeAnswer → Type 0
NothingTaken a = (a.slot ≡ 0) × (a.serial ≡ 0) × (a.left ≡ 0)

abbrev pub NothingMoved : MoveAnswer → Type 0
NothingMoved a = (a.slot ≡ 0) × (a.packet ≡ empty_slot) × (a.left ≡ 0)

-- the place is named with 10, and else is zero
abbrev pub Placed : List ℕ → ℕ → ℕ → Type 0
Placed s number place = (number ≡ 10 → FaultAt s place) × (number ≢ 10 → place ≡ 0)

-- with any bytes p before a table t: the answer is that on t alone, and the bytes left are p followed by what is left of t
pub record Behind (R : Router) (p t : List ℕ) : Type 0 where
  pub take_in : (source destination : ℕ) (payload : List ℕ) → R.take_in (p ++ t) source destination payload ≡ after p (R.take_in t source destination payload)
  pub make_move : (slot code : ℕ) → R.make_move (p ++ t) slot code ≡ after p (R.make_move t slot code)
  pub read_payload : (slot : ℕ) → R.read_payload (p ++ t) slot ≡ after p (R.read_payload t slot)
  pub full_check : R.full_check (p ++ t) ≡ after p (R.full_check t)
  pub find : R.find (p ++ t) ≡ after p (R.find t)
  pub copy_outward : (out : List ℕ) → let o = R.copy_outward t out in
      R.copy_outward (p ++ t) out ≡ outcome o.answer record { slice = p ++ o.bytes.slice; second = o.bytes.second }

pub record Demand1 (R : Router) : Type 0 where
  pub clear : (s : List ℕ) → Bytes s → (b : Board) → Refuses (λ (n : ℕ). n) (λ n. Unit {0}) (clear_grounds s b) s (R.clear s b)
  pub take_in : (s : List ℕ) → Bytes s → (source destination : ℕ) (payload : List ℕ)
      → Refuses (λ (a : TakeAnswer). a.number) NothingTaken (take_grounds s source destination) s (R.take_in s source destination payload)
  pub make_move : (s : List ℕ) → Bytes s → (slot code : ℕ)
      → Refuses (λ (a : MoveAnswer). a.number) NothingMoved (move_grounds s slot code) s (R.make_move s slot code)
  pub read_payload : (s : List ℕ) → Bytes s → (slot : ℕ)
      → Refuses (λ (a : Reading). a.number) (λ a. a.bytes ≡ []) (read_grounds s slot) s (R.read_payload s slot)
  pub full_check : (s : List ℕ) → Bytes s
      → Refuses (λ (a : PlacedAnswer). a.number) (λ a. Placed s a.number a.place) (check_grounds s end) s (R.full_check s)
  pub find : (s : List ℕ) → Bytes s
      → Refuses (λ (a : FindAnswer). a.number) (λ a. Placed s a.number a.slot × (a.code ≡ 0)) (find_grounds s) s (R.find s)
  pub copy_outward : (s out : List ℕ) → Bytes s
      → Refuses (λ (a : PlacedAnswer). a.number) (λ a. Placed s a.number a.place) (copy_grounds s out) record { slice = s; second = out } (R.copy_outward s out)
  -- accepted or not, these change no byte of the table's slice
  pub reads : (s out : List ℕ) (slot : ℕ)
      → ((R.read_payload s slot).bytes ≡ s) × ((R.full_check s).bytes ≡ s) × ((R.find s).bytes ≡ s) × ((R.copy_outward s out).bytes.slice ≡ s)
  -- a slot left by a packet holds only zeros
  pub emptied : (s : List ℕ) → Bytes s → (slot code : ℕ) → (R.make_move s slot code).answer.number ≡ 0 → EmptyAt (R.make_move s slot code).bytes slot
  -- with any bytes before a table
  pub behind : (p t : List ℕ) → GoodIn t → Behind R p t
  -- a table that is to be cleared is known by its length alone
  pub behind_clear : (p t : List ℕ) (b : Board) → (GoodBoard (used b) → table_size (used b) ≤ length t) → R.clear (p ++ t) b ≡ after p (R.clear t b)

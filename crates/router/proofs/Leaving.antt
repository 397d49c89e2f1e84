-- A granted move, before it is made: the table has its board's length and the slot lies in it; and what the packets seen become where it leaves its slot.
-- Assumes nothing.
use Rattle.std.specs.Prelude.{Some}
use Prim.Native.Nat.{ℕ, ◌+◌, ◌*◌, ◌<◌, ◌≤◌}
use mathlib.Core.Path.{◌≡◌, ap, ◌∙◌}
use mathlib.Core.List.{List}
use lib.ListN.{length}
use Rattle.network.specs.View.{View}
use Rattle.network.specs.Table.{Vacated}
use Rattle.network.proofs.Slots.{emptied}
use Rattle.slots.specs.Slots.{slot_at}
use Rattle.board.specs.Layout.{layout_of, Sized}
use Rattle.board.proofs.BoardLaws.{slot_fits}
use Rattle.trailer.specs.declared.Head.{Head}
use Rattle.trailer.specs.Trailer.{trailer_of}
use Rattle.trailer.proofs.TrailerLaws.{table_sized}
use Rattle.table.specs.Packets.{slot_of, view_of}
use Rattle.table.specs.Carriage.{vacated}
use Rattle.table.proofs.CarriageLaws.{vacated_there, vacated_other}
use Rattle.judging.specs.Moves.{move_due}
use Rattle.judging.proofs.GrantedLaws.{Granted, due_granted}

pub record Leaving (h : Head) (t : List ℕ) (k code : ℕ) : Type 0 where
  pub granted : Granted h t k code
  pub sized : Sized h.board t
  pub inside : k < (layout_of h.board).size
  pub fits : 16 * k + 16 ≤ length t

pub leaving : (h : Head) (t : List ℕ) → trailer_of t ≡ Some h → length t ≡ h.size → (k code : ℕ) → move_due h t k code ≡ 0 → Leaving h t k code
leaving h t e full k code z =
    let g = due_granted h t k code z in
    let s = table_sized t e full in
    record { granted = g; sized = s; inside = g.named.inside; fits = slot_fits s k g.named.inside }

-- a table whose slots are those that the leaving leaves
pub vacates : {h : Head} {t : List ℕ} {k code : ℕ} → Leaving h t k code → (w : View)
    → ((i : ℕ) → i < (layout_of h.board).size → w.at i ≡ slot_of (slot_at (vacated h.board t k) i))
    → Vacated (layout_of h.board) (view_of h t) w k 0
vacates {h} {t} {k} l w shows =
    emptied (layout_of h.board) (view_of h t) w k l.inside
    (shows k l.inside ∙ ap slot_of (vacated_there h.board t k l.fits))
    (λ i m u. shows i m ∙ ap slot_of (vacated_other h.board t k l.fits i u))

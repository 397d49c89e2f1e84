-- A slice that stands: its trailer is good, its count of packets taken in is one of four bytes, and its table passes. Such a slice's full check
-- answers 0.
-- Assumes nothing.
use Rattle.std.specs.Prelude.{Some}
use Prim.Native.Nat.{ℕ, ◌-◌, ◌<◌, ◌^◌}
use mathlib.Core.Path.{◌≡◌, sym, subst}
use mathlib.Core.List.{List, ◌++◌}
use lib.ListN.{length, drop}
use Rattle.network.specs.Contents.{Passing}
use Rattle.network.specs.View.{View, contents}
use Rattle.board.specs.Board.{net_of}
use Rattle.board.specs.Layout.{layout_of}
use Rattle.trailer.specs.declared.Head.{Head}
use Rattle.trailer.specs.Trailer.{trailer_of}
use Rattle.trailer.proofs.TrailerLaws.{trailer-after}
use Rattle.table.specs.Packets.{view_of}
use Rattle.survey.specs.Check.{check_answer, checked_slice}
use Rattle.calls.specs.Slices.{net_in, see, contents_in}
use Rattle.promises.proofs.Reading.{head_is, good_in}
use Rattle.promises.proofs.Slices.{see-after, see_good}
use Rattle.promises.proofs.Checked.{passes_in}

pub record Stands (s : List ℕ) (h : Head) : Type 0 where
  pub head : trailer_of s ≡ Some h
  pub small : h.taken < 2 ^ 32
  pub passing : Passing (net_of h.board) (contents (layout_of h.board) (see s))

-- the same of the table alone
pub table_passing : (s : List ℕ) (h : Head) → Stands s h → Passing (net_of h.board) (contents (layout_of h.board) (view_of h (drop (length s - h.size) s)))
table_passing s h a = subst (λ (v : View). Passing (net_of h.board) (contents (layout_of h.board) v)) (see_good s h a.head) a.passing

-- a table that stands does so behind any bytes
pub stands_after : (p t : List ℕ) (h : Head) → trailer_of t ≡ Some h → length t ≡ h.size → h.taken < 2 ^ 32
    → Passing (net_of h.board) (contents (layout_of h.board) (view_of h t)) → Stands (p ++ t) h
stands_after p t h e l small P = record {
  head = trailer-after p t e;
  small = small;
  passing = subst (λ (v : View). Passing (net_of h.board) (contents (layout_of h.board) v)) (sym (see-after p t h e l)) P;
}

-- as the slice's own words have it
stands_in : (s : List ℕ) (h : Head) → Stands s h → Passing (net_in s) (contents_in s)
stands_in s h a = subst (λ (g : Head). Passing (net_of g.board) (contents (layout_of g.board) (see s))) (sym (head_is s a.head)) a.passing

pub stands_checked : (s : List ℕ) (h : Head) → Stands s h → (check_answer (checked_slice s)).number ≡ 0
stands_checked s h a = rw (passes_in s (good_in s a.head) (stands_in s h a))

-- What a good trailer says; which bytes it is read of; and that a slot written keeps it.
-- Assumes nothing.
use Rattle.std.specs.Prelude.{Option, Some, None}
use Prim.Native.Nat.{ℕ, ◌+◌, ◌-◌, ◌*◌, ◌≤◌, ◌<◌}
use mathlib.Core.Path.{◌≡◌, refl, sym, ap, ◌∙◌}
use mathlib.Core.List.{List, ◌++◌}
use mathlib.Core.Bool.{Bool, true, false, cond}
use native.Mathlib.Omega.{arith}
use borrow.Author.Tests.{leb-true, eqb-true, le-leb, eq-eqb}
use lib.ListN.{length, drop, length-append, length-drop}
use lib.Seq.{drop-append-add, drop-drop}
use Rattle.network.proofs.Tests.{both_true, clash, cond_true, and_yes}
use Rattle.slots.specs.Slots.{with_slot}
use Rattle.slots.proofs.SlotLaws.{drop-with_slot, length-with_slot}
use Rattle.board.specs.Layout.{layout_of, Sized}
use Rattle.board.proofs.Sizes.{board_good, good_board}
use Rattle.trailer.specs.declared.Head.{Head}
use Rattle.trailer.specs.Trailer.{head_of, head_ok, trailer_of, last16, GoodTrailer}

pub length-last16 : (s : List ℕ) → 16 ≤ length s → length (last16 s) ≡ 16
length-last16 s l = rw length-drop (omega arith)

-- a choice with `Bad` for its other arm was taken
chosen : (b : Bool) (x : Option Head) {h : Head} → cond b x None ≡ Some h → (b ≡ true) × (x ≡ Some h)
chosen true x e = (refl, e)
chosen false x e = clash cc

good : {a b : Head} → Some a ≡ Some b → a ≡ b
good e = cc

pub trailer_good : (s : List ℕ) {h : Head} → trailer_of s ≡ Some h → GoodTrailer s h
unfolding head_ok trailer_of
trailer_good s {h} e =
    let a = chosen _ _ e in
    let b = chosen _ _ a.1 in
    let q : h ≡ head_of (last16 s) = sym (good b.1) in
    let ok : head_ok h (length s) ≡ true = rw q b.0 in
    let k = both_true _ _ ok in
    let m = both_true _ _ k.1 in
    let n = both_true _ _ m.1 in
    record {
      long = leb-true _ _ a.0;
      read = q;
      ranges = board_good _ k.0;
      counts = leb-true _ _ m.0;
      size_is = eqb-true _ _ n.0;
      size_in = leb-true _ _ n.1;
    }

pub good_trailer : {s : List ℕ} {h : Head} → GoodTrailer s h → trailer_of s ≡ Some h
unfolding head_ok trailer_of
good_trailer {s} g =
    let ok : head_ok (head_of (last16 s)) (length s) ≡ true =
    ap (λ (x : Head). head_ok x (length s)) (sym g.read)
    ∙ and_yes (good_board g.ranges)
    ∙ and_yes (le-leb _ _ g.counts)
    ∙ and_yes (eq-eqb _ _ g.size_is)
    ∙ le-leb _ _ g.size_in in
    cond_true _ _ (le-leb _ _ g.long) ∙ cond_true _ _ ok ∙ ap Some (sym g.read)

-- ---- the trailer is read of the length and the last 16 bytes alone, and a good one stays good in any slice that its table fits

pub trailer_same : (s u : List ℕ) → length s ≡ length u → last16 s ≡ last16 u → trailer_of s ≡ trailer_of u
unfolding trailer_of
trailer_same s u e d = rw (d, e)

pub trailer_moved : (s u : List ℕ) {h : Head} → trailer_of s ≡ Some h → last16 u ≡ last16 s → h.size ≤ length u → trailer_of u ≡ Some h
trailer_moved s u e d l =
    let g = trailer_good s e in
    good_trailer
    (record {
      long = omega arith;
      read = g.read ∙ ap head_of (sym d);
      ranges = g.ranges;
      counts = g.counts;
      size_is = g.size_is;
      size_in = l;
    })

-- of a table with bytes before it, where the distance does not lead past the table
pub trailer_before : (p t : List ℕ) → 16 ≤ length t → (head_of (last16 t)).size ≤ length t → trailer_of (p ++ t) ≡ trailer_of t
unfolding head_ok trailer_of
trailer_before p t long in_table =
    let l : length (p ++ t) ≡ length p + length t = length-append p t in
    let at : length (p ++ t) - 16 ≡ length p + (length t - 16) = omega arith in
    let same : last16 (p ++ t) ≡ last16 t = rw at (drop-append-add p t (length t - 16)) in
    rw (
      le-leb 16 (length (p ++ t)) (omega arith),
      le-leb 16 (length t) long,
      same,
      le-leb (head_of (last16 t)).size (length (p ++ t)) (omega arith),
      le-leb (head_of (last16 t)).size (length t) in_table,
    )

pub trailer-after : (p t : List ℕ) {h : Head} → trailer_of t ≡ Some h → trailer_of (p ++ t) ≡ Some h
trailer-after p t e =
    let g = trailer_good t e in
    let q = ap (λ (x : Head). x.size) g.read in
    trailer_before p t g.long (omega arith) ∙ e

module _ (s : List ℕ) {h : Head} (e : trailer_of s ≡ Some h) where
  -- of a slice's table
  pub length-table : length (drop (length s - h.size) s) ≡ h.size
  length-table = let g = trailer_good s e in rw length-drop (omega arith)

  pub trailer-table : trailer_of (drop (length s - h.size) s) ≡ Some h
  trailer-table =
      let g = trailer_good s e in
      let at : length s - h.size + (h.size - 16) ≡ length s - 16 = omega arith in
      let d : last16 (drop (length s - h.size) s) ≡ last16 s = rw (length-table, drop-drop, at) in
      trailer_moved s (drop (length s - h.size) s) e d (omega (arith, length-table))

  -- a slice that is its table
  pub table_sized : length s ≡ h.size → Sized h.board s
  table_sized l = let g = trailer_good s e in record { board = g.ranges; full = l ∙ g.size_is }

pub trailer_sized : (s : List ℕ) {h : Head} → trailer_of s ≡ Some h → Sized h.board (drop (length s - h.size) s)
trailer_sized s {h} e = table_sized (drop (length s - h.size) s) (trailer-table s e) (length-table s e)

-- ---- a slot written

pub trailer-with_slot : (t : List ℕ) {h : Head} (k : ℕ) (v : List ℕ) → trailer_of t ≡ Some h → length t ≡ h.size
    → k < (layout_of h.board).size → length v ≡ 16 → trailer_of (with_slot t k v) ≡ Some h
trailer-with_slot t {h} k v e l b lv =
    let n : ℕ = (layout_of h.board).size in
    let full : length t ≡ 16 * n + 16 = (table_sized t e l).full in
    let lw : length (with_slot t k v) ≡ length t = length-with_slot t k (omega arith) v lv in
    let at : length t - 16 ≡ 16 * n = omega arith in
    trailer_same (with_slot t k v) t lw (rw (lw, at) (drop-with_slot n t k v b (omega arith) lv)) ∙ e

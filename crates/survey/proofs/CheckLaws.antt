-- The full check's searches: what they find together, and a turn of the loops that count held slots and look for a serial.
-- Assumes nothing.
use Rattle.std.specs.Prelude.{Option, Some, None, Result, Ok, Err, ⊤, option_map, IfSome}
use Prim.Native.Nat.{ℕ, zero, suc, ◌+◌, ◌-◌, ◌≤◌, ◌<◌}
use mathlib.Core.Path.{◌≡◌, refl, sym, ap, ◌∙◌}
use mathlib.Core.List.{List}
use mathlib.Core.Bool.{Bool, true, false, cond, ◌&&◌, ◌||◌}
use native.Mathlib.Omega.{arith}
use native.Mathlib.Decide.{ℕ_discrete}
use native.Mathlib.Nat.{not-suc-le-zero}
use native.Mathlib.Numerals.{add-one}
use lib.Dec.{eqb}
use lib.ListN.{length, drop}
use mir.Syntax.{w32}
use mir.Val.{Fits}
use borrow.Author.Tests.{eqb-true, eq-eqb, not-false}
use Rattle.network.specs.Search.{lowest_with, is_at, NoneWith}
use Rattle.network.proofs.Tests.{and_both, and_yes, both_true, clash, neither}
use Rattle.network.proofs.SearchLaws.{at_lowest, nowhere_none, none_nowhere}
use Rattle.board.specs.Board.{GoodBoard}
use Rattle.board.specs.Layout.{layout_of}
use Rattle.board.proofs.BoardLaws.{slots_most}
use Rattle.trailer.specs.declared.Head.{Head}
use Rattle.trailer.specs.declared.headed.Table.{Table}
use Rattle.trailer.specs.Trailer.{trailer_of}
use Rattle.table.specs.declared.refusals.Refusal.{Refusal}
use Rattle.table.specs.declared.refusals.Refusal.TheVariants.{Trailer, Fault}
use Rattle.table.specs.Packets.{good_at}
use Rattle.table.specs.Held.{held_at, held_below}
use Rattle.survey.specs.Check.{
  serial_at,
  spoiled_at,
  first_spoiled,
  has_serial,
  repeats_at,
  first_repeat,
  miscount,
  or_else,
  fault_or,
  unless_fault,
  read_by,
  on_passing,
  fault_in,
  checked_in,
  checked_slice,
}

-- ---- the first fault

or_none : (r next : Option ℕ) → or_else r next ≡ None → (r ≡ None) × (next ≡ None)
or_none (Some k) next e = clash cc
or_none None next e = (refl, e)

-- what stands first, or what comes after it, is at most n
or_most : {n : ℕ} (k : ℕ) (r next : Option ℕ) → ((j : ℕ) → r ≡ Some j → j ≤ n) → ((j : ℕ) → next ≡ Some j → j ≤ n) → or_else r next ≡ Some k → k ≤ n
or_most k (Some j) next f g e = let q : j ≡ k = cc in rw q at (f j refl)
or_most k None next f g e = g k e

-- no search finds anything
pub record Faultless (h : Head) (t : List ℕ) : Type 0 where
  pub sound : NoneWith (spoiled_at h t) 0 (layout_of h.board).size
  pub single : NoneWith (repeats_at t) 0 (layout_of h.board).size
  pub counted : h.taken - h.delivered ≡ held_below t (layout_of h.board).size

module _ (h : Head) (t : List ℕ) where
  abbrev size : ℕ
  size = (layout_of h.board).size

  miscount_none : miscount h t ≡ None → h.taken - h.delivered ≡ held_below t size
  unfolding miscount
  miscount_none e = go (eqb (h.taken - h.delivered) (held_below t size)) refl e
    where
      go : (b : Bool) → eqb (h.taken - h.delivered) (held_below t size) ≡ b → cond b None (Some size) ≡ None → h.taken - h.delivered ≡ held_below t size
      go true q f = eqb-true _ _ q
      go false q f = clash cc

  miscount-most : (k : ℕ) → miscount h t ≡ Some k → k ≤ size
  unfolding miscount
  miscount-most k e = go (eqb (h.taken - h.delivered) (held_below t size)) e
    where
      go : (b : Bool) → cond b None (Some size) ≡ Some k → k ≤ size
      go true f = clash cc
      go false f = let q : size ≡ k = cc in omega arith

  pub fault_none : fault_in h t ≡ None → Faultless h t
  unfolding fault_in first_spoiled first_repeat
  fault_none e =
      let a = or_none (first_spoiled h t) _ e in
      let b = or_none (first_repeat h t) _ a.1 in
      record {
        sound = nowhere_none (spoiled_at h t) 0 size a.0;
        single = nowhere_none (repeats_at t) 0 size b.0;
        counted = miscount_none (or_none (miscount h t) None b.1).0;
      }

  -- a held slot of a table that passes is good
  pub held_good : fault_in h t ≡ None → (k : ℕ) → k < (layout_of h.board).size → held_at t k ≡ true → good_at h t k ≡ true
  held_good e k l q = not-false _ (sym (and_yes q) ∙ (fault_none e).sound.lacks k (omega arith) (omega arith))

  pub none_fault : Faultless h t → fault_in h t ≡ None
  unfolding fault_in first_spoiled first_repeat miscount
  none_fault f =
      rw (none_nowhere (spoiled_at h t) 0 size f.sound, none_nowhere (repeats_at t) 0 size f.single, eq-eqb (h.taken - h.delivered) (held_below t size) f.counted)

  pub fault-most : (k : ℕ) → fault_in h t ≡ Some k → k ≤ size
  unfolding fault_in first_spoiled first_repeat
  fault-most k e =
      or_most k (first_spoiled h t) _ (λ j q. omega (arith, (at_lowest (spoiled_at h t) 0 size j q).below))
      (λ j. or_most j (first_repeat h t) _ (λ i q. omega (arith, (at_lowest (repeats_at t) 0 size i q).below))
      (λ i. or_most i (miscount h t) None miscount-most (λ m q. clash cc)))
      e

  pub fault_fits : (k : ℕ) → GoodBoard h.board → fault_in h t ≡ Some k → Fits w32 k
  fault_fits k g e = record { fits = omega (arith, fault-most k e, slots_most h.board g) }

  -- the table passes exactly where there is no fault
  pub passes_fault : checked_in h t ≡ Ok tt → fault_in h t ≡ None
  unfolding checked_in
  passes_fault e = go (fault_in h t) e
    where
      go : (r : Option ℕ) → fault_or (λ place. Err (Fault place)) (Ok (tt {0})) r ≡ Ok (tt {0}) → r ≡ None
      go (Some k) q = clash cc
      go None q = refl

  pub fault_passes : fault_in h t ≡ None → checked_in h t ≡ Ok tt
  unfolding checked_in
  fault_passes e = ap (fault_or (λ place. Err (Fault place)) (Ok tt)) e

-- ---- the check of a slice, by what is read of it

module _ (s : List ℕ) where
  abbrev by_trailer : Option Head → Result ⊤ Refusal
  by_trailer = read_by s (Err Trailer) (unless_fault (λ place. Err (Fault place)) (λ h t. Ok tt))

  module _ {r : Option Table} (head : option_map (λ t. t.head) r ≡ trailer_of s) where
    pub slice_unread : r ≡ None → checked_slice s ≡ Err Trailer
    unfolding checked_slice
    slice_unread e = ap by_trailer (sym head ∙ ap (option_map (λ t. t.head)) e)

    pub slice_read : {t : Table} → IfSome r (λ t. t.bytes.now ≡ drop (length s - t.head.size) s) → r ≡ Some t
        → checked_slice s ≡ checked_in t.head t.bytes.now
    unfolding checked_slice checked_in
    slice_read {t} bytes e =
        ap by_trailer (sym head ∙ ap (option_map (λ t. t.head)) e)
        ∙ ap (unless_fault (λ place. Err (Fault place)) (λ h t. Ok tt) t.head) (sym (rw e at bytes))

-- ---- a call on a table that passes, by the check's answer

module _ {A : Type 0} (refused : Refusal → A) (passed : Head → List ℕ → A) (s : List ℕ) where
  abbrev fault : ℕ → A
  fault place = refused (Fault place)

  abbrev by : Option Head → A
  by = read_by s (refused Trailer) (unless_fault fault passed)

  abbrev pub called : A
  called = on_passing s (refused Trailer) (λ place. refused (Fault place)) passed

  pub call_refused : {e : Refusal} → checked_slice s ≡ Err e → called ≡ refused e
  unfolding checked_slice
  call_refused {e} q = read (trailer_of s) q
    where
      found : (a : A) (f : Option ℕ) → fault_or (λ place. Err (Fault place)) (Ok (tt {0})) f ≡ Err e → fault_or fault a f ≡ refused e
      found a (Some k) q = cc
      found a None q = clash cc

      read : (x : Option Head) → read_by s (Err Trailer) (unless_fault (λ place. Err (Fault place)) (λ h t. Ok (tt {0}))) x ≡ Err e → by x ≡ refused e
      read (Some h) q = found _ (fault_in h (drop (length s - h.size) s)) q
      read None q = cc

  pub call_passed : {h : Head} {t : List ℕ} → trailer_of s ≡ Some h → t ≡ drop (length s - h.size) s → fault_in h t ≡ None → called ≡ passed h t
  call_passed {h} {t} e b f =
      ap by e ∙ ap (unless_fault fault passed h) (sym b) ∙ ap (fault_or fault (passed h t)) f

-- ---- held slots counted, and their serials looked for

module _ (t : List ℕ) (k : ℕ) where
  pub held_more : held_at t k ≡ true → held_below t (k + 1) ≡ held_below t k + 1
  held_more e = rw (add-one k, e) (omega arith)

  pub held_same : held_at t k ≡ false → held_below t (k + 1) ≡ held_below t k
  held_same e = rw (add-one k, e) (omega arith)

module _ (t : List ℕ) (s : ℕ) where
  -- no held slot below n has the serial
  abbrev Unused : ℕ → Type 0
  Unused n = (j : ℕ) → j < n → held_at t j ≡ true → serial_at t j ≡ s → ⊥

  pub unused_serial : (n : ℕ) → Unused n → has_serial t s n ≡ false
  unused_serial zero u = refl
  unused_serial (suc n) u = here (unused_serial n (λ j l. u j (omega arith))) (held_at t n) (eqb (serial_at t n) s) refl refl
    where
      here : has_serial t s n ≡ false → (a b : Bool) → held_at t n ≡ a → eqb (serial_at t n) s ≡ b → ((a && b) || has_serial t s n) ≡ false
      here rest true true p q = absurd (u n (omega arith) p (eqb-true _ _ q))
      here rest true false p q = rest
      here rest false b p q = rest

  pub serial_unused : (n : ℕ) → has_serial t s n ≡ false → Unused n
  serial_unused zero e j l p q = absurd (not-suc-le-zero l)
  serial_unused (suc n) e j l p q =
      let r = neither (held_at t n && eqb (serial_at t n) s) (has_serial t s n) e in
      elim (ℕ_discrete j n) [
        | yes i ↦ let f = and_both (rw i at p) (eq-eqb (serial_at t n) s (rw i at q)) in clash (cc r.0)
        | no i ↦ serial_unused n r.1 j (omega arith) p q
      ]

  -- a search upward finds the same
  pub serial_searched : (n : ℕ) → is_at (lowest_with (λ k. held_at t k && eqb (serial_at t k) s) 0 n) ≡ has_serial t s n
  serial_searched n = go (lowest_with here 0 n) refl (has_serial t s n) refl
    where
      here : ℕ → Bool
      here k = held_at t k && eqb (serial_at t k) s

      go : (r : Option ℕ) → lowest_with here 0 n ≡ r → (b : Bool) → has_serial t s n ≡ b → is_at r ≡ b
      go (Some k) e true f = refl
      go (Some k) e false f =
          let l = at_lowest here 0 n k e in
          let b = both_true (held_at t k) (eqb (serial_at t k) s) l.has in
          absurd (serial_unused n f k (omega (arith, l.below)) b.0 (eqb-true _ _ b.1))
      go None e false f = refl
      go None e true f =
          let none = nowhere_none here 0 n e in
          let unused = unused_serial n (λ j l p q. let h = and_both p (eq-eqb (serial_at t j) s q) in let g = none.lacks j (omega arith) (omega arith) in clash (cc (h, g))) in
          clash (cc unused)

-- The slots of one queue: of all slots of a layout, those at its place that have a property are those of the queue that have it.
-- Assumes nothing.
use Prim.Native.Nat.{ℕ, ◌+◌, ◌-◌, ◌≤◌, ◌<◌}
use mathlib.Core.Path.{◌≡◌, refl, sym, ap, ◌∙◌}
use mathlib.Core.Bool.{Bool, true, false, ◌&&◌}
use native.Mathlib.Omega.{arith}
use borrow.Author.Tests.{eqb-true, eq-eqb}
use Rattle.network.specs.declared.Kind.{Kind}
use Rattle.network.specs.declared.Kind.TheVariants.{Waiting, A, B}
use Rattle.network.specs.declared.Place.{Place}
use Rattle.network.specs.Net.{Net, kind_number, same_place}
use Rattle.network.specs.View.{Layout, LayoutLaws}
use Rattle.network.specs.Search.{count_with}
use Rattle.network.proofs.Tests.{clash, both_true, and_yes, and_no}
use Rattle.network.proofs.CountingLaws.{count_none, count_parts, count_same}

same_kind : (k l : Kind) → kind_number k ≡ kind_number l → k ≡ l
same_kind Waiting Waiting e = refl
same_kind Waiting A e = clash cc
same_kind Waiting B e = absurd (omega arith)
same_kind A Waiting e = clash cc
same_kind A A e = refl
same_kind A B e = absurd (omega arith)
same_kind B Waiting e = absurd (omega arith)
same_kind B A e = absurd (omega arith)
same_kind B B e = refl

same_place_lem : (p q : Place) → same_place p q ≡ true → p ≡ q
same_place_lem p q e =
    let a = both_true _ _ e in
    let n = eqb-true _ _ a.0 in
    let k = same_kind p.kind q.kind (eqb-true _ _ a.1) in
    λ i. record { node = n i; kind = k i }

place_same : {p q : Place} → p ≡ q → same_place p q ≡ true
place_same {p} {q} e = rw e (and_yes (eq-eqb q.node q.node refl) ∙ eq-eqb (kind_number q.kind) (kind_number q.kind) refl)

-- of all slots, those at a place and with the property are those of its queue with the property
module _ (N : Net) (Y : Layout) (laws : LayoutLaws N Y) (p : Place) (v : N.valid p.node ≡ true) (has : ℕ → Bool) where
  abbrev first : ℕ
  first = Y.first p

  abbrev room : ℕ
  room = Y.room p.kind

  abbrev both : ℕ → Bool
  both j = same_place (Y.place_of j) p && has j

  inside : (j : ℕ) → first ≤ j → j < first + room → both j ≡ has j
  inside j l g =
      let at : first + (j - first) ≡ j = omega arith in
      and_yes (place_same (ap Y.place_of (sym at) ∙ laws.there p (j - first) v (omega arith)))

  outside : (j : ℕ) → j < Y.size → (first ≤ j → j < first + room → ⊥) → both j ≡ false
  outside j l u = go (same_place (Y.place_of j) p) refl
    where
      go : (z : Bool) → same_place (Y.place_of j) p ≡ z → both j ≡ false
      go false e = and_no (has j) e
      go true e =
          let o = laws.own j l in
          let q : Y.place_of j ≡ p = same_place_lem (Y.place_of j) p e in
          let f : Y.first (Y.place_of j) ≡ first = ap Y.first q in
          let r : Y.room (Y.place_of j).kind ≡ room = ap (λ (x : Place). Y.room x.kind) q in
          let i : j ≡ Y.first (Y.place_of j) + o.0 = o.2 in
          let m : o.0 < Y.room (Y.place_of j).kind = o.1 in
          absurd (u (omega arith) (omega arith))

  pub count_queue : count_with both 0 Y.size ≡ count_with has first room
  count_queue =
      let some = laws.roomy p.kind in
      let last = laws.within p (room - 1) v (omega arith) in
      let after = Y.size - (first + room) in
      let all : Y.size ≡ first + (room + after) = omega arith in
      let before = count_none both 0 first (λ j l g. outside j (omega arith) (λ a b. omega arith)) in
      let behind = count_none both (first + room) after (λ j l g. outside j (omega arith) (λ a b. omega arith)) in
      let here = count_same both has first room inside in
      let from : 0 + first ≡ first = omega arith in
      ap (count_with both 0) all ∙ count_parts both 0 first (room + after) ∙ rw from (omega (arith, before, behind, here, count_parts both first room after))

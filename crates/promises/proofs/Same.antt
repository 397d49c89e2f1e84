-- Two outcomes that are told the same are the same: of a refusal, a move, a taking in, a clear and a copy.
-- Assumes nothing.
use Rattle.std.specs.Prelude.{Option, Some, None}
use Prim.Native.Nat.{ℕ, ◌+◌, ◌-◌, ◌*◌, ◌<◌, ◌≤◌}
use mathlib.Core.Path.{◌≡◌, refl, sym, ap, subst, ◌∙◌}
use mathlib.Core.Logic.{◌≢◌, ◌⊎◌, inl, inr}
use mathlib.Core.List.{List}
use native.Mathlib.Omega.{arith}
use native.Mathlib.Decide.{ℕ_discrete, dec_lt}
use lib.ListN.{length, drop}
use lib.Seq.{drop-drop}
use Rattle.network.specs.declared.Kind.TheVariants.{Waiting}
use Rattle.network.specs.declared.Place.{Place}
use Rattle.network.specs.declared.Lead.{Lead}
use Rattle.network.specs.declared.Lead.TheVariants.{Hop, Turn, Out, NotOffered}
use Rattle.network.specs.Net.{at}
use Rattle.slots.specs.Slots.{empty_slot}
use Rattle.slots.proofs.SlotLaws.{slots_ext}
use Rattle.board.specs.declared.Board.{Board}
use Rattle.board.specs.Layout.{layout_of, table_size}
use Rattle.board.proofs.BoardLaws.{layout_laws, one_waiting}
use Rattle.trailer.specs.declared.Head.{Head}
use Rattle.trailer.specs.Trailer.{last16, trailer_of}
use Rattle.trailer.proofs.TrailerTold.{length_last, bytes_last, last_told, trailer_told}
use Rattle.table.specs.Calls.{Outcome}
use Rattle.router.specs.Move.{MoveAnswer}
use Rattle.router.specs.TakeIn.{TakeAnswer}
use Rattle.calls.specs.Slices.{Bytes, head_in, board_in, GoodIn, layout_in, slots_in, slot_in, place_in}
use Rattle.promises.specs.Conditions.{SpoiledAt, RepeatsAt, NoneBelow, FaultAt, spoiled, repeated, miscounted, EmptyOf, room_left}
use Rattle.promises.specs.Demand1.{Grounds, Refuses, Placed}
use Rattle.promises.specs.Demand2.{Kept, Goes, Leaves, OneStep, Shows}
use Rattle.promises.specs.Answers.{Fresh, Enters}
use Rattle.promises.proofs.Reading.{good_in, bad_in}
use Rattle.promises.proofs.Told.{slice_told, slots_size, kept_told}

-- ---- refusals

module _ {A B : Type 0} (number : A → ℕ) (Told : A → Type 0) (g : Grounds) (lent : B) (o w : Outcome A B)
    (r : Refuses number Told g lent o) (q : Refuses number Told g lent w) where
  same_number : number o.answer ≡ number w.answer
  same_number = sym ((q.exactly (number o.answer)).1 ((r.exactly (number o.answer)).0 refl))

  -- refused, they are the same; so they are if they are when accepted
  pub same_outcome : ((a c : A) → number a ≡ number c → Told a → Told c → a ≡ c) → (number o.answer ≡ 0 → number w.answer ≡ 0 → o ≡ w) → o ≡ w
  same_outcome alike accepted = elim (ℕ_discrete (number o.answer) 0) [
    | yes z ↦ accepted z (sym same_number ∙ z)
    | no u ↦
        let v : number w.answer ≢ 0 = λ z. u (same_number ∙ z) in
        let answer = alike o.answer w.answer same_number (r.told u) (q.told v) in
        let bytes : o.bytes ≡ w.bytes = r.unchanged u ∙ sym (q.unchanged v) in
        λ i. record { answer = answer i; bytes = bytes i }
  ]

-- a trailer that isn't not good is good
pub good_stable : (s : List ℕ) → ((GoodIn s → ⊥) → ⊥) → GoodIn s
good_stable s n = go (trailer_of s) refl
  where
    go : (t : Option Head) → trailer_of s ≡ t → GoodIn s
    go None e = absurd (n (bad_in s e))
    go (Some h) e = good_in s e

-- the least with a property is one
least_one : (P : ℕ → Type 0) (p q : ℕ) → P p → P q → NoneBelow P p → NoneBelow P q → p ≡ q
least_one P p q a c n k = elim (dec_lt p q) [
  | yes u ↦ absurd (k p u a)
  | no u ↦ elim (dec_lt q p) [
    | yes v ↦ absurd (n q v c)
    | no v ↦ omega arith
  ]
]

-- the first fault has one place
fault_one : (s : List ℕ) (p q : ℕ) → FaultAt s p → FaultAt s q → p ≡ q
fault_one s p q (spoiled l a n) (spoiled m c k) = least_one (SpoiledAt s) p q a c n k
fault_one s p q (spoiled l a n) (repeated k m c i) = absurd (k p l a)
fault_one s p q (spoiled l a n) (miscounted k m c i) = absurd (k p l a)
fault_one s p q (repeated n l a i) (spoiled m c k) = absurd (n q m c)
fault_one s p q (repeated n l a i) (repeated k m c j) = least_one (RepeatsAt s) p q a c i j
fault_one s p q (repeated n l a i) (miscounted k m c j) = absurd (m p l a)
fault_one s p q (miscounted n k a i) (spoiled m c j) = absurd (n q m c)
fault_one s p q (miscounted n k a i) (repeated j m c f) = absurd (k q m c)
fault_one s p q (miscounted n k a i) (miscounted m c j f) = i ∙ sym f

pub placed_one : (s : List ℕ) (n m p q : ℕ) → n ≡ m → Placed s n p → Placed s m q → p ≡ q
placed_one s n m p q e a c = elim (ℕ_discrete n 10) [
  | yes t ↦ fault_one s p q (a.0 t) (c.0 (sym e ∙ t))
  | no u ↦ a.1 u ∙ sym (c.1 (λ t. u (e ∙ t)))
]

-- ---- a move

module _ (s : List ℕ) (g : GoodIn s) (slot : ℕ) (o w : Outcome MoveAnswer (List ℕ)) where
  goes_same : (target : Place) (more : ℕ) → Goes s slot target more o → Goes s slot target more w → o ≡ w
  goes_same target more a c =
      let one : a.to ≡ c.to = omega (arith, a.lowest.least c.to c.lowest.one, c.lowest.least a.to a.lowest.one) in
      let d : Kept s w.bytes (λ i. (i ≡ slot) ⊎ (i ≡ a.to)) = rw one c.rest in
      let slots : (k : ℕ) → k < slots_in s → slot_in o.bytes k ≡ slot_in w.bytes k = λ k l. elim (ℕ_discrete k slot) [
        | yes e ↦ rw e (a.gone ∙ sym c.gone)
        | no u ↦ elim (ℕ_discrete k a.to) [
          | yes e ↦ rw e (a.come ∙ sym (rw (← one) at c.come))
          | no v ↦ a.rest.slots k l (apart k u v) ∙ sym (d.slots k l (apart k u v))
        ]
      ] in
      let bytes = kept_told s o.bytes w.bytes g _ a.rest d (ap (drop 12) a.trailer) (a.trailer ∙ sym c.trailer) slots in
      let answer : o.answer ≡ w.answer =
      a.answer ∙ (λ i. record { number = 0; slot = one i; packet = empty_slot; left = room_left (bytes i) target }) ∙ sym c.answer in
      λ i. record { answer = answer i; bytes = bytes i }
    where
      apart : {to : ℕ} (k : ℕ) → k ≢ slot → k ≢ to → (k ≡ slot) ⊎ (k ≡ to) → ⊥
      apart k u v (inl e) = u e
      apart k u v (inr e) = v e

  leaves_same : Bytes o.bytes → Bytes w.bytes → Leaves s slot o → Leaves s slot w → o ≡ w
  leaves_same b d a c =
      let long = g.long in
      let last = last_told o.bytes w.bytes b d (omega (arith, a.rest.long)) (omega (arith, c.rest.long)) 8 (omega arith) (a.first_bytes ∙ sym c.first_bytes)
      (a.counted ∙ sym c.counted) (a.last_bytes ∙ sym c.last_bytes) in
      let slots : (k : ℕ) → k < slots_in s → slot_in o.bytes k ≡ slot_in w.bytes k = λ k l. elim (ℕ_discrete k slot) [
        | yes e ↦ rw e (a.gone ∙ sym c.gone)
        | no u ↦ a.rest.slots k l u ∙ sym (c.rest.slots k l u)
      ] in
      let bytes = kept_told s o.bytes w.bytes g _ a.rest c.rest a.last_bytes last slots in
      let answer : o.answer ≡ w.answer =
      a.answer ∙ (λ i. record { number = 0; slot = 0; packet = slot_in s slot; left = room_left (bytes i) (place_in s slot) }) ∙ sym c.answer in
      λ i. record { answer = answer i; bytes = bytes i }

  pub step_same : Bytes o.bytes → Bytes w.bytes → (lead : Lead) → OneStep s slot lead o → OneStep s slot lead w → o ≡ w
  step_same b d (Hop n) a c = goes_same (at n (place_in s slot).kind) 1 a c
  step_same b d (Turn k) a c = goes_same (at (place_in s slot).node k) 0 a c
  step_same b d Out a c = leaves_same b d a c
  step_same b d NotOffered a c = absurd a

-- ---- a taking in

waiting_one : (s : List ℕ) → GoodIn s → (n i j : ℕ) → EmptyOf s (at n Waiting) i → EmptyOf s (at n Waiting) j → i ≡ j
waiting_one s g n i j a c =
    let lies : (k : ℕ) → EmptyOf s (at n Waiting) k → (m : ℕ) × (m < (layout_in s).room Waiting) × (k ≡ (layout_in s).first (at n Waiting) + m) =
    λ k e. subst (λ (x : Place). (m : ℕ) × (m < (layout_in s).room x.kind) × (k ≡ (layout_in s).first x + m)) e.there ((layout_laws (board_in s) g.ranges).own k e.inside) in
    let p = lies i a in
    let q = lies j c in
    omega (arith, one_waiting (board_in s), p.1, p.2, q.1, q.2)

module _ (s : List ℕ) (g : GoodIn s) (source destination : ℕ) (payload : List ℕ) (o w : Outcome TakeAnswer (List ℕ)) where
  pub enters_same : Bytes o.bytes → Bytes w.bytes → Enters s source destination payload o → Enters s source destination payload w → o ≡ w
  enters_same b d a c =
      let one : a.to ≡ c.to = waiting_one s g source a.to c.to a.waiting c.waiting in
      let rest : Kept s w.bytes (λ i. i ≡ a.to) = rw one c.rest in
      let long = g.long in
      let last = last_told o.bytes w.bytes b d (omega (arith, a.rest.long)) (omega (arith, c.rest.long)) 4 (omega arith) (a.first_bytes ∙ sym c.first_bytes)
      (a.counted ∙ sym c.counted) (a.last_bytes ∙ sym c.last_bytes) in
      let slots : (k : ℕ) → k < slots_in s → slot_in o.bytes k ≡ slot_in w.bytes k = λ k l. elim (ℕ_discrete k a.to) [
        | yes e ↦ rw e (a.come ∙ sym (rw (← one) at c.come))
        | no u ↦ a.rest.slots k l u ∙ sym (rest.slots k l u)
      ] in
      let end : drop 12 (last16 o.bytes) ≡ drop 12 (last16 s) =
      sym (drop-drop 4 8 (last16 o.bytes)) ∙ ap (drop 4) a.last_bytes ∙ drop-drop 4 8 (last16 s) in
      let bytes = kept_told s o.bytes w.bytes g _ a.rest rest end last slots in
      let answer : o.answer ≡ w.answer =
      a.answer ∙ (λ i. record { number = 0; slot = one i; serial = (head_in s).taken; left = room_left (bytes i) (at source Waiting) }) ∙ sym c.answer in
      λ i. record { answer = answer i; bytes = bytes i }

-- ---- a clear

pub fresh_same : (s u w : List ℕ) (board : Board) → table_size board ≤ length s → Bytes u → Bytes w → Fresh s board u → Fresh s board w → u ≡ w
unfolding head_in
fresh_same s u w board l b d a c =
    let last = trailer_told (last16 u) (last16 w) (length_last u (omega (arith, a.long))) (length_last w (omega (arith, c.long))) (bytes_last u b) (bytes_last w d)
    (a.head ∙ sym c.head) in
    let size : (head_in u).size ≡ table_size board = ap (λ (h : Head). h.size) a.head in
    slice_told u w (layout_of board).size size (omega (arith, size, a.long, l)) (a.long ∙ sym c.long) last (a.before ∙ sym c.before)
    (λ k m. a.slots k m ∙ sym (c.slots k m))

-- ---- a copy

pub copy_same : (s u w : List ℕ) → GoodIn s → Shows s u → Shows s w → u ≡ w
copy_same s u w g a c =
    let n : (head_in s).size ≡ 16 * slots_in s + 16 = slots_size s g in
    let at : (x : List ℕ) → length x ≡ (head_in s).size → drop (16 * slots_in s) x ≡ last16 x =
    λ x l. let m : 16 * slots_in s ≡ length x - 16 = omega (arith, l, n) in ap (λ (k : ℕ). drop k x) m in
    slots_ext (slots_in s) u w (λ k l. a.slots k l ∙ sym (c.slots k l)) (at u a.long ∙ a.trailer ∙ sym c.trailer ∙ sym (at w c.long))

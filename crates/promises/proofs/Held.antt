-- The records of the held slots as one list: what a taking in, a move to another slot and a delivery make of it.
-- Assumes nothing.
use Prim.Native.Nat.{ℕ, ◌<◌}
use mathlib.Core.Path.{◌≡◌, refl, sym, ap, subst, ◌∙◌}
use mathlib.Core.Logic.{◌⊎◌, inl, inr, ◌≢◌}
use mathlib.Core.Bool.{Bool, true, false, cond}
use mathlib.Core.List.{List, [], ◌∷◌, map, Permᴰ}
use native.Mathlib.Omega.{arith}
use native.Mathlib.Decide.{ℕ_discrete}
use lib.Dec.{eqb}
use lib.Seq.{get_or-set_other}
use borrow.Author.Tests.{eq-eqb, ne_eqb}
use Rattle.network.specs.declared.Place.{Place}
use Rattle.network.specs.Lists.{All, collect}
use Rattle.network.proofs.Lists.{take_out, collect_same, collect_none, collect_all, map-collect, map-perm}
use Rattle.network.proofs.Tests.{cond_true, cond_false}
use Rattle.slots.specs.Slots.{zeros}
use Rattle.table.specs.Carriage.{hop}
use Rattle.table.proofs.PacketLaws.{mark_not_zero}
use Rattle.table.specs.Calls.{Outcome}
use Rattle.router.specs.Move.{MoveAnswer}
use Rattle.router.specs.TakeIn.{TakeAnswer}
use Rattle.calls.specs.Slices.{head_in, GoodIn, net_in, slots_in, slot_in}
use Rattle.promises.specs.Conditions.{EmptyAt, HeldAt, NothingHeld}
use Rattle.promises.specs.Demand2.{GoodPacket, Goes, Leaves}
use Rattle.promises.specs.Demand3.{bound_of, bounds_in}
use Rattle.promises.specs.Answers.{new_packet, Enters}
use Rattle.promises.specs.History.{bound_for}
use Rattle.promises.proofs.Conditions.{empty_zeros, held_zeros}

abbrev record_of : List ℕ → List (List ℕ)
record_of v = cond (zeros v) [] (v ∷ [])

abbrev record_at : List ℕ → ℕ → List (List ℕ)
record_at s k = record_of (slot_in s k)

abbrev pub records_in : List ℕ → List (List ℕ)
records_in s = collect (record_at s) (slots_in s)

-- what they are bound for
pub bounds_are : (s : List ℕ) → bounds_in s ≡ map (bound_of (net_in s)) (records_in s)
bounds_are s = sym (map-collect (bound_of (net_in s)) (record_at s) (slots_in s) ∙ collect_same _ _ (slots_in s) (λ k l. go (slot_in s k) (zeros (slot_in s k))))
  where
    go : (v : List ℕ) (z : Bool) → map (bound_of (net_in s)) (cond z [] (v ∷ [])) ≡ cond z [] (bound_of (net_in s) v ∷ [])
    go v true = refl
    go v false = refl

module _ (s : List ℕ) (g : GoodIn s) where
  no_record : (k : ℕ) → EmptyAt s k → record_at s k ≡ []
  no_record k e = cond_true _ _ (empty_zeros s g k e)

  record_held : (k : ℕ) → k < slots_in s → HeldAt s k → record_at s k ≡ slot_in s k ∷ []
  record_held k l h = cond_false _ _ (held_zeros s g k l h)

  pub no_records : NothingHeld s → records_in s ≡ []
  no_records none = collect_none (record_at s) (slots_in s) (λ k l. no_record k (none k l))

  -- what holds of all of them holds of each
  pub record_has : (P : List ℕ → Type 0) → All P (records_in s) → (k : ℕ) → k < slots_in s → HeldAt s k → P (slot_in s k)
  record_has P all k l h = (subst (All P) (record_held k l h) (collect_all P (record_at s) (slots_in s) all k l)).0

  module _ (u : List ℕ) (same : slots_in u ≡ slots_in s) where
    -- collected over as many slots
    over : {l : List (List ℕ)} → Permᴰ (collect (record_at u) (slots_in s)) l → Permᴰ (records_in u) l
    over {l} d = subst (λ (n : ℕ). Permᴰ (collect (record_at u) n) l) (sym same) d

  module _ (source destination : ℕ) (payload : List ℕ) (o : Outcome TakeAnswer (List ℕ)) (same : slots_in o.bytes ≡ slots_in s)
      (e : Enters s source destination payload o) where
    pub entered_records : Permᴰ (records_in o.bytes) (new_packet source destination (head_in s).taken payload ∷ records_in s)
    entered_records =
        over o.bytes same
        (take_out (record_at o.bytes) (record_at s) e.to (slots_in s) _ e.waiting.inside (ap record_of e.come) (no_record e.to e.waiting.empty)
        (λ j l u. ap record_of (sym (e.rest.slots j l u))))

    pub entered_bounds : net_in o.bytes ≡ net_in s → Permᴰ (bounds_in o.bytes) (bound_for (net_in s) source destination o.answer.serial payload ∷ bounds_in s)
    entered_bounds net =
        rw (bounds_are o.bytes, bounds_are s, ap (λ (a : TakeAnswer). a.serial) e.answer, net) (map-perm (bound_of (net_in s)) entered_records)

  module _ (slot : ℕ) (p : GoodPacket s slot) (o : Outcome MoveAnswer (List ℕ)) (same : slots_in o.bytes ≡ slots_in s) where
    pub left_records : Leaves s slot o → Permᴰ (records_in s) (slot_in s slot ∷ records_in o.bytes)
    left_records e =
        subst (λ (n : ℕ). Permᴰ (records_in s) (slot_in s slot ∷ collect (record_at o.bytes) n)) (sym same)
        (take_out (record_at s) (record_at o.bytes) slot (slots_in s) (slot_in s slot) p.inside (record_held slot p.inside p.held) (ap record_of e.gone)
        (λ j l u. ap record_of (e.rest.slots j l u)))

    -- all but the packet's
    abbrev others : ℕ → List (List ℕ)
    others k = cond (eqb k slot) [] (record_at s k)

    marked : (more : ℕ) → record_of (hop (slot_in s slot) more) ≡ hop (slot_in s slot) more ∷ []
    marked more = cond_false _ _ (mark_not_zero (hop (slot_in s slot) more) (get_or-set_other (slot_in s slot) 3 0 _ 0 (λ e. omega arith) ∙ p.good.marked))

    others_here : (k : ℕ) → record_at s k ≡ [] → others k ≡ []
    others_here k e = go (eqb k slot)
      where
        go : (y : Bool) → cond y [] (record_at s k) ≡ []
        go true = refl
        go false = e

    -- the others, and the packet before and after
    pub gone_records : (target : Place) (more : ℕ) → Goes s slot target more o
        → (rest : List (List ℕ)) × Permᴰ (records_in s) (slot_in s slot ∷ rest) × Permᴰ (records_in o.bytes) (hop (slot_in s slot) more ∷ rest)
    gone_records target more e = (
      collect others (slots_in s),
      take_out (record_at s) others slot (slots_in s) (slot_in s slot) p.inside (record_held slot p.inside p.held) (cond_true _ _ (eq-eqb slot slot refl))
          (λ j l u. cond_false _ _ (ne_eqb j slot u)),
      over o.bytes same
          (take_out (record_at o.bytes) others e.to (slots_in s) _ e.lowest.one.inside (ap record_of e.come ∙ marked more)
          (others_here e.to (no_record e.to e.lowest.one.empty))
          (λ j l u. elim (ℕ_discrete j slot) [
            | yes q ↦ cond_true _ _ (eq-eqb j slot q) ∙ sym (rw q (ap record_of e.gone))
            | no q ↦ cond_false _ _ (ne_eqb j slot q) ∙ ap record_of (sym (e.rest.slots j l (apart q u)))
          ])),
    )
      where
        apart : {j : ℕ} → j ≢ slot → j ≢ e.to → (j ≡ slot) ⊎ (j ≡ e.to) → ⊥
        apart q u (inl f) = q f
        apart q u (inr f) = u f

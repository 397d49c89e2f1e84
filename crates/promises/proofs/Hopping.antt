-- Hops are steps: as many are recorded by the serial of each packet handed out or held as its record says. An accepted taking in and a move of our
-- router keep it so.
-- Assumes nothing.
use Rattle.std.specs.Prelude.{Ok}
use Prim.Native.Nat.{ℕ, suc, ◌+◌, ◌<◌, ◌^◌}
use mathlib.Core.Path.{◌≡◌, refl, sym, ap, ◌∙◌}
use mathlib.Core.Bool.{Bool, true, false, cond, ◌&&◌}
use mathlib.Core.List.{List, [], ◌∷◌, ◌++◌, map}
use mathlib.Core.List.Permᴰ
use mathlib.Core.List.{Permᴰ}
use native.Mathlib.Omega.{arith}
use native.Mathlib.Nat.{add-zero}
use lib.Dec.{eqb}
use lib.ListN.{get_or, set}
use borrow.Author.Tests.{eqb-true, eqb-false}
use Rattle.network.specs.declared.Place.{Place}
use Rattle.network.specs.declared.Lead.{Lead}
use Rattle.network.specs.declared.Lead.TheVariants.{Hop, Turn, Out, NotOffered}
use Rattle.network.specs.Net.{delivery}
use Rattle.network.specs.Packet.{Packet, with_hops}
use Rattle.network.specs.View.{Layout}
use Rattle.network.proofs.Tests.{clash}
use Rattle.slots.specs.Bytes.{bytes32}
use Rattle.slots.proofs.Numbers.{digits}
use Rattle.slots.proofs.SlotLaws.{length-slot_at}
use Rattle.board.proofs.BoardLaws.{net_laws, slot_fits}
use Rattle.trailer.specs.declared.Head.{Head}
use Rattle.table.specs.Packets.{packet_of}
use Rattle.table.specs.Carriage.{hop}
use Rattle.table.proofs.PacketLaws.{packet_hop}
use Rattle.table.specs.Calls.{Outcome}
use Rattle.judging.specs.Moves.{barred, lead_of}
use Rattle.router.specs.Move.{MoveAnswer, moved_slice}
use Rattle.router.specs.TakeIn.{TakeAnswer}
use Rattle.survey.specs.Check.{checked_slice}
use Rattle.calls.specs.Slices.{Bytes, head_in, board_in, table_in, GoodIn, slots_in, slot_in, place_in}
use Rattle.calls.specs.Router.{ours}
use Rattle.calls.specs.Calls.{moves, Given, given_by}
use Rattle.promises.specs.Conditions.{lead_in}
use Rattle.promises.specs.Demand2.{GoodPacket, Goes, Leaves, OneStep}
use Rattle.promises.specs.Answers.{new_packet, Enters}
use Rattle.promises.specs.History.{hop_by, hopped_by}
use Rattle.promises.proofs.Records.{set_same}
use Rattle.promises.proofs.Unchanged.{move_refused}
use Rattle.promises.proofs.Conditions.{lead_is, sized}
use Rattle.promises.proofs.Slices.{delivery-out}
use Rattle.promises.proofs.Checked.{passing_good}
use Rattle.promises.proofs.Demand2.{demand_2}
use Rattle.promises.proofs.Demand3.{head_same, layout_same}
use Rattle.promises.proofs.Held.{records_in, entered_records, gone_records, left_records}
use Rattle.promises.proofs.Counted.{serial_of, Recorded, recorded_perm, recorded_hop, recorded_new}

abbrev pub packets : List Given → List (List ℕ)
packets l = map (λ (g : Given). g.packet) l

-- among those handed out and those held
among : (given : List Given) {x : List ℕ} {l m : List (List ℕ)} → Permᴰ l (x ∷ m) → Permᴰ (packets given ++ l) (x ∷ (packets given ++ m))
among given {x} {l} {m} d = Permᴰ.trans (Permᴰ.append_left (packets given) d) (Permᴰ.middle x (packets given) m)

-- ---- an accepted taking in

new_serial : (source destination serial : ℕ) (payload : List ℕ) → serial < 2 ^ 32 → serial_of (new_packet source destination serial payload) ≡ serial
unfolding bytes32
new_serial source destination serial payload l = digits serial l

module _ (s : List ℕ) (good : GoodIn s) (small : (head_in s).taken < 2 ^ 32) (source destination : ℕ) (payload : List ℕ) (o : Outcome TakeAnswer (List ℕ))
    (same : slots_in o.bytes ≡ slots_in s) (e : Enters s source destination payload o) (given : List Given) (hopped : List ℕ) where
  pub taking_recorded : Recorded (head_in s).taken hopped (packets given ++ records_in s)
      → Recorded (suc (head_in s).taken) hopped (packets given ++ records_in o.bytes)
  taking_recorded h =
      recorded_perm (suc (head_in s).taken) hopped (Permᴰ.symm (among given (entered_records s good source destination payload o same e)))
      (recorded_new (head_in s).taken hopped _ _ (new_serial source destination (head_in s).taken payload small) refl h)

-- ---- a move

module _ (s : List ℕ) (b : Bytes s) (c : checked_slice s ≡ Ok tt) (slot code : ℕ) (given : List Given) (hopped : List ℕ)
    (h : Recorded (head_in s).taken hopped (packets given ++ records_in s)) where
  abbrev o : Outcome MoveAnswer (List ℕ)
  o = moved_slice s slot code

  abbrev v : List ℕ
  v = slot_in s slot

  good : GoodIn s
  good = passing_good s c

  -- what is known of the packets by now
  abbrev Now : List ℕ → List Given → Type 0
  Now more out = Recorded (head_in o.bytes).taken (more ++ hopped) (packets (out ++ given) ++ records_in o.bytes)

  taken_same : (head_in o.bytes).taken ≡ (head_in s).taken
  taken_same = ap (λ (x : Head). x.taken) (head_same s b c (moves slot code ∷ []) (tt, tt))

  slots_same : slots_in o.bytes ≡ slots_in s
  slots_same = ap (λ (Y : Layout). Y.size) (layout_same s b c (moves slot code ∷ []) (tt, tt))

  -- delivery leads nowhere but out
  leads_out : eqb code delivery ≡ true → (lead : Lead) → lead_in s slot code ≡ lead → barred lead ≡ false → lead ≡ Out
  leads_out w lead f g =
      let e : lead_of (board_in s) (table_in s) slot code ≡ lead = sym (lead_is s slot code) ∙ f in
      sym e ∙ delivery-out (board_in s) (place_in s slot) _ (eqb-true _ _ w) (rw e g)

  module _ (p : GoodPacket s slot) where
    hop_says : (more : ℕ) → packet_of (hop v more) ≡ with_hops (packet_of v) (get_or v 3 0 + more)
    hop_says more = packet_hop v more (omega (arith, length-slot_at (table_in s) slot (slot_fits (sized s good) slot p.inside)))

    has_hopped : (target : Place) → Goes s slot target 1 o → Now (serial_of v ∷ []) []
    has_hopped target e =
        let r = gone_records s good slot p o slots_same target 1 e in
        let says = hop_says 1 in
        rw taken_same
        (recorded_perm (head_in s).taken (serial_of v ∷ hopped) (Permᴰ.symm (among given r.2))
        (recorded_hop (head_in s).taken hopped v (hop v 1) (packets given ++ r.0) (ap (λ (x : Packet). x.serial) says) (ap (λ (x : Packet). x.hops) says)
        (recorded_perm (head_in s).taken hopped (among given r.1) h)))

    has_turned : (target : Place) → Goes s slot target 0 o → Now [] []
    has_turned target e =
        let r = gone_records s good slot p o slots_same target 0 e in
        let still : hop v 0 ≡ v = ap (set v 3) (add-zero (get_or v 3 0)) ∙ set_same v 3 in
        rw taken_same
        (recorded_perm (head_in s).taken hopped (Permᴰ.symm (among given (rw still at r.2)))
        (recorded_perm (head_in s).taken hopped (among given r.1) h))

    has_left : (g : Given) → g.packet ≡ v → Leaves s slot o → Now [] (g ∷ [])
    has_left g is e =
        rw (taken_same, is) (recorded_perm (head_in s).taken hopped (among given (left_records s good slot p o slots_same e)) h)

    by_lead : (g : Given) → g.packet ≡ o.answer.packet → (lead : Lead) → lead_in s slot code ≡ lead → OneStep s slot lead o → (a : Bool) → eqb code delivery ≡ a
        → Now (hop_by lead (serial_of v)) (cond (a && true) (g ∷ []) [])
    by_lead g is (Hop n) f e true w = let q = leads_out w (Hop n) f refl in clash cc
    by_lead g is (Hop n) f e false w = has_hopped _ e
    by_lead g is (Turn k) f e true w = let q = leads_out w (Turn k) f refl in clash cc
    by_lead g is (Turn k) f e false w = has_turned _ e
    by_lead g is Out f e true w = has_left g (is ∙ ap (λ (a : MoveAnswer). a.packet) e.answer) e
    by_lead g is Out f e false w = absurd (eqb-false _ _ w ((net_laws (board_in s)).out_code _ _ code (sym (lead_is s slot code) ∙ f)))
    by_lead g is NotOffered f e a w = absurd e

  same : o.bytes ≡ s → Now [] []
  same e = rw e h

  pub move_recorded : Now (hopped_by ours s (moves slot code)) (given_by ours s (moves slot code))
  move_recorded = go (eqb o.answer.number 0) (eqb code delivery) refl refl
    where
      g : Given
      g = record { node = (place_in s slot).node; packet = o.answer.packet }

      go : (y a : Bool) → eqb o.answer.number 0 ≡ y → eqb code delivery ≡ a → Now (cond y (hop_by (lead_in s slot code) (serial_of v)) []) (cond (a && y) (g ∷ []) [])
      go true a f w =
          let z = eqb-true _ _ f in
          by_lead (demand_2.only s b slot code z).0 g refl (lead_in s slot code) refl (demand_2.step s b slot code z) a w
      go false true f w = same (ap (λ (q : Outcome MoveAnswer (List ℕ)). q.bytes) (move_refused s slot code (eqb-false _ _ f)))
      go false false f w = same (ap (λ (q : Outcome MoveAnswer (List ℕ)). q.bytes) (move_refused s slot code (eqb-false _ _ f)))

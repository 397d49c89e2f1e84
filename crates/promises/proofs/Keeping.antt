-- Each call of our router keeps what the history says of its ledger, and an accepted clear begins so.
-- Assumes nothing.
use Rattle.std.specs.Prelude.{Ok}
use Prim.Native.Nat.{ℕ, suc, ◌+◌, ◌<◌}
use mathlib.Core.Path.{◌≡◌, refl, sym, ap, subst, ◌∙◌}
use mathlib.Core.Bool.{Bool, true, false, cond}
use mathlib.Core.List.{List, [], ◌∷◌, ◌++◌, append-nil, append_assoc}
use mathlib.Core.List.{Permᴰ}
use native.Mathlib.Omega.{arith}
use lib.Dec.{eqb}
use lib.ListN.{length}
use borrow.Author.Tests.{eqb-true, eqb-false}
use Rattle.network.specs.Lists.{All}
use Rattle.network.specs.Net.{Net}
use Rattle.network.proofs.Lists.{swap_front}
use Rattle.board.specs.declared.Board.{Board}
use Rattle.board.specs.Board.{net_of}
use Rattle.board.specs.Layout.{layout_of}
use Rattle.trailer.specs.declared.Head.{Head}
use Rattle.trailer.proofs.CountLaws.{taking}
use Rattle.table.specs.Packets.{packet_of}
use Rattle.table.specs.Calls.{Outcome}
use Rattle.router.specs.Clear.{used, cleared_slice}
use Rattle.router.specs.TakeIn.{TakeAnswer, taken_slice}
use Rattle.survey.specs.Check.{check_answer, checked_slice}
use Rattle.calls.specs.Slices.{Bytes, head_in, GoodIn, net_in, slots_in}
use Rattle.calls.specs.Router.{ours}
use Rattle.calls.specs.Calls.{Call, clears, takes, moves, looks, Handed, Given, Quiet, looked_by, left_by, given_by}
use Rattle.promises.specs.Conditions.{NothingHeld}
use Rattle.promises.specs.Demand3.{bounds_in}
use Rattle.promises.specs.Answers.{Fresh, Enters}
use Rattle.promises.specs.History.{bound_for, hopped_by, Ledger, opened, entered}
use Rattle.promises.proofs.Reading.{head_is, good_in, good_is}
use Rattle.promises.proofs.Checked.{taken_small, passing_good, passing_in, number_passes}
use Rattle.promises.proofs.Standing.{Stands, stands_checked}
use Rattle.promises.proofs.Taking.{take_stands}
use Rattle.promises.proofs.Clearing.{clear_stands}
use Rattle.promises.proofs.Unchanged.{clear_refused, take_refused}
use Rattle.promises.proofs.Course.{looked}
use Rattle.promises.proofs.Demand3.{head_same, net_same, demand_3}
use Rattle.promises.proofs.Answers.{answers}
use Rattle.promises.proofs.Held.{records_in, bounds_are, no_records, entered_bounds}
use Rattle.promises.proofs.Counted.{Recorded, none_recorded}
use Rattle.promises.proofs.Hopping.{packets, taking_recorded, move_recorded}

-- bound for delivery after as many hops as the distance
abbrev pub Spans : Net → Given → Type 0
Spans N g = (packet_of g.packet).hops ≡ N.distance (packet_of g.packet).source (packet_of g.packet).destination

pub record Accounted (r : Ledger) : Type 0 where
  pub bytes : Bytes r.last
  pub passes : checked_slice r.last ≡ Ok tt
  pub taken : (head_in r.last).taken ≡ length r.taken
  pub same : Permᴰ r.taken (r.given ++ bounds_in r.last)
  pub spans : All (Spans (net_in r.last)) r.taken
  pub hops : Recorded (head_in r.last).taken r.hopped (packets r.given ++ records_in r.last)

-- ---- an accepted clear holds nothing

module _ (s : List ℕ) (b : Bytes s) (board : Board) (z : (cleared_slice s board).answer ≡ 0) where
  abbrev u : List ℕ
  u = (cleared_slice s board).bytes

  fresh : Fresh s (used board) u
  fresh = answers.clear s b board z

  good : GoodIn u
  good = good_in u (clear_stands s board z).head

  none : NothingHeld u
  none k l = fresh.slots k (subst (λ (h : Head). k < (layout_of h.board).size) fresh.head l)

  pub fresh_kept : Accounted (opened u)
  fresh_kept =
      let taken : (head_in u).taken ≡ 0 = ap (λ (h : Head). h.taken) fresh.head in
      let empty = no_records u good none in
      record {
        bytes = answers.bytes s b (clears board) tt;
        passes = number_passes (checked_slice u) (stands_checked u _ (clear_stands s board z));
        taken = taken;
        same = rw (bounds_are u, empty) mathlib.Core.List.Permᴰ.nil;
        spans = tt;
        hops = rw (taken, empty) none_recorded;
      }

module _ (r : Ledger) (k : Accounted r) where
  abbrev s : List ℕ
  s = r.last

  -- ---- a call that takes nothing in

  abbrev after : Call → Ledger
  after c = record { last = left_by ours s c; taken = r.taken; given = given_by ours s c ++ r.given; hopped = hopped_by ours s c ++ r.hopped }

  abbrev Hops : Ledger → Type 0
  Hops q = Recorded (head_in q.last).taken q.hopped (packets q.given ++ records_in q.last)

  quiet_kept : (c : Call) → Handed c → Quiet ours s c → Hops (after c) → Accounted (after c)
  quiet_kept c h q hops =
      let d = demand_3.drains s k.bytes (ap (λ x. (check_answer x).number) k.passes) (c ∷ []) (q, tt) in
      let gone = given_by ours s c in
      let now = bounds_in (left_by ours s c) in
      let moved : Permᴰ (bounds_in s) (gone ++ now) = subst (λ (l : List Given). Permᴰ (bounds_in s) (l ++ now)) (append-nil gone) d.conserved in
      record {
        bytes = answers.bytes s k.bytes c h;
        passes = number_passes (checked_slice (left_by ours s c)) d.passes;
        taken = ap (λ (x : Head). x.taken) (head_same s k.bytes k.passes (c ∷ []) (q, tt)) ∙ k.taken;
        same = subst (Permᴰ r.taken) (sym (append_assoc gone r.given now))
            (mathlib.Core.List.Permᴰ.trans k.same (mathlib.Core.List.Permᴰ.trans (mathlib.Core.List.Permᴰ.append_left r.given moved) (swap_front r.given gone now)));
        spans = subst (λ (N : Net). All (Spans N) r.taken) (sym (net_same s k.bytes k.passes (c ∷ []) (q, tt))) k.spans;
        hops = hops;
      }

  -- bytes left as they were
  hops_same : (u : List ℕ) → u ≡ s → Hops (record { last = u; taken = r.taken; given = r.given; hopped = r.hopped })
  hops_same u e = rw e k.hops

  -- ---- an accepted taking in

  good_now : GoodIn s
  good_now = passing_good s k.passes

  standing : Stands s (head_in s)
  standing =
      let e = good_is s good_now in
      record { head = e; small = taken_small s k.bytes e; passing = passing_in s k.passes }

  module _ (source destination : ℕ) (payload : List ℕ) (b : Bytes payload) (l : length payload ≡ 8) where
    abbrev o : Outcome TakeAnswer (List ℕ)
    o = taken_slice s source destination payload

    abbrev new : Given
    new = bound_for (net_in s) source destination o.answer.serial payload

    module _ (z : o.answer.number ≡ 0) where
      enters : Enters s source destination payload o
      enters = answers.take_in s k.bytes source destination payload b l z

      stands : Stands o.bytes (taking (head_in s) ((head_in s).taken + 1))
      stands = take_stands s (head_in s) standing source destination payload l z

      slots_same : slots_in o.bytes ≡ slots_in s
      slots_same = ap (λ (h : Head). (layout_of h.board).size) (head_is o.bytes stands.head)

      nets_same : net_in o.bytes ≡ net_in s
      nets_same = ap (λ (h : Head). net_of h.board) (head_is o.bytes stands.head)

      taken_kept : Accounted record { last = o.bytes; taken = new ∷ r.taken; given = r.given; hopped = r.hopped }
      taken_kept =
          let bounds = entered_bounds s good_now source destination payload o slots_same enters nets_same in
          let taken : (head_in o.bytes).taken ≡ suc (head_in s).taken = omega (arith, ap (λ (h : Head). h.taken) (head_is o.bytes stands.head)) in
          record {
            bytes = answers.bytes s k.bytes (takes source destination payload) (b, l);
            passes = number_passes (checked_slice o.bytes) (stands_checked o.bytes _ stands);
            taken = taken ∙ ap suc k.taken;
            same = mathlib.Core.List.Permᴰ.trans (mathlib.Core.List.Permᴰ.cons refl k.same)
                (mathlib.Core.List.Permᴰ.trans (mathlib.Core.List.Permᴰ.symm (mathlib.Core.List.Permᴰ.middle new r.given (bounds_in s))) (mathlib.Core.List.Permᴰ.append_left r.given (mathlib.Core.List.Permᴰ.symm bounds)));
            spans = subst (λ (N : Net). All (Spans N) (new ∷ r.taken)) (sym nets_same) (refl, k.spans);
            hops = rw taken
                (taking_recorded s good_now standing.small source destination payload o slots_same enters r.given r.hopped k.hops);
          }

    take_kept : Accounted (entered ours (takes source destination payload) r)
    take_kept = go (eqb o.answer.number 0) refl
      where
        go : (y : Bool) → eqb o.answer.number 0 ≡ y → Accounted record { last = o.bytes; taken = cond y (new ∷ []) [] ++ r.taken; given = r.given; hopped = r.hopped }
        go true e = taken_kept (eqb-true _ _ e)
        go false e =
            let u = eqb-false _ _ e in
            quiet_kept (takes source destination payload) (b, l) u
            (hops_same o.bytes (ap (λ (w : Outcome TakeAnswer (List ℕ)). w.bytes) (take_refused s source destination payload u)))

  -- ---- any call

  clear_kept : (board : Board) → Accounted (entered ours (clears board) r)
  clear_kept board = go (eqb (cleared_slice s board).answer 0) refl
    where
      now : List ℕ
      now = (cleared_slice s board).bytes

      go : (y : Bool) → eqb (cleared_slice s board).answer 0 ≡ y
          → Accounted record { last = now; taken = (cond y (opened s) r).taken; given = (cond y (opened s) r).given; hopped = (cond y (opened s) r).hopped }
      go true e = fresh_kept s k.bytes board (eqb-true _ _ e)
      go false e =
          let u = eqb-false _ _ e in
          quiet_kept (clears board) tt u
          (hops_same now (ap (λ (w : Outcome ℕ (List ℕ)). w.bytes) (clear_refused s board u)))

  pub call_kept : (c : Call) → Handed c → Accounted (entered ours c r)
  call_kept (clears board) h = clear_kept board
  call_kept (takes source destination payload) h = take_kept source destination payload h.0 h.1
  call_kept (moves slot code) h = quiet_kept (moves slot code) tt tt (move_recorded s k.bytes k.passes slot code r.given r.hopped k.hops)
  call_kept (looks l) h = quiet_kept (looks l) tt tt (hops_same (looked_by ours s l) (looked s l))

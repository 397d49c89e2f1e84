-- The history of our router: from an accepted clear on, whatever calls follow, its ledger is balanced.
-- Assumes nothing.
use Prim.Native.Nat.{ℕ}
use mathlib.Core.Path.{◌≡◌, ap, ◌∙◌}
use mathlib.Core.List.{List, [], ◌∷◌}
use native.Mathlib.Omega.{arith}
use lib.ListN.{length-append}
use Rattle.network.specs.Lists.{All}
use Rattle.network.proofs.Lists.{all_perm, images_all, length-perm}
use Rattle.table.specs.Packets.{packet_of}
use Rattle.survey.specs.Check.{check_answer}
use Rattle.calls.specs.Slices.{GoodIn, net_in}
use Rattle.calls.specs.Router.{ours}
use Rattle.calls.specs.Calls.{Call, Handed}
use Rattle.promises.specs.Demand3.{bounds_in}
use Rattle.promises.specs.History.{Ledger, entered, ledger, hops_of, Balanced, History}
use Rattle.promises.proofs.Checked.{passing_good, passing_in}
use Rattle.promises.proofs.Demand3.{held_bounds}
use Rattle.promises.proofs.Held.{records_in, record_has}
use Rattle.promises.proofs.Counted.{all_with, all_parts}
use Rattle.promises.proofs.Hopping.{packets}
use Rattle.promises.proofs.Keeping.{Spans, Accounted, fresh_kept, call_kept}

ledger_kept : (calls : List Call) → All Handed calls → (r : Ledger) → Accounted r → Accounted (ledger ours r calls)
ledger_kept [] h r k = k
ledger_kept (c ∷ calls) h r k = ledger_kept calls h.1 (entered ours c r) (call_kept r k c h.0)

-- ---- what is kept is what is promised

module _ (r : Ledger) (k : Accounted r) where
  good_last : GoodIn r.last
  good_last = passing_good r.last k.passes

  told : All (λ (v : List ℕ). hops_of (packet_of v).serial r.hopped ≡ (packet_of v).hops) (packets r.given)
      × All (λ (v : List ℕ). hops_of (packet_of v).serial r.hopped ≡ (packet_of v).hops) (records_in r.last)
  told = all_parts _ (packets r.given) (records_in r.last) k.hops.hops

  kept_balanced : Balanced ours r
  kept_balanced =
      let all = length-perm k.same ∙ length-append r.given (bounds_in r.last) in
      let held = held_bounds r.last good_last k.bytes in
      record {
        balance = omega (arith, all, held);
        taken = k.taken;
        delivered = omega (arith, all, held, k.taken, (passing_in r.last k.passes).counted);
        passes = ap (λ x. (check_answer x).number) k.passes;
        accounted = k.same;
        hops = all_with (λ g p q. p ∙ q) r.given (images_all _ _ r.given told.0)
            (all_parts (Spans (net_in r.last)) r.given (bounds_in r.last) (all_perm (Spans (net_in r.last)) k.same k.spans)).0;
        hops_held = record_has r.last good_last _ told.1;
      }

pub history : History ours
history s b board z calls p = kept_balanced _ (ledger_kept calls p _ (fresh_kept s b board z))

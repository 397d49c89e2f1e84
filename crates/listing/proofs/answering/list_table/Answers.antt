-- The listing has room.
use native.Mathlib.Omega.{arith}
use Rattle.listing.proofs.Bounds.{listing_short}
use Rattle.listing.proofs.answering.list_table.Goals as goal

pub put_listing-requires : goal.put_listing-requires
put_listing-requires c =
    rw c.new-text.ensures (record { room = omega (arith, listing_short c.args.s.now (λ i. (c.type_inv.s i).fits)) })

-- A table that passes still passes after one packet's step, after one has been handed out, and after one has come in with the next serial.
-- Assumes nothing.
use mathlib.Core.Path.{◌≡◌}
use mathlib.Core.List.Permᴰ
use mathlib.Core.List.{List, [], ◌∷◌, map, Permᴰ}
use Prim.Native.Nat.{ℕ, suc, ◌+◌, ◌<◌}
use native.Mathlib.Omega.{arith}
use lib.ListN.{length}
use Rattle.network.specs.Lists.{All, Distinct}
use Rattle.network.specs.Net.{Net, NetLaws}
use Rattle.network.specs.Packet.{Item, Delivery, GoodItem}
use Rattle.network.specs.Contents.{Contents, Passing, serial_of}
use Rattle.network.specs.Machine.{Stepped, Left}
use Rattle.network.proofs.Lists.{all_perm, all_map, all_images, length-perm, map-perm, distinct_perm}
use Rattle.network.proofs.Course.{led_good, led_serial}

-- a packet stays good while fewer are delivered than taken
still_due : (N : Net) (taken d d' : ℕ) → d' < taken → (x : Item) → GoodItem N taken d x → GoodItem N taken d' x
still_due N taken d d' h x g = record {
  here = g.here;
  marked = g.marked;
  from = g.from;
  to = g.to;
  numbered = g.numbered;
  due = h;
  made = g.made;
  left = g.left;
  fits = g.fits;
}

-- and while more are taken in
still_good : (N : Net) (taken d : ℕ) (x : Item) → GoodItem N taken d x → GoodItem N (suc taken) d x
still_good N taken d x g = record {
  here = g.here;
  marked = g.marked;
  from = g.from;
  to = g.to;
  numbered = omega (arith, g.numbered);
  due = omega (arith, g.due);
  made = g.made;
  left = g.left;
  fits = g.fits;
}

all_due : (N : Net) (taken d d' : ℕ) (l : List Item) → taken ≡ d' + length l → All (GoodItem N taken d) l → All (GoodItem N taken d') l
all_due N taken d d' [] e h = tt
all_due N taken d d' (x ∷ l) e h = all_map (still_due N taken d d' (omega arith)) (x ∷ l) h

module _ (N : Net) (b b' : Contents) (P : Passing N b) where
  pub stepped_passing : NetLaws N → Stepped N b b' → Passing N b'
  stepped_passing L s =
      let all = all_perm (GoodItem N b.taken b.delivered) s.was P.sound in
      let serials : Distinct (serial_of s.x ∷ map serial_of s.others) = distinct_perm (map-perm serial_of s.was) P.distinct in
      let moved = led_good N L b.taken b.delivered s.x all.0 s.code s.y s.led in
      let named = led_serial N L b.taken b.delivered s.x all.0 s.code s.y s.led in
      record {
        sound = rw (s.taken, s.delivered) (all_perm (GoodItem N b.taken b.delivered) (Permᴰ.symm s.is) (moved, all.1));
        distinct = distinct_perm (Permᴰ.symm (map-perm serial_of s.is)) (rw named serials);
        counted = omega (arith, P.counted, length-perm s.was, length-perm s.is, s.taken, s.delivered);
      }

  pub left_passing : (d : Delivery) → Left N b b' d → Passing N b'
  left_passing d s =
      let all = all_perm (GoodItem N b.taken b.delivered) s.was P.sound in
      let serials : Distinct (serial_of s.x ∷ map serial_of b'.items) = distinct_perm (map-perm serial_of s.was) P.distinct in
      let count : b.taken ≡ b'.delivered + length b'.items = omega (arith, P.counted, length-perm s.was, s.delivered) in
      record {
        sound = rw s.taken (all_due N b.taken b.delivered b'.delivered b'.items count all.1);
        distinct = serials.1;
        counted = omega (arith, s.taken);
      }

  -- the packets there already have lower serials
  pub entered_passing : (x : Item) → GoodItem N (suc b.taken) b.delivered x → serial_of x ≡ b.taken → Permᴰ b'.items (x ∷ b.items)
      → b'.taken ≡ suc b.taken → b'.delivered ≡ b.delivered → Passing N b'
  entered_passing x g new is more same =
      let old : All (λ (y : Item). serial_of x ≡ serial_of y → ⊥) b.items =
      all_map (λ y u q. omega (arith, u.numbered, new, q)) b.items P.sound in
      let all = all_map (still_good N b.taken b.delivered) b.items P.sound in
      record {
        sound = rw (more, same) (all_perm (GoodItem N (suc b.taken) b.delivered) (Permᴰ.symm is) (g, all));
        distinct = distinct_perm (Permᴰ.symm (map-perm serial_of is)) (all_images (λ (u : ℕ). serial_of x ≡ u → ⊥) serial_of b.items old, P.distinct);
        counted = omega (arith, P.counted, length-perm is, more, same);
      }

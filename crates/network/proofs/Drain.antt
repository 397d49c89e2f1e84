-- Demand 3, for every network that keeps the laws and every machine whose accepted moves are the rule's.
-- Assumes nothing.
use mathlib.Core.Path.{◌≡◌, refl, sym}
use mathlib.Core.List.{List, [], ◌∷◌, ◌++◌, map, Memᴰ, append-nil}
use mathlib.Core.List.Permᴰ
use mathlib.Core.List.{Permᴰ}
use Prim.Native.Nat.{◌+◌, ◌≤◌, ◌<◌}
use native.Mathlib.Omega.{arith}
use Rattle.network.specs.Net.{Net, NetLaws}
use Rattle.network.specs.Packet.{Item, Delivery, GoodItem, weight, bound}
use Rattle.network.specs.Contents.{Contents, Passing}
use Rattle.network.specs.Run.{Answer, unchanged, moved, delivered, Trace, trace, after, Accepted}
use Rattle.network.specs.Machine.{Stepped, Left, Machine}
use Rattle.network.specs.Drain.{sum, bounds, Drains}
use Rattle.network.proofs.Lists.{all_perm, total-perm, map-perm}
use Rattle.network.proofs.Course.{led_lighter, led_bound, handed-bound, weight_pos}
use Rattle.network.proofs.Kept.{stepped_passing, left_passing}
use Rattle.network.proofs.Progress.{progress}

nothing_held : (l : List Item) → ((x : Item) → Memᴰ x l → ⊥) → l ≡ []
nothing_held [] h = refl
nothing_held (x ∷ l) h = absurd (h x (Memᴰ.head refl))

left_lighter : (N : Net) (b b' : Contents) (d : Delivery) → Left N b b' d → sum N b' < sum N b
left_lighter N b b' d s = omega (arith, weight_pos N s.x, total-perm (weight N) s.was)

-- what one accepted move does to the sum and to what the packets are bound for
module _ (N : Net) (L : NetLaws N) (b b' : Contents) (P : Passing N b) where
  stepped_lighter : Stepped N b b' → sum N b' < sum N b
  stepped_lighter s =
      let g = (all_perm (GoodItem N b.taken b.delivered) s.was P.sound).0 in
      omega (
        arith,
        led_lighter N L b.taken b.delivered s.x g s.code s.y s.led,
        total-perm (weight N) s.was,
        total-perm (weight N) s.is,
      )

  stepped_bounds : Stepped N b b' → Permᴰ (bounds N b) (bounds N b')
  stepped_bounds s =
      let g = (all_perm (GoodItem N b.taken b.delivered) s.was P.sound).0 in
      let same = led_bound N L b.taken b.delivered s.x g s.code s.y s.led in
      Permᴰ.trans (map-perm (bound N) s.was)
      (Permᴰ.trans (Permᴰ.cons (sym same) (Permᴰ.refl (map (bound N) s.others))) (Permᴰ.symm (map-perm (bound N) s.is)))

  left_bounds : (d : Delivery) → Left N b b' d → Permᴰ (bounds N b) (d ∷ bounds N b')
  left_bounds d s =
      let g = (all_perm (GoodItem N b.taken b.delivered) s.was P.sound).0 in
      let same = handed-bound N L b.taken b.delivered s.x g s.code s.offered in
      rw (s.given, same) (map-perm (bound N) s.was)

module _ (N : Net) (L : NetLaws N) {S C : Type 0} (see : S → Contents) (Fit : S → Type 0) (answer : S → C → Answer S) (M : Machine N see Fit answer) where
  record Law (s : S) (r : Trace S) : Type 0 where
    fit : Fit r.last
    passing : Passing N (see r.last)
    bounded : r.accepted + sum N (see r.last) ≤ sum N (see s)
    conserved : Permᴰ (bounds N (see s)) (r.given ++ bounds N (see r.last))

  one : (go : S → Trace S) → ((t : S) → Fit t → Passing N (see t) → Law t (go t)) → (s : S) → Fit s → Passing N (see s)
      → (c : C) (o : Answer S) → answer s c ≡ o → Law s (after go s o)
  one go law s f p c unchanged e = law s f p
  one go law s f p c (moved t) e =
      let m = M.steps s t c f p e in
      let q = stepped_passing N (see s) (see t) p L m.1 in
      let r = law t m.0 q in
      record {
        fit = r.fit;
        passing = r.passing;
        bounded = omega (arith, r.bounded, stepped_lighter N L (see s) (see t) p m.1);
        conserved = Permᴰ.trans (stepped_bounds N L (see s) (see t) p m.1) r.conserved;
      }
  one go law s f p c (delivered t d) e =
      let m = M.gives s t c d f p e in
      let q = left_passing N (see s) (see t) p d m.1 in
      let r = law t m.0 q in
      record {
        fit = r.fit;
        passing = r.passing;
        bounded = omega (arith, r.bounded, left_lighter N (see s) (see t) d m.1);
        conserved = Permᴰ.trans (left_bounds N L (see s) (see t) p d m.1) (Permᴰ.cons refl r.conserved);
      }

  law : (calls : List C) (s : S) → Fit s → Passing N (see s) → Law s (trace answer s calls)
  law [] s f p = record { fit = f; passing = p; bounded = omega arith; conserved = Permᴰ.refl (bounds N (see s)) }
  law (c ∷ cs) s f p = one (λ t. trace answer t cs) (λ t. law cs t) s f p c (answer s c) refl

  -- the table is one still
  pub still_fit : (s : S) → Fit s → Passing N (see s) → (calls : List C) → Fit (trace answer s calls).last
  still_fit s f p calls = (law calls s f p).fit

  pub drains : (s : S) → Fit s → Passing N (see s) → (calls : List C) → Drains N see answer s calls
  drains s f p calls =
      let r = law calls s f p in
      let end = (trace answer s calls).last in
      let on : (x : Item) → Memᴰ x (see end).items → (c : C) × Accepted (answer end c) =
      λ x m. let w = progress N L (see end).taken (see end).delivered (see end).items r.passing.sound x m in
      M.goes end r.fit r.passing w.who w.code w.held w.way w.right in
      record {
        passing = r.passing;
        bounded = r.bounded;
        conserved = r.conserved;
        onward = on;
        finished = λ stop.
            let bare : (see end).items ≡ [] = nothing_held (see end).items (λ x m. let a = on x m in stop a.0 a.1) in
            (bare, rw (bare, append-nil) at r.conserved);
      }

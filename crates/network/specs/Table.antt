-- What accepted moves do to the packets that a table holds, and when they must be accepted: demand 2 as the large theorem needs it. How slots
-- yield it, whether or not a queue closes up behind a packet that leaves.
-- Assumes nothing.
use Rattle.std.specs.Prelude.{◌≡◌, ◌≢◌, ℕ, suc, ◌+◌, ◌<◌, ◌≤◌}
use Rattle.network.specs.declared.Place.{Place}
use Rattle.network.specs.declared.Lead.TheVariants.{Out}
use Rattle.network.specs.Net.{Net}
use Rattle.network.specs.Packet.{Packet, Delivery, offer, handed}
use Rattle.network.specs.Contents.{Passing}
use Rattle.network.specs.View.{empty, held, Layout, View, item_at, items_of, contents}
use Rattle.network.specs.Run.{Answer, moved, delivered, Accepted}
use Rattle.network.specs.Machine.{Led, Stepped, Left, Open, RightOfWay}

-- slot i has been left: the n slots behind it, of its queue, have moved down by one place each, the last of them is empty, and every other slot is
-- as it was. With n = 0, slot i alone is empty now; with n = the slots behind it in its queue, the queue has closed up.
pub record Vacated (Y : Layout) (v w : View) (i n : ℕ) : Type 0 where
  pub inside : i + n < Y.size
  pub queue : (k : ℕ) → k ≤ n → Y.place_of (i + k) ≡ Y.place_of i
  pub down : (k : ℕ) → k < n → w.at (i + k) ≡ v.at (i + suc k)
  pub last : w.at (i + n) ≡ empty
  pub before : (k : ℕ) → k < i → w.at k ≡ v.at k
  pub behind : (k : ℕ) → i + n < k → k < Y.size → w.at k ≡ v.at k

-- a packet has come into the empty slot j
pub record Entered (Y : Layout) (v w : View) (j : ℕ) (q : Packet) : Type 0 where
  pub inside : j < Y.size
  pub free : v.at j ≡ empty
  pub come : w.at j ≡ held q
  pub rest : (k : ℕ) → k < Y.size → k ≢ j → w.at k ≡ v.at k

-- the packet of slot i has left it and come into slot j, where the rule leads it by a code; the counts are as they were
pub record Carried (N : Net) (Y : Layout) (v w : View) : Type 0 where
  pub i : ℕ
  pub n : ℕ
  pub j : ℕ
  pub p : Packet
  pub q : Packet
  pub code : ℕ
  pub between : View
  pub was : v.at i ≡ held p
  pub vacated : Vacated Y v between i n
  pub entered : Entered Y between w j q
  pub led : Led N (item_at Y i p) code (item_at Y j q)
  pub taken : w.taken ≡ v.taken
  pub delivered : w.delivered ≡ v.delivered

-- the packet of slot i has left it, handed out as the rule offers by a code; one more is delivered
pub record HandedOut (N : Net) (Y : Layout) (v w : View) (d : Delivery) : Type 0 where
  pub i : ℕ
  pub n : ℕ
  pub p : Packet
  pub code : ℕ
  pub was : v.at i ≡ held p
  pub vacated : Vacated Y v w i n
  pub offered : offer N (item_at Y i p) code ≡ Out
  pub given : d ≡ handed (item_at Y i p)
  pub taken : w.taken ≡ v.taken
  pub delivered : w.delivered ≡ suc v.delivered

-- some slot of the queue is empty
abbrev pub HasRoom : Layout → View → Place → Type 0
HasRoom Y v p = (j : ℕ) × (j < Y.room p.kind) × (v.at (Y.first p + j) ≡ empty)

-- moves by what they do to the packets held; acceptance by slots
pub record TableMachine (N : Net) (Y : Layout) {S C : Type 0} (see : S → View) (Fit : S → Type 0) (answer : S → C → Answer S) : Type 0 where
  pub carries : (s t : S) (c : C) → Fit s → Passing N (contents Y (see s)) → answer s c ≡ moved t → Fit t × Stepped N (contents Y (see s)) (contents Y (see t))
  pub hands : (s t : S) (c : C) (d : Delivery) → Fit s → Passing N (contents Y (see s)) → answer s c ≡ delivered t d
      → Fit t × Left N (contents Y (see s)) (contents Y (see t)) d
  pub accepts : (s : S) → Fit s → Passing N (contents Y (see s)) → (i : ℕ) (p : Packet) (code : ℕ) → i < Y.size → (see s).at i ≡ held p
      → Open N (HasRoom Y (see s)) (item_at Y i p) code → RightOfWay N (items_of Y (see s)) (item_at Y i p) code → (c : C) × Accepted (answer s c)

-- A machine whose accepted moves are the rule's: what demand 3 is proved from.
-- Assumes nothing.
use Rattle.std.specs.Prelude.{◌≡◌, ℕ, suc}
use mathlib.Core.List.{List, ◌∷◌, Permᴰ, Memᴰ}
use Rattle.network.specs.declared.Kind.{Kind}
use Rattle.network.specs.declared.Kind.TheVariants.{A, B}
use Rattle.network.specs.declared.Place.{Place}
use Rattle.network.specs.declared.Lead.TheVariants.{Hop, Turn, Out}
use Rattle.network.specs.Lists.{All}
use Rattle.network.specs.Net.{Net, at}
use Rattle.network.specs.Packet.{Item, Delivery, offer, hopped, turned, handed}
use Rattle.network.specs.Contents.{Contents, Passing}
use Rattle.network.specs.Run.{Answer, moved, delivered, Accepted}

-- y is x after the move that the rule offers it by a code
pub data Led (N : Net) (x : Item) (code : ℕ) (y : Item) : Type 0 where
  by_hop : (n : ℕ) → offer N x code ≡ Hop n → y ≡ hopped x n → Led N x code y
  by_turn : (k : Kind) → offer N x code ≡ Turn k → y ≡ turned x k → Led N x code y

-- one packet has been led on; the others and the counts are as they were
pub record Stepped (N : Net) (b b' : Contents) : Type 0 where
  pub x : Item
  pub y : Item
  pub code : ℕ
  pub others : List Item
  pub was : Permᴰ b.items (x ∷ others)
  pub is : Permᴰ b'.items (y ∷ others)
  pub led : Led N x code y
  pub taken : b'.taken ≡ b.taken
  pub delivered : b'.delivered ≡ b.delivered

-- one packet has been handed out where the rule lets it leave; the others are as they were, and one more is delivered
pub record Left (N : Net) (b b' : Contents) (d : Delivery) : Type 0 where
  pub x : Item
  pub code : ℕ
  pub was : Permᴰ b.items (x ∷ b'.items)
  pub offered : offer N x code ≡ Out
  pub given : d ≡ handed x
  pub taken : b'.taken ≡ b.taken
  pub delivered : b'.delivered ≡ suc b.delivered

-- the rule offers the packet a move by a code: out of the network, or to a queue that is free
pub data Open (N : Net) (Free : Place → Type 0) (x : Item) (code : ℕ) : Type 0 where
  leaves : offer N x code ≡ Out → Open N Free x code
  hops : (n : ℕ) → offer N x code ≡ Hop n → Free (at n x.place.kind) → Open N Free x code
  turns : (k : Kind) → offer N x code ≡ Turn k → Free (at x.place.node k) → Open N Free x code

-- document 02, order 3, static traffic first on a link: in A, on a code by which the rule makes it hop, packet x gives way to packet y, which is in B at
-- the same node and is offered a hop by that same code. Good is not asked: where a machine must accept, every packet is
pub record GivesWayTo (N : Net) (x y : Item) (code : ℕ) : Type 0 where
  pub in_A : x.place.kind ≡ A
  pub in_B : y.place ≡ at x.place.node B
  pub hop : (n : ℕ) × (offer N x code ≡ Hop n)
  pub same_hop : (n : ℕ) × (offer N y code ≡ Hop n)

-- it gives way to none of the list
abbrev pub RightOfWay : Net → List Item → Item → ℕ → Type 0
RightOfWay N l x code = All (λ y. GivesWayTo N x y code → ⊥) l

-- no packet of the list stands in that queue
abbrev pub Vacant : List Item → Place → Type 0
Vacant l p = All (λ y. y.place ≡ p → ⊥) l

-- see: what a state holds; Fit: the state is a table at all
pub record Machine (N : Net) {S C : Type 0} (see : S → Contents) (Fit : S → Type 0) (answer : S → C → Answer S) : Type 0 where
  pub steps : (s t : S) (c : C) → Fit s → Passing N (see s) → answer s c ≡ moved t → Fit t × Stepped N (see s) (see t)
  pub gives : (s t : S) (c : C) (d : Delivery) → Fit s → Passing N (see s) → answer s c ≡ delivered t d → Fit t × Left N (see s) (see t) d
  pub goes : (s : S) → Fit s → Passing N (see s) → (x : Item) (code : ℕ) → Memᴰ x (see s).items → Open N (Vacant (see s).items) x code
      → RightOfWay N (see s).items x code → (c : C) × Accepted (answer s c)

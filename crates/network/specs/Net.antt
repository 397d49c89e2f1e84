-- A packet network: its nodes, the distance between them, the rule of moves; and the laws that demand 3 rests on.
-- Assumes nothing.
use Rattle.std.specs.Prelude.{◌≡◌, Bool, true, false, ◌&&◌, ◌⊎◌, ℕ, suc, ◌+◌, ◌<◌, ◌≤◌, eqb}
use Rattle.network.specs.declared.Kind.{Kind}
use Rattle.network.specs.declared.Kind.TheVariants.{Waiting, A, B}
use Rattle.network.specs.declared.Place.{Place}
use Rattle.network.specs.declared.Lead.{Lead}
use Rattle.network.specs.declared.Lead.TheVariants.{Hop, Turn, Out, NotOffered}

abbrev pub at : ℕ → Kind → Place
at n k = record { node = n; kind = k }

-- the kinds by number
abbrev pub kind_number : Kind → ℕ
kind_number Waiting = 0
kind_number A = 1
kind_number B = 2

-- are two places one?
abbrev pub same_place : Place → Place → Bool
same_place p q = eqb p.node q.node && eqb (kind_number p.kind) (kind_number q.kind)

pub record Net : Type 0 where
  -- the nodes that there are
  pub valid : ℕ → Bool
  pub distance : ℕ → ℕ → ℕ
  -- how high a node lies: some hop in A climbs, every hop in B descends
  pub level : ℕ → ℕ
  -- B may hold a packet here (first) for that destination (second)
  pub settled : ℕ → ℕ → Bool
  -- the codes that there are, and the highest of them
  pub known : ℕ → Bool
  pub last : ℕ
  -- the rule of moves: where a code leads a packet from its place, for its destination
  pub rule : Place → ℕ → ℕ → Lead

-- the code of delivery, on every network
abbrev pub delivery : ℕ
delivery = 7

-- demand 3's three, two or one
abbrev pub beside : Kind → ℕ
beside Waiting = 3
beside A = 2
beside B = 1

-- what the rule must satisfy from here, h, to a destination, d
pub record RuleLaws (N : Net) (h d : ℕ) : Type 0 where
  -- a hop goes to a neighbour that is one nearer
  pub hop_valid : (k : Kind) (c n : ℕ) → N.rule (at h k) d c ≡ Hop n → N.valid n ≡ true
  pub hop_one : (k : Kind) (c n : ℕ) → N.rule (at h k) d c ≡ Hop n → N.distance h n ≡ 1
  pub hop_nearer : (k : Kind) (c n : ℕ) → N.rule (at h k) d c ≡ Hop n → N.distance h d ≡ suc (N.distance n d)
  pub hop_settled : (c n : ℕ) → N.settled h d ≡ true → N.rule (at h B) d c ≡ Hop n → N.settled n d ≡ true
  pub hop_queued : (c n : ℕ) → N.rule (at h Waiting) d c ≡ Hop n → ⊥
  -- a turn goes from waiting to A or B, or from A to B
  pub turn_down : (k l : Kind) (c : ℕ) → N.rule (at h k) d c ≡ Turn l → beside l < beside k
  pub turn_settled : (k : Kind) (c : ℕ) → N.rule (at h k) d c ≡ Turn B → N.settled h d ≡ true
  pub out_there : (k : Kind) (c : ℕ) → N.rule (at h k) d c ≡ Out → h ≡ d
  -- some move is always offered, and leads away from the packets that are in the way
  pub waiting_goes : (c : ℕ) × ((N.rule (at h Waiting) d c ≡ Turn A) ⊎ (N.rule (at h Waiting) d c ≡ Turn B))
  pub A_goes : (c : ℕ)
      × ((N.rule (at h A) d c ≡ Out) ⊎ ((N.rule (at h A) d c ≡ Turn B) ⊎ ((n : ℕ) × (N.rule (at h A) d c ≡ Hop n) × (N.level h < N.level n))))
  pub B_goes : N.settled h d ≡ true → (c : ℕ) × ((N.rule (at h B) d c ≡ Out) ⊎ ((n : ℕ) × (N.rule (at h B) d c ≡ Hop n) × (N.level n < N.level h)))

pub record NetLaws (N : Net) : Type 0 where
  pub self : (a : ℕ) → N.distance a a ≡ 0
  pub triangle : (a b c : ℕ) → N.distance a c ≤ N.distance a b + N.distance b c
  -- a code that isn't known is never offered; delivery is the one that leads out, and leads nowhere else
  pub known_last : (c : ℕ) → N.known c ≡ true → c ≤ N.last
  pub unknown_never : (p : Place) (d c : ℕ) → N.known c ≡ false → N.rule p d c ≡ NotOffered
  pub out_code : (p : Place) (d c : ℕ) → N.rule p d c ≡ Out → c ≡ delivery
  pub delivers : (p : Place) (d : ℕ) → (N.rule p d delivery ≡ Out) ⊎ (N.rule p d delivery ≡ NotOffered)
  pub rule : (h d : ℕ) → N.valid h ≡ true → N.valid d ≡ true → RuleLaws N h d

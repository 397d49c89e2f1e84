-- Some packet can always go, and gives way to none: in B one of least level; where B holds none, in A one of greatest level; else any.
-- Assumes nothing.
use mathlib.Core.Path.{◌≡◌, refl, ap, ◌∙◌}
use mathlib.Core.Logic.{◌⊎◌, inl, inr}
use mathlib.Core.List.{List, Memᴰ}
use Prim.Native.Nat.{ℕ, ◌≤◌}
use native.Mathlib.Omega.{arith}
use native.Mathlib.Nat.{le_trans}
use native.Mathlib.Decide.{dec_le}
use Rattle.network.specs.declared.Kind.{Kind}
use Rattle.network.specs.declared.Kind.TheVariants.{Waiting, A, B}
use Rattle.network.specs.declared.Place.{Place}
use Rattle.network.specs.declared.Lead.{Lead}
use Rattle.network.specs.Lists.{All}
use Rattle.network.specs.Net.{Net, NetLaws, RuleLaws, at}
use Rattle.network.specs.Packet.{Item, GoodItem, offer}
use Rattle.network.specs.Machine.{Vacant, GivesWayTo, RightOfWay, Open, leaves, hops, turns}
use Rattle.network.proofs.Lists.{all_mem, all_map, mem_all, best}
use Rattle.network.proofs.Tests.{clash}
use Rattle.network.proofs.Course.{settled_in_B}

-- a packet and a code for which the way is open, and which gives way to none
pub record Ready (N : Net) (l : List Item) : Type 0 where
  pub who : Item
  pub held : Memᴰ who l
  pub code : ℕ
  pub way : Open N (Vacant l) who code
  pub right : RightOfWay N l who code

is_B : (k : Kind) → Dec (k ≡ B)
is_B Waiting = no (λ e. clash cc)
is_B A = no (λ e. clash cc)
is_B B = yes refl

is_A : (k : Kind) → Dec (k ≡ A)
is_A Waiting = no (λ e. clash cc)
is_A A = yes refl
is_A B = no (λ e. clash cc)

else_waiting : (k : Kind) → (k ≡ B → ⊥) → (k ≡ A → ⊥) → k ≡ Waiting
else_waiting Waiting u v = refl
else_waiting A u v = absurd (v refl)
else_waiting B u v = absurd (u refl)

le_or : (m n : ℕ) → (m ≤ n) ⊎ (n ≤ m)
le_or m n = elim (dec_le m n) [ yes h ↦ inl h | no h ↦ inr (omega arith) ]

-- no packet of that kind is in the list
abbrev None : Kind → List Item → Type 0
None k l = All (λ y. y.place.kind ≡ k → ⊥) l

none_vacant : (l : List Item) (n : ℕ) (k : Kind) → None k l → Vacant l (at n k)
none_vacant l n k = all_map (λ y u e. u (ap (λ (p : Place). p.kind) e)) l

module _ (N : Net) (L : NetLaws N) (taken delivered : ℕ) (l : List Item) (good : All (GoodItem N taken delivered) l) where
  -- a queue of that kind is vacant where all its like are elsewhere in level
  level_vacant : (k : Kind) (n : ℕ) → All (λ y. y.place.kind ≡ k → N.level y.place.node ≡ N.level n → ⊥) l → Vacant l (at n k)
  level_vacant k n = all_map (λ y u e. u (ap (λ (p : Place). p.kind) e) (ap (λ (p : Place). N.level p.node) e)) l

  module _ (x : Item) (m : Memᴰ x l) where
    fine : GoodItem N taken delivered x
    fine = all_mem (GoodItem N taken delivered) m good

    laws : RuleLaws N x.place.node x.packet.destination
    laws = L.rule x.place.node x.packet.destination fine.here fine.to

    -- the rule asked by the packet's own kind, where that is known
    known_kind : (k : Kind) (c : ℕ) {t : Lead} → x.place.kind ≡ k → N.rule (at x.place.node k) x.packet.destination c ≡ t → offer N x c ≡ t
    known_kind k c e o = ap (λ (j : Kind). N.rule (at x.place.node j) x.packet.destination c) e ∙ o

    ready : ((c : ℕ) → RightOfWay N l x c) → (c : ℕ) → Open N (Vacant l) x c → Ready N l
    ready r c w = record { who = x; held = m; code = c; way = w; right = r c }

    -- a packet in B gives way to none
    in_B_right : x.place.kind ≡ B → (c : ℕ) → RightOfWay N l x c
    in_B_right e c = mem_all (λ y. GivesWayTo N x y c → ⊥) l (λ y i w. let a = w.in_A in clash cc)

    -- and where B holds none, no packet does
    empty_B_right : None B l → (c : ℕ) → RightOfWay N l x c
    empty_B_right none c = all_map (λ y u w. u (ap (λ (p : Place). p.kind) w.in_B)) l none

    B_ready : x.place.kind ≡ B → All (λ y. y.place.kind ≡ B → N.level x.place.node ≤ N.level y.place.node) l → Ready N l
    B_ready e least =
        let r = laws.B_goes (settled_in_B fine e) in
        elim r.1 [
          | inl o ↦ ready (in_B_right e) r.0 (leaves (known_kind B r.0 e o))
          | inr h ↦ ready (in_B_right e) r.0 (hops h.0 (known_kind B r.0 e h.1)
              (rw e (level_vacant B h.0 (all_map (λ y u v w. let p = u v in omega (arith, h.2)) l least))))
        ]

    A_ready : x.place.kind ≡ A → None B l → All (λ y. y.place.kind ≡ A → N.level y.place.node ≤ N.level x.place.node) l → Ready N l
    A_ready e clear greatest =
        let r = laws.A_goes in
        elim r.1 [
          | inl o ↦ ready (empty_B_right clear) r.0 (leaves (known_kind A r.0 e o))
          | inr (inl t) ↦ ready (empty_B_right clear) r.0 (turns B (known_kind A r.0 e t) (none_vacant l x.place.node B clear))
          | inr (inr h) ↦ ready (empty_B_right clear) r.0 (hops h.0 (known_kind A r.0 e h.1)
              (rw e (level_vacant A h.0 (all_map (λ y u v w. let p = u v in omega (arith, h.2)) l greatest))))
        ]

    waiting_ready : x.place.kind ≡ Waiting → None B l → None A l → Ready N l
    waiting_ready e clear empty =
        let r = laws.waiting_goes in
        elim r.1 [
          | inl t ↦ ready (empty_B_right clear) r.0 (turns A (known_kind Waiting r.0 e t) (none_vacant l x.place.node A empty))
          | inr t ↦ ready (empty_B_right clear) r.0 (turns B (known_kind Waiting r.0 e t) (none_vacant l x.place.node B clear))
        ]

  pub progress : (z : Item) → Memᴰ z l → Ready N l
  progress z m =
      elim (best (λ x. x.place.kind ≡ B) (λ x. is_B x.place.kind) (λ x y. N.level x.place.node ≤ N.level y.place.node)
      (λ x y. le_or _ _) (λ x y z. le_trans) l) [
        | inr b ↦ B_ready b.0 b.1 b.2 b.3
        | inl clear ↦ elim (best (λ x. x.place.kind ≡ A) (λ x. is_A x.place.kind) (λ x y. N.level y.place.node ≤ N.level x.place.node)
            (λ x y. le_or _ _) (λ x y z u v. le_trans v u) l) [
              | inr b ↦ A_ready b.0 b.1 b.2 clear b.3
              | inl empty ↦ waiting_ready z m
                  (else_waiting z.place.kind (all_mem (λ y. y.place.kind ≡ B → ⊥) m clear) (all_mem (λ y. y.place.kind ≡ A → ⊥) m empty)) clear empty
            ]
      ]

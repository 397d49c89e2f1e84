-- Laws of `slot_at` and `with_slot`, of a slot lent and given back, and of the list of slots.
-- Assumes nothing.
use Prim.Native.Nat.{ℕ, zero, suc, ◌+◌, ◌*◌, ◌≤◌, ◌<◌}
use mathlib.Core.Path.{◌≡◌, refl, sym, ap, ◌∙◌}
use mathlib.Core.Logic.{◌≢◌}
use mathlib.Core.List.{List, []}
use native.Mathlib.Omega.{arith}
use native.Mathlib.Decide.{dec_lt}
use lib.ListN.{length, get_or, take, drop, set, length-drop, take-append-drop}
use lib.Seq.{get_or-take, get_or-drop, drop-drop, take_at, drop_at}
use Rattle.slots.specs.Bytes.{part, put}
use Rattle.slots.specs.Slots.{slot_at, with_slot, slots_of}
use Rattle.slots.proofs.Parts.{
  drop-put,
  drop-put_inside,
  length_part,
  length-put,
  part-part,
  part-put-after,
  part-put_before,
  part-put_same,
  put_apart,
  put_own,
  put_twice,
  set-put,
  take_put,
}

module _ (t : List ℕ) (k : ℕ) (h : 16 * k + 16 ≤ length t) where
  pub length-slot_at : length (slot_at t k) ≡ 16
  unfolding slot_at
  length-slot_at = length_part t (16 * k) 16 h

  module _ (v : List ℕ) (e : length v ≡ 16) where
    pub length-with_slot : length (with_slot t k v) ≡ length t
    unfolding with_slot
    length-with_slot = length-put t (16 * k) v (omega arith)

    pub slot_at_same : slot_at (with_slot t k v) k ≡ v
    unfolding slot_at with_slot
    slot_at_same = part-put_same t (16 * k) v 16 (omega arith) e

    pub slot_at_other : (j : ℕ) → j ≢ k → slot_at (with_slot t k v) j ≡ slot_at t j
    unfolding slot_at with_slot
    slot_at_other j n = elim (dec_lt j k) [
      | yes l ↦ part-put_before t (16 * k) v (16 * j) 16 (omega arith) (omega arith)
      | no l ↦ part-put-after t (16 * k) v (16 * j) 16 (omega arith) (omega arith)
    ]

    -- the slot as it was written last stands
    pub with_slot_twice : (w : List ℕ) → length w ≡ 16 → with_slot (with_slot t k v) k w ≡ with_slot t k w
    unfolding with_slot
    with_slot_twice w f = put_twice t (16 * k) v w (omega arith) (e ∙ sym f)

    -- a byte stored in it is stored in what was written
    pub set-with_slot : (i x : ℕ) → i < 16 → set (with_slot t k v) (16 * k + i) x ≡ with_slot t k (set v i x)
    unfolding with_slot
    set-with_slot i x l = set-put t (16 * k) v i x (omega arith) (rw e l)

  pub with_slot_own : with_slot t k (slot_at t k) ≡ t
  unfolding slot_at with_slot
  with_slot_own = put_own t (16 * k) 16 h

  -- a byte stored in a slot is that slot written
  pub set_slot : (i x : ℕ) → i < 16 → set t (16 * k + i) x ≡ with_slot t k (set (slot_at t k) i x)
  set_slot i x l = ap (λ (s : List ℕ). set s (16 * k + i) x) (sym with_slot_own) ∙ set-with_slot (slot_at t k) length-slot_at i x l

-- two slots are written in either order
pub with_slot_apart : (t : List ℕ) (a c : ℕ) (v w : List ℕ) → 16 * a + 16 ≤ length t → 16 * c + 16 ≤ length t → length v ≡ 16 → length w ≡ 16 → a ≢ c
    → with_slot (with_slot t c w) a v ≡ with_slot (with_slot t a v) c w
unfolding with_slot
with_slot_apart t a c v w ha hc ev ew n = elim (dec_lt a c) [
  | yes l ↦ sym (put_apart t (16 * a) v (16 * c) w (omega arith) (omega arith))
  | no l ↦ put_apart t (16 * c) w (16 * a) v (omega arith) (omega arith)
]

-- ---- what is read of a slot, where it lies in the table

pub get_or-slot_at : (t : List ℕ) (k i : ℕ) → i < 16 → get_or (slot_at t k) i 0 ≡ get_or t (16 * k + i) 0
unfolding slot_at
get_or-slot_at t k i h = get_or-take 16 (drop (16 * k) t) i 0 h ∙ get_or-drop (16 * k) t i 0

pub part-slot_at : (t : List ℕ) (k at n : ℕ) → at + n ≤ 16 → part (slot_at t k) at n ≡ part t (16 * k + at) n
unfolding slot_at
part-slot_at t k at n h = part-part t (16 * k) 16 at n h

-- ---- the table as a list of slots

step : (k : ℕ) → 16 * suc k ≡ 16 + 16 * k
step k = omega arith

-- what follows slot 0 and k slots more
pub drop-next : (k : ℕ) (t : List ℕ) → drop (16 * suc k) t ≡ drop (16 * k) (drop 16 t)
drop-next k t = rw (drop-drop, ← step)

-- bytes are their slots and what follows them
pub slots_ext : (n : ℕ) (t w : List ℕ) → ((k : ℕ) → k < n → slot_at t k ≡ slot_at w k) → drop (16 * n) t ≡ drop (16 * n) w → t ≡ w
unfolding slot_at
slots_ext zero t w f e = e
slots_ext (suc n) t w f e =
    let next : (k : ℕ) → k < n → slot_at (drop 16 t) k ≡ slot_at (drop 16 w) k =
    λ k l. ap (take 16) (sym (drop-next k t)) ∙ f (suc k) (omega arith) ∙ ap (take 16) (drop-next k w) in
    let rest : drop 16 t ≡ drop 16 w = slots_ext n (drop 16 t) (drop 16 w) next (sym (drop-next n t) ∙ e ∙ drop-next n w) in
    let here : take 16 t ≡ take 16 w = f 0 (omega arith) in
    sym (take-append-drop 16 t) ∙ rw (here, rest) (take-append-drop 16 w)

pub length-slots_of : (n : ℕ) (t : List ℕ) → length (slots_of n t) ≡ n
length-slots_of zero t = refl
length-slots_of (suc n) t = ap suc (length-slots_of n (drop 16 t))

-- slot k of the list is slot k of the bytes
pub get_or-slots_of : (n : ℕ) (t : List ℕ) (k : ℕ) → k < n → get_or (slots_of n t) k [] ≡ slot_at t k
unfolding slot_at
get_or-slots_of zero t k h = absurd (omega arith)
get_or-slots_of (suc n) t zero h = refl
get_or-slots_of (suc n) t (suc k) h = get_or-slots_of n (drop 16 t) k (omega arith) ∙ rw (drop-next k t)

-- a slot written is an element set
pub slots_of-with_slot : (n : ℕ) (t : List ℕ) (k : ℕ) (v : List ℕ) → k < n → 16 * n ≤ length t → length v ≡ 16
    → slots_of n (with_slot t k v) ≡ set (slots_of n t) k v
unfolding with_slot
slots_of-with_slot zero t k v h l e = absurd (omega arith)
slots_of-with_slot (suc n) t zero v h l e = rw (take_at v (drop (length v) t) 16 e, drop_at v (drop (length v) t) 16 e, e)
slots_of-with_slot (suc n) t (suc k) v h l e =
    let w : with_slot t (suc k) v ≡ put t (16 + 16 * k) v = ap (λ (a : ℕ). put t a v) (step k) in
    let a : take 16 (put t (16 + 16 * k) v) ≡ take 16 t = take_put t (16 + 16 * k) v 16 (omega arith) (omega arith) in
    let d : 16 * n ≤ length (drop 16 t) = rw length-drop (omega arith) in
    let b : slots_of n (drop 16 (put t (16 + 16 * k) v)) ≡ set (slots_of n (drop 16 t)) k v =
    ap (slots_of n) (drop-put_inside t 16 (16 * k) v (omega arith)) ∙ slots_of-with_slot n (drop 16 t) k v (omega arith) d e in
    rw (w, a, b)

-- what follows the slots is not touched
pub drop-with_slot : (n : ℕ) (t : List ℕ) (k : ℕ) (v : List ℕ) → k < n → 16 * n ≤ length t → length v ≡ 16
    → drop (16 * n) (with_slot t k v) ≡ drop (16 * n) t
unfolding with_slot
drop-with_slot n t k v h l e = drop-put t (16 * k) v (16 * n) (omega arith) (omega arith)

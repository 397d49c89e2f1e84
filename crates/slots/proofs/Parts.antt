-- Laws of `part` and `put`; a part that is lent, and the part when it is back; and a loop that copies one list over another.
-- Assumes nothing.
use Prim.Native.Nat.{ℕ, zero, suc, ◌+◌, ◌-◌, ◌≤◌, ◌<◌}
use mathlib.Core.Path.{◌≡◌, refl, sym, ap, ◌∙◌}
use mathlib.Core.List.{List, [], ◌∷◌, ◌++◌, append_assoc, append-nil}
use native.Mathlib.Omega.{arith}
use native.Mathlib.Nat.{zero-add, suc-add}
use native.Mathlib.Numerals.{add-one}
use lib.ListN.{length, get_or, take, drop, set, length-append, length-take, length-drop, length-set, take-append-drop}
use lib.Seq.{append_snoc, drop-append-add, drop_at, drop-cons, drop-drop, drop-length, length-take-le, set-append_left, set_at, take_all, take-append-add, take-append-le, take_at, take-length, take-nil, take-suc, take-take}
use borrow.Rule.Slice.PartMut.{put_mid}
use Rattle.slots.specs.Bytes.{part, put}

pub length_part : (s : List ℕ) (at n : ℕ) → at + n ≤ length s → length (part s at n) ≡ n
length_part s at n h = simp (length-take, length-drop) (omega arith)

-- what is read of a list's first n is read of the list
part-take : (s : List ℕ) (n b m : ℕ) → b + m ≤ n → part (take n s) b m ≡ part s b m
part-take s n zero m h = let k : m ≤ n = omega arith in rw take-take
part-take [] n (suc b) m h = rw (take-nil n)
part-take (x ∷ s) zero (suc b) m h = absurd (omega arith)
part-take (x ∷ s) (suc n) (suc b) m h = part-take s n b m (omega arith)

pub part-part : (s : List ℕ) (a n b m : ℕ) → b + m ≤ n → part (part s a n) b m ≡ part s (a + b) m
part-part s a n b m h = part-take (drop a s) n b m h ∙ rw drop-drop

-- ---- a list with bytes put over its own

pub length-put : (s : List ℕ) (at : ℕ) (v : List ℕ) → at + length v ≤ length s → length (put s at v) ≡ length s
length-put s at v h = simp (length-append, length-take, length-drop) (omega arith)

pub put_whole : (s : List ℕ) (at : ℕ) (v : List ℕ) → at + length v ≡ length s → put s at v ≡ take at s ++ v
put_whole s at v h = rw (drop-drop, h, drop-length, append-nil)

pub take_put : (s : List ℕ) (at : ℕ) (v : List ℕ) (n : ℕ) → at ≤ length s → n ≤ at → take n (put s at v) ≡ take n s
take_put s at v n h k =
    let l : n ≤ length (take at s) = simp length-take (omega arith) in
    rw (take-append-le, take-take)

pub drop-put-at : (s : List ℕ) (at : ℕ) (v : List ℕ) → at ≤ length s → drop at (put s at v) ≡ v ++ drop (length v) (drop at s)
drop-put-at s at v h = drop_at (take at s) _ at (length-take-le at s h)

drop-put_add : (s : List ℕ) (at : ℕ) (v : List ℕ) (m : ℕ) → at ≤ length s
    → drop (at + (length v + m)) (put s at v) ≡ drop (at + (length v + m)) s
drop-put_add s at v m h =
    rw (
      ← drop-drop (length v + m) at (put s at v),
      ← drop-drop (length v + m) at s,
      drop-put-at s at v h,
      ← drop-drop m (length v) (v ++ drop (length v) (drop at s)),
      ← drop-drop m (length v) (drop at s),
      drop_at v _ (length v) refl,
    )

pub drop-put : (s : List ℕ) (at : ℕ) (v : List ℕ) (n : ℕ) → at ≤ length s → at + length v ≤ n → drop n (put s at v) ≡ drop n s
drop-put s at v n h k =
    let e : at + (length v + (n - (at + length v))) ≡ n = omega arith in
    rw e at (drop-put_add s at v (n - (at + length v)) h)

pub part-put_same : (s : List ℕ) (at : ℕ) (v : List ℕ) (n : ℕ) → at ≤ length s → length v ≡ n → part (put s at v) at n ≡ v
part-put_same s at v n h e = rw (drop-put-at s at v h, take_at v _ n e)

pub part-put-after : (s : List ℕ) (at : ℕ) (v : List ℕ) (b n : ℕ) → at ≤ length s → at + length v ≤ b
    → part (put s at v) b n ≡ part s b n
part-put-after s at v b n h k = ap (take n) (drop-put s at v b h k)

pub part-put_before : (s : List ℕ) (at : ℕ) (v : List ℕ) (b n : ℕ) → at ≤ length s → b + n ≤ at
    → part (put s at v) b n ≡ part s b n
part-put_before s at v b n h k =
    sym (part-take (put s at v) at b n k)
    ∙ ap (λ (l : List ℕ). part l b n) (take_put s at v at h (omega arith))
    ∙ part-take s at b n k

put-append : (p s : List ℕ) (b : ℕ) (w : List ℕ) → put (p ++ s) (length p + b) w ≡ p ++ put s b w
put-append p s b w = rw (take-append-add, drop-append-add, append_assoc)

-- a write in the tail from a is a write into the whole
pub put_inside : (s : List ℕ) (a b : ℕ) (w : List ℕ) → a ≤ length s → put s (a + b) w ≡ take a s ++ put (drop a s) b w
put_inside s a b w h =
    let e : length (take a s) ≡ a = length-take-le a s h in
    rw (take-append-drop a s, e) at (put-append (take a s) (drop a s) b w)

pub drop-put_inside : (s : List ℕ) (a b : ℕ) (w : List ℕ) → a ≤ length s → drop a (put s (a + b) w) ≡ put (drop a s) b w
drop-put_inside s a b w h = ap (drop a) (put_inside s a b w h) ∙ drop_at (take a s) _ a (length-take-le a s h)

-- ---- bytes put once more

-- what lies there already changes nothing
pub put_own : (s : List ℕ) (at n : ℕ) → at + n ≤ length s → put s at (part s at n) ≡ s
put_own s at n h = rw (length_part s at n h, take-append-drop n (drop at s), take-append-drop at s)

-- the bytes put last stand
pub put_twice : (s : List ℕ) (at : ℕ) (v w : List ℕ) → at ≤ length s → length v ≡ length w → put (put s at v) at w ≡ put s at w
put_twice s at v w h e = rw (take_put s at v at h (omega arith), drop-put-at s at v h, drop_at v (drop (length v) (drop at s)) (length w) e, e)

-- bytes put apart from each other are put in either order
pub put_apart : (s : List ℕ) (a : ℕ) (v : List ℕ) (b : ℕ) (w : List ℕ) → a + length v ≤ b → b ≤ length s
    → put (put s a v) b w ≡ put (put s b w) a v
put_apart s a v b w h k =
    let m : ℕ = b - (a + length v) in
    let e : a + (length v + m) ≡ b = omega arith in
    let both : List ℕ = take a s ++ (v ++ put (drop (length v) (drop a s)) m w) in
    let left : put (put s a v) (a + (length v + m)) w ≡ both =
    put_inside (put s a v) a (length v + m) w (rw (length-put s a v (omega arith)) (omega arith))
    ∙ rw (take_put s a v a (omega arith) (omega arith), drop-put-at s a v (omega arith), put-append) in
    let right : put (put s (a + (length v + m)) w) a v ≡ both =
    rw (
      take_put s (a + (length v + m)) w a (omega arith) (omega arith),
      drop-put_inside s a (length v + m) w (omega arith),
      drop-put_inside (drop a s) (length v) m w (rw length-drop (omega arith)),
    ) in
    rw (← e) (left ∙ sym right)

-- a byte of what was put
pub set-put : (s : List ℕ) (at : ℕ) (v : List ℕ) (i x : ℕ) → at ≤ length s → i < length v → set (put s at v) (at + i) x ≡ put s at (set v i x)
set-put s zero v i x h k = rw (zero-add, set-append_left v (drop (length v) s) i x k, length-set)
set-put [] (suc at) v i x h k = absurd (omega arith)
set-put (y ∷ s) (suc at) v i x h k = rw suc-add (ap (λ (l : List ℕ). y ∷ l) (set-put s at v i x (omega arith) k))

-- ---- a loop that copies s over d from the front, one byte a turn

pub copied_more : (i : ℕ) (s d : List ℕ) → i < length s → i < length d
    → set (take i s ++ drop i d) i (get_or s i 0) ≡ take (i + 1) s ++ drop (i + 1) d
copied_more i s d h k =
    let l : length (take i s) ≡ i = length-take-le i s (omega arith) in
    rw (add-one, drop-cons d i 0, set_at (take i s) (get_or d i 0) (drop (suc i) d) (get_or s i 0) i, take-suc s i 0, append_snoc)

pub copied_all : (s d : List ℕ) → length s ≡ length d → take (length s) s ++ drop (length s) d ≡ s
copied_all s d e = rw (take-length, e, drop-length, append-nil)

-- ---- a part lent, as the borrow checker has it: `&s[a..a + n]`

pub lent_part : (s : List ℕ) (a n : ℕ) → take (a + n - a) (drop a s) ≡ part s a n
lent_part s a n = let e : a + n - a ≡ n = omega arith in rw e

-- the rest of a list lent, `&s[a..]`
pub lent_rest : (s : List ℕ) (a : ℕ) → take (length s - a) (drop a s) ≡ drop a s
lent_rest s a = take_all (length s - a) (drop a s) (rw length-drop (omega arith))

-- and `&mut s[a..]` back
pub rest_back : (s : List ℕ) (a : ℕ) (w v : List ℕ) → a ≤ length s → length w ≡ length (take (length s - a) (drop a s)) → w ≡ v
    → put_mid a (length s - a) s w ≡ take a s ++ v
rest_back s a w v h k q =
    let e : length s - a ≡ length v = sym (sym (ap length q) ∙ k ∙ ap length (lent_rest s a) ∙ length-drop a s) in
    rw (e, q) (put_whole s a v (omega arith))

-- ---- a part read byte by byte

abbrev pub one_by_one : List ℕ → ℕ → ℕ → List ℕ
one_by_one s at zero = []
one_by_one s at (suc n) = get_or s at 0 ∷ one_by_one s (suc at) n

pub one_by_one_lem : (s : List ℕ) (at n : ℕ) → at + n ≤ length s → one_by_one s at n ≡ part s at n
one_by_one_lem s at zero l = refl
one_by_one_lem s at (suc n) l =
    rw (drop-cons s at 0 (omega arith)) (ap (λ (w : List ℕ). get_or s at 0 ∷ w) (one_by_one_lem s (suc at) n (omega arith)))

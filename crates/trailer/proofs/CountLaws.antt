-- A count written into a trailer changes that count alone, and no slot.
-- Assumes nothing.
use Rattle.std.specs.Prelude.{Some}
use Prim.Native.Nat.{ℕ, ◌+◌, ◌-◌, ◌*◌, ◌^◌, ◌≤◌, ◌<◌}
use mathlib.Core.Path.{◌≡◌, sym, ap, ◌∙◌}
use mathlib.Core.List.{List}
use native.Mathlib.Omega.{arith}
use lib.ListN.{length, drop}
use Rattle.slots.specs.Bytes.{put, bytes32}
use Rattle.slots.specs.Slots.{slot_at}
use Rattle.slots.proofs.Parts.{drop-put_inside, length-put, part-put_before}
use Rattle.slots.proofs.Numbers.{get_or-put_before, length-bytes32, le32-put, le32-put-after, le32-put_before}
use Rattle.board.specs.declared.Board.{Board}
use Rattle.board.specs.Layout.{layout_of, Sized}
use Rattle.trailer.specs.declared.Head.{Head}
use Rattle.trailer.specs.Trailer.{board_of, head_of, trailer_of, last16, with_taken, with_delivered}
use Rattle.trailer.proofs.TrailerLaws.{length-last16, trailer_good, good_trailer}

abbrev counting : Head → ℕ → ℕ → Head
counting h p d = record { board = h.board; taken = p; delivered = d; size = h.size }

abbrev pub taking : Head → ℕ → Head
taking h m = counting h m h.delivered

abbrev pub delivering : Head → ℕ → Head
delivering h m = counting h h.taken m

module _ (z : List ℕ) (l : length z ≡ 16) (m : ℕ) (k : m < 2 ^ 32) where
  -- past its first four bytes
  board_kept : (at : ℕ) → 4 ≤ at → at ≤ length z → board_of (put z at (bytes32 m)) ≡ board_of z
  board_kept at low h = λ i. record {
    width = get_or-put_before z at (bytes32 m) 0 h (omega arith) i;
    height = get_or-put_before z at (bytes32 m) 1 h (omega arith) i;
    depth = get_or-put_before z at (bytes32 m) 2 h (omega arith) i;
    profile = get_or-put_before z at (bytes32 m) 3 h (omega arith) i;
  }

  head-taking : head_of (put z 4 (bytes32 m)) ≡ taking (head_of z) m
  head-taking =
      let b = length-bytes32 m in
      let h : 4 ≤ length z = omega arith in
      rw (
        board_kept 4 (omega arith) h,
        le32-put z 4 m (omega arith) k,
        le32-put-after z 4 (bytes32 m) 8 h (omega arith),
        le32-put-after z 4 (bytes32 m) 12 h (omega arith),
      )

  head-delivering : head_of (put z 8 (bytes32 m)) ≡ delivering (head_of z) m
  head-delivering =
      let b = length-bytes32 m in
      let h : 8 ≤ length z = omega arith in
      rw (
        board_kept 8 (omega arith) h,
        le32-put_before z 8 (bytes32 m) 4 h (omega arith),
        le32-put z 8 m (omega arith) k,
        le32-put-after z 8 (bytes32 m) 12 h (omega arith),
      )

-- a number put at place i of the trailer
pub last_put : (t : List ℕ) (i m at : ℕ) → 16 ≤ length t → i ≤ 12 → at + 16 ≡ length t + i → last16 (put t at (bytes32 m)) ≡ put (last16 t) i (bytes32 m)
last_put t i m at long high place =
    let b = length-bytes32 m in
    let there : length t - 16 + i ≡ at = omega arith in
    ap (λ (n : ℕ). drop (n - 16) (put t at (bytes32 m))) (length-put t at (bytes32 m) (omega arith))
    ∙ rw there at (drop-put_inside t (length t - 16) i (bytes32 m) (omega arith))

-- a head with other counts is as good
recounted : (t : List ℕ) {h : Head} (i m at p d : ℕ) → trailer_of t ≡ Some h → i ≤ 12 → at + 16 ≡ length t + i → d ≤ p
    → head_of (put (last16 t) i (bytes32 m)) ≡ counting h p d
    → trailer_of (put t at (bytes32 m)) ≡ Some (counting h p d)
recounted t {h} i m at p d e high place c q =
    let g = trailer_good t e in
    let b = length-bytes32 m in
    let lu = length-put t at (bytes32 m) (omega arith) in
    let z = last_put t i m at g.long high place in
    good_trailer
    (record {
      long = omega arith;
      read = sym (ap head_of z ∙ q);
      ranges = g.ranges;
      counts = c;
      size_is = g.size_is;
      size_in = omega arith;
    })

pub trailer-with_taken : (t : List ℕ) {h : Head} (m : ℕ) → trailer_of t ≡ Some h → h.delivered ≤ m → m < 2 ^ 32
    → trailer_of (with_taken t m) ≡ Some (taking h m)
unfolding with_taken
trailer-with_taken t {h} m e c k =
    let g = trailer_good t e in
    let r : head_of (put (last16 t) 4 (bytes32 m)) ≡ taking h m =
    head-taking (last16 t) (length-last16 t g.long) m k ∙ ap (λ (x : Head). taking x m) (sym g.read) in
    recounted t 4 m (length t - 12) m h.delivered e (omega arith) (omega arith) c r

pub trailer-with_delivered : (t : List ℕ) {h : Head} (m : ℕ) → trailer_of t ≡ Some h → m ≤ h.taken → m < 2 ^ 32
    → trailer_of (with_delivered t m) ≡ Some (delivering h m)
unfolding with_delivered
trailer-with_delivered t {h} m e c k =
    let g = trailer_good t e in
    let r : head_of (put (last16 t) 8 (bytes32 m)) ≡ delivering h m =
    head-delivering (last16 t) (length-last16 t g.long) m k ∙ ap (λ (x : Head). delivering x m) (sym g.read) in
    recounted t 8 m (length t - 8) h.taken m e (omega arith) (omega arith) c r

module _ (t : List ℕ) (m : ℕ) (long : 16 ≤ length t) where
  pub length-with_taken : length (with_taken t m) ≡ length t
  unfolding with_taken
  length-with_taken = length-put t (length t - 12) (bytes32 m) (omega (arith, length-bytes32 m))

  pub length-with_delivered : length (with_delivered t m) ≡ length t
  unfolding with_delivered
  length-with_delivered = length-put t (length t - 8) (bytes32 m) (omega (arith, length-bytes32 m))

-- the slots are as they were
module _ {b : Board} {t : List ℕ} (z : Sized b t) (m k : ℕ) (l : k < (layout_of b).size) where
  pub slot_at-with_taken : slot_at (with_taken t m) k ≡ slot_at t k
  unfolding slot_at with_taken
  slot_at-with_taken = part-put_before t (length t - 12) (bytes32 m) (16 * k) 16 (omega arith) (omega arith)

  pub slot_at-with_delivered : slot_at (with_delivered t m) k ≡ slot_at t k
  unfolding slot_at with_delivered
  slot_at-with_delivered = part-put_before t (length t - 8) (bytes32 m) (16 * k) 16 (omega arith) (omega arith)

-- Laws of what is written: nothing, one byte, and two texts one after the other, which are one text.
-- Assumes nothing.
use Prim.Native.Nat.{ℕ, ◌+◌, ◌≤◌, ◌<◌}
use mathlib.Core.Path.{◌≡◌, refl, ap, ◌∙◌}
use mathlib.Core.List.{List, [], ◌∷◌, ◌++◌, append_assoc}
use native.Mathlib.Nat.{add_assoc, add-zero}
use native.Mathlib.Omega.{arith}
use native.Mathlib.Numerals.{add-one}
use lib.ListN.{length, take, drop, set, length-append, take-append-drop}
use lib.Seq.{drop_at, drop-drop, set_split, take_at}
use Rattle.slots.specs.Bytes.{put}
use Rattle.slots.proofs.Parts.{length-put, take_put, drop-put-at, put_inside}
use Rattle.text.specs.declared.Text.{Text}
use Rattle.text.specs.Put.{Fits, Wrote, added}

pub put_byte : (d : List ℕ) (at b : ℕ) → at < length d → set d at b ≡ put d at (b ∷ [])
put_byte d at b h = set_split d at b h ∙ rw (drop-drop, add-one)

put-put : (d : List ℕ) (at : ℕ) (s t : List ℕ) → at + length s ≤ length d → put (put d at s) (at + length s) t ≡ put d at (s ++ t)
put-put d at s t h =
    let a : at ≤ length d = omega arith in
    let b : at ≤ length (put d at s) = rw (length-put d at s h) a in
    let x : List ℕ = drop at d in
    rw (
      put_inside (put d at s) at (length s) t b,
      take_put d at s at a (omega arith),
      drop-put-at d at s a,
      take_at s (drop (length s) x) (length s) refl,
      drop_at s (drop (length s) x) (length s) refl,
      length-append s t,
      append_assoc s t (drop (length s + length t) x),
      ← drop-drop (length t) (length s) x,
    )

pub first_fits : {d : List ℕ} {at : ℕ} (s t : List ℕ) → Fits d at (s ++ t) → Fits d at s
first_fits s t f = record { room = omega (arith, f.room, length-append s t) }

module _ {d e : List ℕ} {at r : ℕ} {s : List ℕ} (w : Wrote d at s e r) where
  pub wrote_long : length e ≡ length d
  wrote_long = ap length w.bytes ∙ length-put d at s w.fits.room

  -- where both have room from the start, the second has it past the first
  pub next_fits : {t : List ℕ} → Fits d at (s ++ t) → Fits e r t
  next_fits {t} f = record { room = omega (arith, f.room, length-append s t, w.next, wrote_long) }

  pub then : {t f : List ℕ} {q : ℕ} → Wrote e r t f q → Wrote d at (s ++ t) f q
  then {t} v = record {
    fits = record { room = omega (arith, length-append s t, w.next, v.fits.room, wrote_long) };
    next = omega (arith, length-append s t, w.next, v.next);
    bytes = v.bytes ∙ rw (w.bytes, w.next) (put-put d at s t w.fits.room);
  }

-- what is added is written
pub added_wrote : (x : Text) (t : List ℕ) → Fits x.buf.now x.at t → Wrote x.buf.now x.at t (added x t).buf.now (added x t).at
unfolding added
added_wrote x t f = record { fits = f; next = refl; bytes = refl }

pub added_place : (x : Text) (t : List ℕ) → (added x t).at ≡ x.at + length t
unfolding added
added_place x t = refl

pub added_long : (x : Text) (t : List ℕ) → x.at + length t ≤ length x.buf.now → length (added x t).buf.now ≡ length x.buf.now
unfolding added
added_long x t h = length-put x.buf.now x.at t h

pub added_nothing : (x : Text) → x.at ≤ length x.buf.now → added x [] ≡ x
unfolding added
added_nothing x h = rw (take-append-drop x.at x.buf.now, add-zero x.at)

pub added_both : (x : Text) (s t : List ℕ) → x.at + length s ≤ length x.buf.now → added (added x s) t ≡ added x (s ++ t)
unfolding added
added_both x s t h = rw (put-put x.buf.now x.at s t h, length-append s t, add_assoc x.at (length s) (length t))

pub ruleset writing = (length-append, added_place, added_long, added_nothing, added_both)

-- What the flags tell of the serials below a slot: a turn of the loop that raises them.
-- Assumes nothing.
use Prim.Native.Nat.{ℕ, zero, suc, ◌+◌, ◌%◌, ◌<◌}
use mathlib.Core.Path.{◌≡◌, refl}
use mathlib.Core.List.{List}
use mathlib.Core.Bool.{true, false}
use native.Mathlib.Omega.{arith}
use native.Mathlib.Nat.{not-suc-le-zero}
use lib.ListN.{get_or, replicate}
use borrow.Author.Count.{below_more}
use Rattle.network.proofs.Tests.{clash}
use Rattle.table.specs.Held.{held_at}
use Rattle.filter.specs.Flags.{flag_at, raised}
use Rattle.filter.proofs.FlagLaws.{raised_full, raised-bytes, raised_up, raised_kept}
use Rattle.survey.specs.Check.{serial_at, has_serial}
use Rattle.survey.specs.Met.{Met}
use Rattle.survey.proofs.CheckLaws.{unused_serial}

module _ {t flags : List ℕ} {k : ℕ} (m : Met t flags k) where
  -- a flag that is down tells that no held slot below has the serial
  pub unmet : (s : ℕ) → flag_at flags (s % 4096) ≡ false → has_serial t s k ≡ false
  unmet s e = unused_serial t s k (λ j l p q. let f = m.up j l p in clash cc)

  met_more : (held_at t k ≡ true → flag_at flags (serial_at t k % 4096) ≡ true) → Met t flags (k + 1)
  met_more f = record { full = m.full; bytes = m.bytes; up = below_more _ k m.up f }

  -- a turn of the loop, where the flag of slot k's serial is up
  pub met_up : {s : ℕ} → s ≡ serial_at t k → flag_at flags (s % 4096) ≡ true → Met t flags (k + 1)
  met_up e f = met_more (λ p. rw (← e) f)

  met_raised : (b : ℕ) → b < 4096 → flag_at flags b ≡ false → Met t (raised flags b) k
  met_raised b l e = record {
    full = raised_full flags m.full m.bytes b l e;
    bytes = raised-bytes flags m.full m.bytes b l e;
    up = λ j h p. raised_kept flags m.full m.bytes b l e _ (m.up j h p);
  }

-- or it is raised
pub met_raise : {t flags : List ℕ} {k s : ℕ} → Met t flags k → s ≡ serial_at t k → flag_at flags (s % 4096) ≡ false → Met t (raised flags (s % 4096)) (k + 1)
met_raise {flags = flags} {s = s} m e f =
    let l : s % 4096 < 4096 = omega arith in
    met_up (met_raised m (s % 4096) l f) e (raised_up flags m.full m.bytes (s % 4096) l f)

pub met_start : (t : List ℕ) → Met t (replicate 512 0) 0
met_start t = record { full = refl; bytes = λ i. rw (no-flags 512 i) (omega arith); up = λ j l. absurd (not-suc-le-zero l) }
  where
    no-flags : (n i : ℕ) → ◌≡◌ {A = ℕ} (get_or (replicate n 0) i 0) 0
    no-flags zero i = refl
    no-flags (suc n) zero = refl
    no-flags (suc n) (suc i) = no-flags n i

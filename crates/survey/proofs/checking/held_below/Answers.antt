use Prim.Native.Nat.{ℕ, ◌+◌, ◌≤◌}
use mathlib.Core.Path.{◌≡◌, sym}
use mathlib.Core.Bool.{Bool, true, false}
use mathlib.Core.List.{List}
use native.Mathlib.Omega.{arith}
use mir.Val.{bool_byte}
use Rattle.table.specs.Held.{held_at, held_below}
use Rattle.survey.proofs.CheckLaws.{held_more, held_same}
use Rattle.survey.proofs.checking.held_below.Goals as goal

-- one slot more, counted as its byte
more : (t : List ℕ) (k count byte : ℕ) (held : Bool) → held ≡ held_at t k → byte ≡ bool_byte held → (count ≤ k) × (count ≡ held_below t k)
    → (count + byte ≤ k + 1) × (count + byte ≡ held_below t (k + 1))
more t k count byte true e b is = let m = held_more t k (sym e) in (omega arith, omega arith)
more t k count byte false e b is = let m = held_same t k (sym e) in (omega arith, omega arith)

pub loop-k-preserved : goal.loop-k-preserved
loop-k-preserved c =
    let at = c.loop-k in
    more c.args.t.now at.k at.count c.from-count.result c.held.result c.held.ensures c.from-count.ensures at.invariant

use Prim.Native.Nat.{ℕ, ◌<◌, ◌+◌, ◌-◌}
use mathlib.Core.Path.{◌≡◌, sym, ap, subst, ◌∙◌}
use mathlib.Core.Bool.{Bool, true, false}
use mathlib.Core.List.{List}
use native.Mathlib.Omega.{arith}
use native.Mathlib.Numerals.{add-one}
use Rattle.std.specs.Prelude.{Some, None}
use Rattle.network.specs.Search.{lowest_with, count_with}
use Rattle.network.proofs.SearchLaws.{lowest_step}
use Rattle.network.proofs.CountingLaws.{count_step, count_most}
use Rattle.table.specs.Queues.{empty_at}
use Rattle.table.specs.declared.queues.QueueRoom.{QueueRoom}
use Rattle.table.proofs.Searched.{Found}
use Rattle.table.proofs.queues.search.Goals as goal

-- one slot more, below: an empty one, or one that is not
module _ (t : List ℕ) (k end : ℕ) (found : QueueRoom) (l : k < end) (f : Found t (k + 1) end found) where
  empty_one : empty_at t k ≡ true → Found t k end (record { lowest = Some k; empty = found.empty + 1 })
  empty_one e = record {
    lowest = sym (lowest_step (empty_at t) k end l ∙ rw e);
    empty = rw (add-one, f.empty) (sym (count_step (empty_at t) k end l ∙ rw e));
  }

  passed : empty_at t k ≡ false → Found t k end found
  passed e = record {
    lowest = f.lowest ∙ sym (lowest_step (empty_at t) k end l ∙ rw e);
    empty = f.empty ∙ sym (count_step (empty_at t) k end l ∙ rw e);
  }

below : (t : List ℕ) (k end : ℕ) (found : QueueRoom) → 0 < k → Found t k end found → Found t (k - 1 + 1) end found
below t k end found l f = let next : k ≡ k - 1 + 1 = omega arith in subst (λ (k : ℕ). Found t k end found) next f

pub overflow_add-found : goal.overflow_add-found
overflow_add-found c =
    let at = c.loop-k in
    let a = c.args in
    omega (arith, at.invariant.1.empty, count_most (empty_at a.t.now) at.k (a.from + a.count - at.k))

pub loop-k-init : goal.loop-k-init
loop-k-init c =
    let t = c.args.t.now in
    let end = c.args.from + c.args.count in
    let none : end - end ≡ 0 = omega arith in
    (omega arith, record { lowest = ap (lowest_with (empty_at t) end) (sym none); empty = ap (count_with (empty_at t) end) (sym none) })

pub loop-k-preserved-then-slot_empty : goal.loop-k-preserved-then-slot_empty
loop-k-preserved-then-slot_empty c =
    let at = c.loop-k in
    let a = c.args in
    let f = below a.t.now at.k (a.from + a.count) at.found (omega arith) at.invariant.1 in
    (omega arith, empty_one a.t.now (at.k - 1) (a.from + a.count) at.found (omega arith) f (sym c.slot_empty.ensures ∙ c.if-slot_empty.true))

pub loop-k-preserved : goal.loop-k-preserved
loop-k-preserved c =
    let at = c.loop-k in
    let a = c.args in
    let f = below a.t.now at.k (a.from + a.count) at.found (omega arith) at.invariant.1 in
    (omega arith, passed a.t.now (at.k - 1) (a.from + a.count) at.found (omega arith) f (sym c.slot_empty.ensures ∙ c.if-slot_empty.false))

pub returns : goal.returns
returns c =
    let at = c.loop-k in
    let a = c.args in
    let first : at.k ≡ a.from = omega arith in
    let all : a.from + a.count - at.k ≡ a.count = omega arith in
    let found = at.invariant.1 in
    record { lowest_value = found.lowest ∙ rw (all, first); empty_value = found.empty ∙ rw (all, first) }

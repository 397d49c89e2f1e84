-- The queue of a node lies in the table; the search through it is `any`'s.
use Rattle.std.proofs.Common.{rules, tests}
use Rattle.std.proofs.lemmas.Iterator.{serves_from_Range}
use Prim.Native.Nat.{◌+◌, ◌-◌, ◌<◌}
use mathlib.Core.Path.{◌≡◌, ap, ◌∙◌}
use native.Mathlib.Omega.{arith}
use Rattle.network.specs.declared.Kind.TheVariants.{B}
use Rattle.network.specs.Net.{at}
use Rattle.network.specs.Search.{is_at}
use Rattle.network.proofs.RangeLaws.{any_lowest}
use Rattle.board.specs.Layout.{layout_of}
use Rattle.board.proofs.BoardLaws.{queue_within, slots_most}
use Rattle.way.specs.Way.{hops_at, first_hop_in_b}
use Rattle.way.proofs.hop_in_b.Goals as goal

pub overflow_add-end : goal.overflow_add-end
overflow_add-end c =
    let t = c.args.t.now in
    let q = queue_within t.head.board t.sized.board (at c.args.node B) c.requires in
    omega (arith, q, slots_most t.head.board t.sized.board, c.first_slot-first.ensures, c.room_of.ensures)

pub any-requires-clause-callable : goal.any-requires-clause-callable
any-requires-clause-callable c =
    let t = c.args.t.now in
    let q = queue_within t.head.board t.sized.board (at c.args.node B) c.requires in
    serves_from_Range (λ x f k. search (rules, tests))
    (λ x low high. let inside : x < (layout_of t.head.board).size = omega (arith, q, high, c.first_slot-first.ensures, c.room_of.ensures) in search rules)

pub returns : goal.returns
unfolding first_hop_in_b
returns c =
    let t = c.args.t.now in
    let room : c.first_slot-first.result + c.room_of.result - c.first_slot-first.result ≡ c.room_of.result = omega arith in
    any_lowest (hops_at t.head t.bytes.now c.args.code) _ _ _ _ _ c.any.ensures.ran (λ x f k. search (rules, tests)) (λ x f k. search (rules, tests))
    ∙ ap is_at (cc (room, c.first_slot-first.ensures, c.room_of.ensures))

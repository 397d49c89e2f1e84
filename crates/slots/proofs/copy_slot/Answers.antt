use Rattle.std.proofs.Common.{ℕ, ◌≡◌, ◌+◌, ◌*◌, List, get_or, ap, ◌∙◌, arith}
use lib.ListN.{set}
use Rattle.slots.proofs.CopyLaws.{none_copied, one_copied, all_copied}
use Rattle.slots.proofs.copy_slot.Goals as goal

pub loop-i-init : goal.loop-i-init
loop-i-init c = (omega arith, none_copied c.args.t.now c.args.from c.args.to c.requires.to_in_bounds)

pub loop-i-preserved : goal.loop-i-preserved
loop-i-preserved c =
    let at = c.loop-i in
    let a = c.args in
    let r = c.requires in (
      omega arith,
      ap (λ (l : List ℕ). set l (16 * a.to + at.i) (get_or l (16 * a.from + at.i) 0)) at.invariant.1
          ∙ one_copied a.t.now a.from a.to r.from_in_bounds r.to_in_bounds r.apart at.i (omega arith),
    )

pub returns : goal.returns
returns c =
    let a = c.args in
    let e : c.loop-i.i ≡ 16 = omega arith in
    c.loop-i.invariant.1 ∙ rw e (all_copied a.t.now a.from a.to c.requires.from_in_bounds c.requires.to_in_bounds)

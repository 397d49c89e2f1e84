use Rattle.std.proofs.Common.{ap, ◌∙◌, arith, get_or, []}
use Rattle.slots.proofs.SlotLaws.{get_or-slots_of}
use Rattle.slots.proofs.slot.Goals as goal

pub returns : goal.returns
returns c = let t = c.args.t.now in ap (λ l. get_or l c.args.k []) c.as_chunks.ensures.front ∙ get_or-slots_of _ t c.args.k (omega arith)

use mathlib.Core.Path.{◌∙◌}
use Rattle.survey.proofs.FindLaws.{accepts-judged}
use Rattle.survey.proofs.finding.accepts.Goals as goal

pub returns : goal.returns
returns c =
    let t = c.args.t.now in
    c.is_ok.ensures.value ∙ accepts-judged t.head t.bytes.now c.args.slot c.args.code _ c.judge_move.ensures

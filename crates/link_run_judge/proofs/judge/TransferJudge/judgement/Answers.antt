use Rattle.std.proofs.Common.{◌∙◌}
use Rattle.link_run_judge.proofs.Judging.{judgement_is}
use Rattle.link_run_judge.proofs.judge.TransferJudge.judgement.Goals as goal

pub returns-clause-judged : goal.returns-clause-judged
returns-clause-judged c = λ transfer judging over.
    c.judge_view.ensures.judged ∙ judgement_is c.args.self.now transfer judging c.args.abandoned over _ c.view.ensures.seen

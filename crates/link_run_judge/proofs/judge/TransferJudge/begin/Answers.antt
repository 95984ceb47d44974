use Rattle.std.proofs.Common.{[], refl, sym, ap, ◌∙◌}
use Rattle.arrayvec.specs.ArrayVec.{ArrayVec}
use Rattle.link_bundle.proofs.Pieces.{all_judged}
use Rattle.link_wire.specs.declared.message.Item.{Item}
use Rattle.link_transfer.specs.Announced.{announced_of}
use Rattle.link_run_judge.proofs.Judging.{first_head}
use Rattle.link_run_judge.proofs.judge.TransferJudge.begin.Goals as goal

pub returns-in-Segment-clause-follows : goal.returns-in-Segment-clause-follows
returns-in-Segment-clause-follows c = λ head closed is starts.
    let first = first_head c.args.message.now c.in-Segment.flags c.in-Segment.id c.in-Segment.length head c.in-Segment.is is starts in
    record {
      id = sym first.0;
      announced = sym (ap (λ (i : ArrayVec Item). announced_of i.items) first.1 ∙ sym c.announced-self.ensures);
      size = refl;
      judged = all_judged c.restart.new.self [] c.restart.ensures.seen;
    }

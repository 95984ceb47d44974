use Rattle.link_cbor.proofs.Stages.{outcome_front, step_at_front}
use Rattle.link_cbor.proofs.head_scan.HeadScan.outcome.Goals as goal

pub returns-clause-seen : goal.returns-clause-seen
returns-clause-seen c seen scanned =
    let scan = c.args.self.now in
    rw (outcome_front scan.count scan.stage seen scanned.count scanned.stands, step_at_front)
    c.outcome.ensures

pub returns-clause-front : goal.returns-clause-front
returns-clause-front c seen scanned =
    rw c.outcome.ensures
    (outcome_front c.args.self.now.count c.args.self.now.stage seen scanned.count scanned.stands)

use Rattle.link_bundle_data.proofs.Steps.{went_on, refused}
use Rattle.link_bundle_data.proofs.LongHeads.{stage_content, long_turned}
use Rattle.link_bundle_data.proofs.scan.DataScan.take_head.Goals as goal

pub returns-in-Ok-clause-seen : goal.returns-in-Ok-clause-seen
returns-in-Ok-clause-seen c = λ kind seen come long whole sized fresh. record {
  state = went_on come whole sized c.in-Ok.ensures.judged fresh;
  long = rw c.note.ensures.first
      (long_turned c.args.due c.args.self.now.long _ c.args.self.now.offset _ c.args.size seen
      c.args.head long come.in_bytes come.counted whole sized
      (stage_content c.args.due c.args.size c.args.head c.args.self.now.draft _ _
      c.in-Ok.ensures.judged));
}

pub returns-in-Err-clause-seen : goal.returns-in-Err-clause-seen
returns-in-Err-clause-seen c = λ kind seen come long whole sized fresh. record {
  state = refused come whole sized c.in-Err.ensures.judged c.exceeds_limit.ensures;
  long = tt;
}

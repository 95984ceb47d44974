use Rattle.std.proofs.{Common.{◌<◌, arith}, lemmas.List.length_push}
use Rattle.std.proofs.lemmas.List.Elements.{All-push}
use Rattle.link_cbor.proofs.Stages.{count_fits, scanned_more}
use Rattle.link_cbor.proofs.head_scan.HeadScanPiecewise.step.Goals as goal

pub overflow_add-self : goal.overflow_add-self
overflow_add-self c = omega (arith, count_fits)

pub returns-clause-seen : goal.returns-clause-seen
returns-clause-seen c seen scanned = record {
  bytes = All-push (λ byte. byte < 256) seen c.args.byte scanned.bytes (omega arith);
  count = rw (length_push seen c.args.byte, scanned.count);
  stands = scanned_more c.args.self.now.count c.args.self.now.stage c.next_stage-self.result seen
      c.args.byte scanned.stands c.next_stage-self.ensures;
}

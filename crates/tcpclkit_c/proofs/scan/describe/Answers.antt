use Rattle.link_bundle.proofs.Pieces.{all_judged}
use Rattle.tcpclkit_c.proofs.scan.describe.Goals as goal

pub returns : goal.returns
returns c = record {
  scan = λ seen has.
      rw (c.primary.ensures seen has.scanned)
      at (c.give_info.ensures seen (all_judged _ seen has.scanned));
  other = λ not. absurd (not c.if-scan.false);
}

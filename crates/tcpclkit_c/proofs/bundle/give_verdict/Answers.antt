use Rattle.link_bundle.proofs.Pieces.{verdict_judged}
use Rattle.tcpclkit_c.proofs.bundle.give_verdict.Goals as goal

pub returns : goal.returns
returns c = λ bytes judged. record {
  numbers = c.found.ensures bytes judged;
  answers = rw (
    c.state_status.ensures,
    c.state.ensures.seen judged.seen judged.scanned,
    verdict_judged _ _ judged,
  );
}

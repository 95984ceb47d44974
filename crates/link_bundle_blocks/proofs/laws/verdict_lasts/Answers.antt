use Rattle.link_bundle_blocks.proofs.Lengths.{FaultLasts-holds, ByteAfterBundleIsTrailing-holds}
use Rattle.link_bundle_blocks.proofs.Payloads.{PayloadLasts-holds, SpanDeterminesPayload-holds, PayloadStaysAfterBundleEnd-holds}
use Rattle.link_bundle_blocks.proofs.laws.verdict_lasts.Goals as goal

pub returns : goal.returns
returns c = record {
  fault = FaultLasts-holds;
  trailing = ByteAfterBundleIsTrailing-holds;
  payload = PayloadLasts-holds;
  placed = SpanDeterminesPayload-holds;
  ends = PayloadStaysAfterBundleEnd-holds;
}

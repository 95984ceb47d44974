use Rattle.std.proofs.Common.{sym, ◌∙◌}
use Rattle.link_cbor.proofs.HeadLaws.{head_alone}
use Rattle.link_bundle_data.proofs.scan.DataScan.advance_head.Goals as goal

pub head_run-requires-clause-whole : goal.head_run-requires-clause-whole
head_run-requires-clause-whole c =
    head_alone _ _ _ (sym c.front.ensures.front ∙ c.in-Some.is) c.in-Some.ensures.within

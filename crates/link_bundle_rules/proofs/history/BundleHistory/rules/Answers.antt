use Rattle.std.proofs.Common.{◌≡◌, Option, ap, sym, ◌∙◌}
use Rattle.link_bundle_rules.specs.BundleRules.{broken_bundle_rules}
use Rattle.link_bundle_rules.specs.Heads.{long_head}
use Rattle.link_bundle_rules.specs.History.{bundle_of}
use Rattle.link_bundle_rules.specs.Sources.{if_judged}
use Rattle.link_bundle_rules.specs.declared.source.KnownSource.{KnownSource}
use Rattle.link_bundle_rules.proofs.history.BundleHistory.rules.Goals as goal

-- what was judged of a rule that a call returned is what is judged of its definition
judged_is : {A : Type 0} {judged found rule : Option A} (source : KnownSource)
    → judged ≡ if_judged source found → found ≡ rule → if_judged source rule ≡ judged
judged_is source judges is = sym (judges ∙ ap (if_judged source) is)

pub returns : goal.returns
unfolding broken_bundle_rules
returns c =
    let source = c.args.source in
    let byte = c.args.first_long_head in
    let size = c.args.payload_length in
    let plain = c.has_plain_blocks-plain.ensures in
    let counts = rw c.as_slice.ensures.value at c.of-counts.ensures in
    let long_is : long_head (bundle_of c.args.self.now (if_judged source byte) size)
    ≡ c.long_head.result =
    sym (rw c.if_judged.ensures at (c.long_head.ensures size)) in
    rw (
      long_is,
      judged_is source c.if_judged-2.ensures (c.bundle_flags.ensures byte size),
      judged_is source c.if_judged-3.ensures (c.primary_check.ensures byte size),
      judged_is source c.if_judged-4.ensures (c.anonymous.ensures byte size),
      judged_is source c.if_judged-5.ensures (c.record_reports.ensures byte size),
      judged_is source c.if_judged-6.ensures (c.block_reports.ensures byte size plain),
      judged_is source c.if_judged-7.ensures (c.block_flags.ensures byte size plain),
      sym (c.dtn_name.ensures byte size),
      judged_is source c.if_judged-8.ensures (c.fragment.ensures byte),
      judged_is source c.if_judged-9.ensures (c.whole_fragment.ensures byte),
      judged_is source c.if_judged-10.ensures (c.age.ensures byte size counts),
      sym (c.previous_node.ensures byte size counts),
      judged_is source c.if_judged-11.ensures (c.hop_count.ensures byte size plain counts),
      sym (c.confidential_primary.ensures byte size),
      sym (c.hops.ensures byte size plain),
      sym (c.block_data.ensures byte size plain),
      sym (c.data_not_read.ensures byte size plain),
      judged_is source c.if_judged-12.ensures (c.administrative_record.ensures byte size),
      judged_is source c.if_judged-13.ensures (c.source_node.ensures byte size),
      sym (c.previous_node_id.ensures byte size),
      sym (c.expired.ensures byte size),
      judged_is source c.if_judged-14.ensures (c.block_type.ensures byte size),
      judged_is source c.if_judged-15.ensures (c.record_type.ensures byte size),
      judged_is source c.if_judged-16.ensures (c.report_times.ensures byte size),
      judged_is source c.if_judged-17.ensures (c.report_empty.ensures byte size),
      judged_is source c.if_judged-18.ensures (c.report_reason.ensures byte size),
      judged_is source c.if_judged-19.ensures (c.report_source.ensures byte size),
      sym (c.security_targets.ensures byte size),
      sym (c.security_twice.ensures byte size),
      sym (c.security_flags.ensures byte size),
      sym (c.security_context.ensures byte size),
      sym (c.integrity_target.ensures byte size),
      sym (c.confidential_target.ensures byte size),
      sym (c.confidential_flags.ensures byte size),
      sym (c.confidential_context.ensures byte size),
      sym (c.shared_target.ensures byte size),
    )
    c.broken_of.ensures

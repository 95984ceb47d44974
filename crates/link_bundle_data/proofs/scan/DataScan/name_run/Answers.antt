use Rattle.std.proofs.Common.{refl, ap, length-append, rules, arith}
use Rattle.link_bundle_blocks.proofs.Seen.{AreBytes-slice}
use Rattle.link_bundle_data.proofs.Steps.{at_stage, grown_name}
use Rattle.link_bundle_data.specs.declared.{due.DataStage.DataStage, draft.Draft.Draft}
use Rattle.link_bundle_data.proofs.LongHeads.{long_at, long_named}
use Rattle.link_bundle_data.proofs.scan.DataScan.name_run.Goals as goal

pub returns : goal.returns
returns c = record {
  size = search rules;
  seen = λ kind seen come.
      let now = c.args.self.now in
      let run = c.args.run.now in
      let at = at_stage now c.requires.stage come in
      record {
        state = grown_name run at (AreBytes-slice run (λ k. omega (arith, c.type_inv.run k)))
            c.requires.some c.requires.within c.name-self.ensures.took refl c.new-self.ensures.seen;
        long = long_named c.args.owner c.args.left now.long _ now.offset _ seen run
            (long_at now c.requires.stage come) c.requires.within
            (ap (λ (turn : DataStage × Draft). turn.0) c.name-self.ensures.took)
            (omega (arith, length-append seen run, at.counted));
      };
}

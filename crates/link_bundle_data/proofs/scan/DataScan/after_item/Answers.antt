use Rattle.std.proofs.Common.{refl, sym, ◌∙◌, rules, arith}
use Rattle.link_bundle_blocks.proofs.Seen.{AreBytes-slice}
use Rattle.link_bundle_data.proofs.Steps.{at_stage, grown_open, grown_closed}
use Rattle.link_bundle_data.proofs.LongHeads.{long_at, long_read}
use Rattle.link_bundle_data.proofs.scan.DataScan.after_item.Goals as goal

pub returns-then-may_follow : goal.returns-then-may_follow
returns-then-may_follow c = record {
  size = search rules;
  seen = λ kind seen come.
      let now = c.args.self.now in
      let run = c.args.run.now in
      let at = at_stage now c.requires.stage come in
      let are = AreBytes-slice run (λ k. omega (arith, c.type_inv.run k)) in
      record {
        state = rw c.requires.stage
            (grown_open run are refl at (sym c.may_follow.ensures ∙ c.if-may_follow.true));
        long = rw c.requires.stage
            (long_read c.args.found now.long now.offset seen run
            (omega (arith, at.counted, now.begun)) (long_at now c.requires.stage come));
      };
}

pub returns : goal.returns
returns c = record {
  size = search rules;
  seen = λ kind seen come.
      let run = c.args.run.now in
      let are = AreBytes-slice run (λ k. omega (arith, c.type_inv.run k)) in
      record {
        state = grown_closed run are refl (at_stage c.args.self.now c.requires.stage come)
            c.requires.some (sym c.may_follow.ensures ∙ c.if-may_follow.false) c.no_limit.ensures;
        long = tt;
      };
}

use Rattle.std.proofs.{Common.{refl, rules, arith}, Math.Seq.take-length}
use Rattle.link_bundle_blocks.proofs.Seen.{AreBytes-slice}
use Rattle.link_bundle_data.proofs.Steps.{at_stage, grown_failed}
use Rattle.link_bundle_data.proofs.scan.DataScan.advance.Goals as goal

pub returns-in-Failed-clause-taken : goal.returns-in-Failed-clause-taken
returns-in-Failed-clause-taken c = rw (take-length c.args.piece.now) (record {
  size = search rules;
  seen = λ kind seen come.
      let piece = c.args.piece.now in
      let are = AreBytes-slice piece (λ k. omega (arith, c.type_inv.piece k)) in
      record {
        state = rw c.in-Failed.is
            (grown_failed piece are refl (at_stage c.args.self.now c.in-Failed.is come));
        long = rw c.in-Failed.is tt;
      };
})

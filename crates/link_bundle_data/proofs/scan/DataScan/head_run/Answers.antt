use Rattle.std.proofs.Common.{refl, ap, sym, ◌∙◌, length, rules, arith}
use Rattle.link_bundle_blocks.proofs.Seen.{after_seen, AreBytes-slice}
use Rattle.link_bundle_data.proofs.Steps.{at_stage, grown_head, fresh_at}
use Rattle.link_bundle_data.proofs.LongHeads.{long_at, long_more}
use Rattle.link_bundle_data.proofs.scan.DataScan.head_run.Goals as goal

pub returns : goal.returns
returns c = record {
  size = search rules;
  seen = λ kind seen come.
      let now = c.args.self.now in
      let run = c.args.run.now in
      let at = at_stage now c.requires.stage come in
      let here = c.requires.begins ∙ at.counted in
      let rest = after_seen now.offset seen run here in
      let are = AreBytes-slice run (λ k. omega (arith, c.type_inv.run k)) in
      c.take_head.ensures.seen kind _ (grown_head at run are refl)
      (long_more c.args.due now.long now.offset seen run (long_at now c.requires.stage come))
      (rw rest c.requires.whole) (ap length (sym rest)) (fresh_at at here);
}

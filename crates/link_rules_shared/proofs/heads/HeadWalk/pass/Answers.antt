use Rattle.std.proofs.Common.{refl}
use Rattle.link_rules_shared.proofs.Walks.{at_stage, taken_inside}
use Rattle.link_rules_shared.proofs.heads.HeadWalk.pass.Goals as goal

pub returns : goal.returns
returns c = record {
  seen = λ seen small come.
      let now = c.args.self.now in
      let run = c.args.run.now in
      taken_inside c.args.left _ now.found now.head now.count seen run
      (at_stage now _ seen c.requires.stage come) refl c.requires.within small;
}

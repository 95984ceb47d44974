use Rattle.std.proofs.Common.{arith}
use Rattle.link_run.proofs.stages.Stages.stride.Goals as goal

-- a step is a stride
pub returns-clause-gives : goal.returns-clause-gives
returns-clause-gives g c = λ start history at knows. (
  g.Self.Stages.most c.args.self.now,
  omega arith,
  λ some. some,
  c.stage.ensures.gives start history at knows,
)

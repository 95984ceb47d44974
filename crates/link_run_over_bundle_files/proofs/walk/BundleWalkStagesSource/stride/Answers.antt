use Rattle.std.proofs.Common.{arith}
use Rattle.link_run.specs.{Made.tool_of, Reading.feed_of, Run.looks, Writers.place_of}
use Rattle.link_run.proofs.Strides.{bounded}
use Rattle.link_run_over_bundle_files.specs.{BundleRun.by_stage, Telling.told_of}
use Rattle.link_run_over_bundle_files.proofs.walk.BundleWalkStagesSource.stride.Goals as goal

pub returns-in-Bundles-clause-gives : goal.returns-in-Bundles-clause-gives
returns-in-Bundles-clause-gives g c = λ start history. rw c.in-Bundles.is (λ stood at.
    bounded (looks g.R.InDevice.state g.W.OutDevice.state g.E.OutDevice.state)
    (tool_of (told_of (g.C.BundleConsumer.telling c.args.self.now.options))) start
    (place_of (feed_of c.args.input.now) c.args.writers.now)
    (place_of (feed_of c.take_bytes.new.input) c.take_bytes.new.writers) _ 4096 history
    (λ some. omega arith) stood.written.count c.take_bytes.result
    (c.take_bytes.ensures.gives start history stood at))

pub returns-in-Begin-clause-gives : goal.returns-in-Begin-clause-gives
returns-in-Begin-clause-gives g c = λ start history stood at.
    bounded (looks g.R.InDevice.state g.W.OutDevice.state g.E.OutDevice.state)
    (tool_of (told_of (g.C.BundleConsumer.telling c.args.self.now.options))) start
    (place_of (feed_of c.args.input.now) c.args.writers.now)
    (place_of (feed_of c.stage.new.input) c.stage.new.writers) _
    (by_stage 0 4096 c.args.self.now.stage) history
    (λ some. some) stood.written.count c.stage.result
    (c.stage.ensures.gives start history stood at)

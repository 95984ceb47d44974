use Rattle.link_wire.specs.Session.{source_of}
use Rattle.link_run.specs.{Reading.feed_of, Run.looks, Writers.place_of}
use Rattle.link_run.proofs.Strides.{bounded}
use Rattle.link_tool_list.specs.{Listing.list_tool, ListRun.most_by}
use Rattle.link_tool_list.proofs.listing.ListingStagesSession.stride.Goals as goal

pub returns-clause-gives : goal.returns-clause-gives
returns-clause-gives g c = λ start history at lists.
    let gives = c.step.ensures.gives start history at lists in
    bounded (looks g.R.InDevice.state g.W.OutDevice.state g.E.OutDevice.state) list_tool start
    (place_of (source_of (feed_of c.args.input.now)) c.args.writers.now)
    (place_of (source_of (feed_of c.step.new.input)) c.step.new.writers) _
    (most_by 4096 c.args.self.now.stage) history (λ some. gives.2) at.written.count c.step.result
    gives.3

use Rattle.link_wire.specs.Source.{reader_of}
use Rattle.link_run.specs.Reading.{feed_of}
use Rattle.link_run.proofs.Waiting.{prompt_once}
use Rattle.link_run.proofs.stages.ToolRunRunReader.stride.Goals as goal

pub returns-clause-waits : goal.returns-clause-waits
returns-clause-waits g c = λ start history at.
    prompt_once (λ feed. reader_of (g.S.Feed.source feed)) _
    (g.S.Feed.source (feed_of c.stride-progress.new.input)) at.1.0 c.stride-progress.ensures.begins
    (c.stride-progress.ensures.waits history at.1.1)

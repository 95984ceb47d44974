use Rattle.link_wire.specs.Source.{reader_of}
use Rattle.link_run.proofs.stages.ToolRunRunReader.into_end.Given as goal

-- the source of a feed has its reader
abbrev pub ghost-new : goal.ghost-new
ghost-new g a = λ feed. reader_of (g.S.Feed.source feed)

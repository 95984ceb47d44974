use Rattle.std.proofs.Common.{ap, ◌∙◌}
use Rattle.tcpclkit.proofs.Buffered.{read_input}
use Rattle.tcpclkit.proofs.streams.buffered.Goals as goal

pub returns-clause-input : goal.returns-clause-input
returns-clause-input g c =
    let reader = c.in_ok-reader.ensures in
    c.new-5.ensures ∙ read_input _ _ _ _ reader.capacity reader.empty (ap g.R.Read.remaining reader.inner)

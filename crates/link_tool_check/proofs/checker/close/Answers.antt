use Rattle.link_tool_check.proofs.Writing.{none_written}
use Rattle.link_tool_check.proofs.checker.close.Goals as goal

pub returns-else-due : goal.returns-else-due
returns-else-due g c = λ begun at. rw c.if-due.false none_written

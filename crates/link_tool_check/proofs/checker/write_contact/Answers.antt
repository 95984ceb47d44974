use Rattle.link_tool_check.proofs.Writing.{none_written}
use Rattle.link_tool_check.proofs.checker.write_contact.Goals as goal

pub returns-in-None : goal.returns-in-None
returns-in-None g c = rw (← c.in-None.ensures) none_written

use Rattle.link_tool_list.proofs.Lists.{at_message}
use Rattle.link_tool_list.proofs.listing.advance.Goals as goal

pub returns-in-Data-clause-gives : goal.returns-in-Data-clause-gives
returns-in-Data-clause-gives g c = λ start history. rw c.in-Data.is (c.pass_data.ensures.gives start _ history)

pub returns-in-Data-clause-waits : goal.returns-in-Data-clause-waits
returns-in-Data-clause-waits g c = λ history. rw c.in-Data.is (c.pass_data.ensures.waits _ history)

pub returns-in_default-clause-gives : goal.returns-in_default-clause-gives
returns-in_default-clause-gives g c = λ start history.
    rw (at_message c.args.stage c.in_default.not-Data c.requires.going) (c.read_message.ensures.gives start c.args.piece history)

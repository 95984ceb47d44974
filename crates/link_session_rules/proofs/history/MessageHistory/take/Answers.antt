use Rattle.std.proofs.Common.{sym}
use Rattle.link_session_rules.specs.Heads.{viewed_head, messages_of, newest}
use Rattle.link_session_rules.proofs.Pushes.{messages_of-push, newest_then}
use Rattle.link_session_rules.proofs.Since.{session_then, keepalives_then}
use Rattle.link_session_rules.proofs.history.MessageHistory.take.Goals as goal

pub returns : goal.returns
returns c before at =
    let head = viewed_head c.args.head.now in
    let initiated = c.is_initiated-initiated.ensures before at in
    record {
      parameters = rw (messages_of-push before head)
          (c.keep_first.ensures.parameters (messages_of before) at.parameters);
      node = rw (messages_of-push before head)
          (c.keep_first.ensures.node (messages_of before) at.parameters at.node);
      session = rw c.session_after-self.ensures (session_then before head _ at.session);
      keepalives = rw c.keepalives_after-self.ensures (keepalives_then before head _ at.keepalives);
      ids = rw (newest_then before head) (c.take-2.ensures (newest before) initiated at.ids);
      answers = rw (newest_then before head) (c.take-3.ensures (newest before) at.answers);
      transfer = c.so_far_after-self.ensures before at.transfer;
      endings = rw (newest_then before head) (c.take.ensures (newest before) at.endings);
    }

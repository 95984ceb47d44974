-- Relations: the messages that a joiner has accepted.
use Rattle.std.specs.Prelude.{◌≡◌, true, List}
use Rattle.link_wire.specs.declared.message.Message.{Message}
use Rattle.link_transfer.specs.Order.{has_sess_init, has_sess_term, open_of, open_after}
use Rattle.link_transfer.specs.declared.event.Event.{Event}
use Rattle.link_transfer.specs.declared.event.Event.TheVariants.{SessInit, SessTerm, Segment, Other}
use Rattle.link_transfer.specs.declared.joiner.Joiner.{Joiner}

-- the joiner has accepted exactly these messages
pub record IsJoinerAt (joiner : Joiner) (messages : List Message) : Type 0 where
  pub initiated : joiner.initiated ≡ has_sess_init messages
  pub terminated : joiner.terminated ≡ has_sess_term messages
  pub transfer : joiner.transfer ≡ open_of messages

-- the joiner after it has accepted an event
abbrev pub joiner_after : Joiner → Event → Joiner
joiner_after joiner SessInit = record joiner { initiated = true }
joiner_after joiner SessTerm = record joiner { terminated = true }
joiner_after joiner (Segment flags id) = record joiner { transfer = open_after (Segment flags id) }
joiner_after joiner Other = joiner

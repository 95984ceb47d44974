use Rattle.std.proofs.Common.{ap, sym, ◌∙◌}
use Rattle.link_wire.specs.MessageBuffer.{message_of}
use Rattle.link_transfer.specs.Order.{effect_of}
use Rattle.link_run_over_transfers.proofs.walk.Walker.take_refused.Goals as goal

pub returns-clause-goes_on : goal.returns-clause-goes_on
returns-clause-goes_on g c = λ taken events goes at why known opened.
    let message = c.args.self.now.message in
    let event = c.of_fields.ensures message.node message.items in (
      rw c.tell_head.ensures.joiner
          (c.take-taken.ensures.taken taken (message_of message) (sym event) at),
      c.tell_head.ensures.gives taken events (sym why)
          (c.take-taken.ensures.turn taken at ∙ ap (effect_of taken) event) known opened,
    )

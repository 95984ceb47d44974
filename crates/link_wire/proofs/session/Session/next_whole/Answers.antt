use Rattle.std.proofs.Common.{◌≡◌, ◌+◌, ◌-◌, ◌≤◌, length, take, drop, sym, ap, ◌∙◌, length-take, length-drop, arith}
use Rattle.std.proofs.Math.Seq.{take-add}
use Rattle.link_io.specs.Source.{window_of}
use Rattle.link_wire.specs.{Getting.IsPart, Message.{message_at, data_length}}
use Rattle.link_wire.specs.MessageBuffer.{message_of}
use Rattle.link_wire.proofs.Sessions.{none_left, came_whole}
use Rattle.link_wire.proofs.session.Session.next_whole.Goals as goal

pub returns-clause-gives : goal.returns-clause-gives
returns-clause-gives g c = λ history at.
    let old = c.args.self.now in
    let window = window_of old.source in
    let found = c.in-Some.ensures.head in
    let size = c.in-Some.size in
    let count = c.data_length-content.result in
    let here : c.given-offset.result ≡ length history = c.given-offset.ensures ∙ at.at.given in
    let head : IsPart message_at (take size window) (message_of c.set.new.self) =
    rw c.set.ensures.message (found.is c.args.message.now.node) in
    let content = take count (drop size window) in
    let owner : data_length (message_of c.set.new.self) ≡ count = ap data_length c.set.ensures.message ∙ sym (c.data_length-content.ensures _ _) in
    let fits : size + count ≤ length window = omega (arith, c.if-content-window.false, found.within, ap length c.window-window.ensures.window) in
    let is : count ≡ length content = omega (arith, fits, length-take count (drop size window), length-drop size window) in
    let between = none_left old at.going c.requires in
    rw here (came_whole old history at between _ _ c.give.ensures.takes (c.give.ensures.live at.live) between at.going (take size window) content (message_of c.set.new.self) (take-add size count window) (omega (arith, old.source.room, length-take (size + count) window, fits, length-take (old.source.end - old.source.start) (drop old.source.start old.source.window))) head (owner ∙ is))

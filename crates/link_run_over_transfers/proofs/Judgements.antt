-- How a message is judged, by the judgement of its event.
use Rattle.std.proofs.Common.{arith, ◌≡◌, List, [], ◌∷◌, ◌++◌, Option, Some, None, Ok, Err, refl}
use Rattle.link_wire.specs.declared.message.Message.{Message}
use Rattle.link_transfer.specs.Event.{event_of}
use Rattle.link_transfer.specs.Order.{has_sess_init, has_sess_term, is_stray, effect_of, open_of, refusal, turn_of, with_taken, judged_message, judged_message_by}
use Rattle.link_transfer.specs.declared.{event.Event.Event, fault.OrderFault.OrderFault}
use Rattle.link_transfer.specs.declared.joiner.Turn.{Turn}
use Rattle.link_transfer.proofs.Joining.{not_stray}

accepted_by : (refused : Option OrderFault) (done turn : Turn)
    → judged_message_by refused done ≡ Ok turn → (refused ≡ None) × (done ≡ turn)
accepted_by refused done turn is = grind arith

-- an accepted message is not stray, so it has its effect
pub accepted : (before : List Message) (sent : Message) (turn : Turn)
    → judged_message before (event_of sent) ≡ Ok turn
    → (refusal before (event_of sent) ≡ None)
    × (effect_of before (event_of sent) ≡ Some turn)
    × (with_taken before sent ≡ before ++ sent ∷ [])
unfolding judged_message refusal is_stray effect_of with_taken
accepted before sent turn is =
    let happened = event_of sent in
    let parts = accepted_by (refusal before happened) (turn_of before happened) turn is in
    let own =
    not_stray (has_sess_init before) (has_sess_term before) (open_of before) happened parts.0 in
    (parts.0, rw (own, parts.1) refl, rw own refl)

pub refused_for : (before : List Message) (happened : Event) (fault : OrderFault)
    → judged_message before happened ≡ Err fault → refusal before happened ≡ Some fault
unfolding judged_message
refused_for before happened fault is = grind arith

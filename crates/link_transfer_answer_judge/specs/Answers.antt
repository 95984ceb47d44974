-- The answers of a peer to one transfer that is sent (RFC 9174 sections 5.2.3 and 5.2.4).
use Rattle.std.specs.Prelude.{◌≡◌, ℕ, not, ◌&&◌, ◌==◌, nat_lt, List, [], ◌∷◌, Option, Some, None, is_none, Result, Ok, Err, false, if◌then◌else◌}
use Rattle.link_wire.specs.Codes.{is_end}
use Rattle.link_wire.specs.declared.message.Fields.{Fields}
use Rattle.link_wire.specs.declared.message.Fields.TheVariants as fields
use Rattle.link_transfer_answer_judge.specs.declared.answers.{Answer.Answer, AnswerFault.AnswerFault, Sent.Sent}
use Rattle.link_transfer_answer_judge.specs.declared.answers.Answer.TheVariants.{Ack, Refuse}
use Rattle.link_transfer_answer_judge.specs.declared.answers.AnswerFault.TheVariants.{OtherTransfer, LengthFalls, LengthNotSent, EndTooEarly}

-- the answer with these fields, if they are those of an XFER_ACK or of an XFER_REFUSE
abbrev pub answer_of : Fields → Option Answer
answer_of (fields.Ack flags id size) = Some (Ack flags id size)
answer_of (fields.Refuse reason id) = Some (Refuse reason id)
answer_of _ = None

-- the transfer ID of an answer
abbrev pub id_of : Answer → ℕ
id_of (Ack flags id size) = id
id_of (Refuse reason id) = id

-- An acknowledged length is the sum of the data of the segments that the peer has received
-- (section 5.2.3). So it does not fall, and it is no more than was sent. END is the flag of the
-- last segment. So an XFER_ACK with END acknowledges the whole of a transfer whose last segment was
-- sent.
abbrev pub ack_fault : Sent → (flags size : ℕ) → Option AnswerFault
ack_fault sent flags size =
    if nat_lt size sent.acknowledged then Some LengthFalls
    else if nat_lt sent.length size then Some LengthNotSent
    else if is_end flags && not (sent.whole && (size == sent.length)) then Some EndTooEarly
    else None

-- What is wrong with an answer that has the ID of this transfer, or `None`. Nothing is wrong with
-- an XFER_REFUSE.
abbrev pub fault_by : Sent → Answer → Option AnswerFault
fault_by sent (Ack flags id size) = ack_fault sent flags size
fault_by sent (Refuse reason id) = None

-- what is wrong with an answer to what was sent of this transfer, or `None`
unfoldable pub answer_fault : Sent → Answer → Option AnswerFault
answer_fault sent answer =
    if id_of answer == sent.id then fault_by sent answer else Some OtherTransfer

-- the result of a judgement that found this fault, or none
abbrev pub judged_by : Option AnswerFault → Result (Unit {0}) AnswerFault
judged_by None = Ok tt
judged_by (Some fault) = Err fault

-- the result of judging an answer: `Ok` if it is accepted, and else its fault
abbrev pub judged_answer : Sent → Answer → Result (Unit {0}) AnswerFault
judged_answer sent answer = judged_by (answer_fault sent answer)

-- what was sent, after an answer that was accepted: an XFER_ACK sets the acknowledged length
abbrev pub with_answer : Sent → Answer → Sent
with_answer sent (Ack flags id size) = record sent { acknowledged = size }
with_answer sent (Refuse reason id) = sent

-- what was sent, after an answer was judged: an answer with a fault changes nothing
abbrev pub after_answer : Sent → Answer → Sent
after_answer sent answer =
    if is_none (answer_fault sent answer) then with_answer sent answer else sent

-- a transfer of which nothing was sent
abbrev pub nothing_sent : (id : ℕ) → Sent
nothing_sent id = record { id = id; length = 0; whole = false; acknowledged = 0 }

-- The length in the newest XFER_ACK of these answers, or 0 if there is none. The list begins with
-- the newest answer.
unfoldable pub acknowledged_by : List Answer → ℕ
acknowledged_by [] = 0
acknowledged_by (Ack flags id size ∷ older) = size
acknowledged_by (Refuse reason id ∷ older) = acknowledged_by older

-- The acknowledged length is the length in the newest XFER_ACK of these answers, or 0 if there is
-- none. The list begins with the newest answer. The other fields may be any.
pub record HasLengthOfLastAck (sent : Sent) (answers : List Answer) : Type 0 where
  pub acknowledged : sent.acknowledged ≡ acknowledged_by answers

-- What the export that judges answers to a transfer returns.
use Rattle.std.specs.Prelude.{◌≡◌, ℕ, ◌==◌, nat_lt, List, ◌∷◌, Option, Some, None, Result, Ok, Err, if◌then◌else◌}
use Rattle.link_wire.specs.declared.message.Fields.{Fields}
use Rattle.link_transfer_answer_judge.specs.Answers.{answer_of, judged_answer, after_answer, HasLengthOfLastAck}
use Rattle.link_transfer_answer_judge.specs.declared.answers.{Answer.Answer, AnswerFault.AnswerFault, Sent.Sent}
use Rattle.link_ffi_numbers.specs.Fault.{answer_code}
use Rattle.link_ffi_numbers.specs.Status.{status_ok, status_fault}
use Rattle.link_ffi_numbers.specs.declared.recording.Message.{Message}
use Rattle.link_ffi_writer.specs.Messages.{HasFields}
use Rattle.tcpclkit_c.specs.declared.answer.SentNumbers.{SentNumbers}

-- what was sent of a transfer, if `whole` is 0 or 1
abbrev pub sent_by : SentNumbers → Option Sent
sent_by sent =
    if nat_lt 1 sent.whole then None
    else Some (record {
      id = sent.id;
      length = sent.length;
      whole = sent.whole == 1;
      acknowledged = sent.acknowledged;
    })

-- the message is this answer
pub record IsMessageOfAnswer (it : Message) (answer : Answer) : Type 0 where
  pub fields : Fields
  pub has : HasFields it fields
  pub is : answer_of fields ≡ Some answer

-- the message is no answer
abbrev pub IsNotAnswerMessage : Message → Type 0
IsNotAnswerMessage it = (answer : Answer) → IsMessageOfAnswer it answer → ⊥

-- the message is this answer, or no answer if the `Option` is `None`
abbrev pub IsThisAnswerOrNoAnswer : Message → Option Answer → Type 0
IsThisAnswerOrNoAnswer it (Some answer) = IsMessageOfAnswer it answer
IsThisAnswerOrNoAnswer it None = IsNotAnswerMessage it

-- the code of what is wrong with an answer, and TCPCLKIT_OK or TCPCLKIT_FAULT
abbrev pub answer_numbers : Result (Unit {0}) AnswerFault → ℕ × ℕ
answer_numbers (Ok _) = (0, status_ok)
answer_numbers (Err fault) = (answer_code fault, status_fault)

-- An answer was judged by what was sent. If it was accepted, it was counted, and the status is
-- TCPCLKIT_OK. `older` are the answers that were accepted before, the newest first.
pub record ReturnsJudgedPeerAnswer (before : Sent) (answer : Answer) (old new : SentNumbers)
    (status : ℕ) : Type 0 where
  pub numbers : new ≡ record old {
    acknowledged = (after_answer before answer).acknowledged;
    fault = (answer_numbers (judged_answer before answer)).0;
  }
  pub returns : status ≡ (answer_numbers (judged_answer before answer)).1
  pub counts : (older : List Answer) → HasLengthOfLastAck before older → status ≡ status_ok
      → HasLengthOfLastAck (after_answer before answer) (answer ∷ older)

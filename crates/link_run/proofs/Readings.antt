-- What a run reads from a session.
use Rattle.std.proofs.Common.{◌≡◌, ℕ, inl, List, [], Option, Result, Ok, Err, ap₂}
use Rattle.std.specs.Prelude.{IfOk}
use Rattle.link_wire.specs.Session.{AfterOpen, AfterNext, AfterLoad}
use Rattle.link_wire.specs.declared.{fault.Stop.Stop, message.{Contact.Contact, Message.Message}}
use Rattle.link_wire.specs.{Source.AfterReadyFront, declared.{IoFault.IoFault, Source.Source}}
use Rattle.link_wire.specs.declared.session.Session.{Session}
use Rattle.link_run.specs.{Run.Looks, Reading.{AfterFetchBytes, AfterFetchContact, AfterFetchMessage, AfterFetchData}}
use Rattle.link_run.specs.{Writers.{on_output, Writes}, declared.input.Input.Input}
use Rattle.link_run.specs.declared.{log.Log.Log, writers.Writers.Writers}

pub on_ok : {A B P : Type 0} (result : Result A B) → P → IfOk result (λ _. P)
on_ok (Ok value) holds = holds
on_ok (Err why) holds = tt

-- the results of the session, once what was written was handed on
module _ {R W E : Type 0} (look : Looks R W E)
    (old new : Session R) (before after : Writers W E)
    (writes : Writes look.output look.report before after (on_output [])) where
  pub contact_given : (contact : Result Contact Stop) → AfterOpen look.input old new contact
      → AfterFetchContact look old new before after contact
  contact_given (Ok contact) gives = (writes, gives)
  contact_given (Err why) gives = inl (writes, gives)

module _ {R W E : Type 0} (look : Looks R W E)
    (old new : Session R) (before after : Writers W E) (history : List ℕ)
    (writes : Writes look.output look.report before after (on_output [])) where
  pub message_given : (next : Result (Option (ℕ × Message)) Stop)
      → AfterNext look.input old new history next
      → AfterFetchMessage look old new before after history next
  message_given (Ok next) gives = (writes, gives)
  message_given (Err why) gives = inl (writes, gives)

  pub data_given : (next : Result ℕ Stop) → AfterLoad look.input old new history next
      → AfterFetchData look old new before after history next
  data_given (Ok n) gives = (writes, gives)
  data_given (Err why) gives = inl (writes, gives)

module _ {R W E : Type 0} (look : Looks R W E) (old new : Source R) (before after : Writers W E)
    (writes : Writes look.output look.report before after (on_output [])) where
  pub bytes_given : (next : Result ℕ IoFault) → AfterReadyFront look.input old new next
      → AfterFetchBytes look old new before after next
  bytes_given (Ok n) gives = (writes, gives)
  bytes_given (Err fault) gives = inl (writes, gives)

-- inputs are equal if what they read and their logs are
pub input_as : {S W E : Type 0} {p q : Input S W E} → p.feed ≡ q.feed → p.log ≡ q.log → p ≡ q
input_as {S} {W} {E} feed log =
    let made : S → Log S W E → Input S W E = λ feed log. record { feed = feed; log = log } in
    ap₂ made feed log

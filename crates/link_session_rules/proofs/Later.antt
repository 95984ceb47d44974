-- Whether an XFER_ACK came since the last XFER_REFUSE matters only for the ID of the latter.
use Rattle.std.proofs.Common.{◌≡◌, ℕ, Bool, true, false, ◌==◌, List, Option, Some, None, refl}
use Rattle.std.proofs.lemmas.Bool.{eqb-true}
use Rattle.link_wire.specs.declared.message.Message.{Message}
use Rattle.link_session_rules.specs.Answers.{fault_of_later, is_acked_since}
use Rattle.link_session_rules.specs.declared.answers.Ack.{Ack}

pub same_fault : (ack : Option Ack) (refused : Option ℕ) (acked_since : Bool) (older : List Message)
    (id : ℕ)
    → ((other : ℕ) → refused ≡ Some other → acked_since ≡ is_acked_since other older)
    → fault_of_later ack refused acked_since id
    ≡ fault_of_later ack refused (is_acked_since id older) id
same_fault ack None acked_since older id same = refl
same_fault ack (Some refused) acked_since older id same = by_test (refused == id) refl
  where
    by_test : (test : Bool) → (refused == id) ≡ test
        → fault_of_later ack (Some refused) acked_since id
        ≡ fault_of_later ack (Some refused) (is_acked_since id older) id
    by_test true is = rw (same refused refl, eqb-true refused id is) refl
    by_test false is = rw is refl

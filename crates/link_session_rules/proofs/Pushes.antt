-- The heads so far, with one more.
use Rattle.std.proofs.Common.{◌≡◌, ℕ, List, [], ◌∷◌, ◌++◌, ◌||◌, reverse, is_some, Option, Bool, Some, None, refl, sym, ◌∙◌}
use Rattle.std.{specs.{Option.option_or, List.list_any}, proofs.Math.Bool.or_comm, proofs.lemmas.List.{map_push, reverse-append, Recursion.or_push}}
use Rattle.link_wire.specs.declared.message.{SegmentHead.SegmentHead, Message.Message}
use Rattle.link_wire.specs.declared.message.Message.TheVariants.{SessInit, Segment, Ack, Refuse, Keepalive, SessTerm, MsgReject}
use Rattle.link_session_rules.specs.{Heads.{HeadWithOrder, messages_of, newest, is_sess_init, parameters_of}, Session.{first_parameters, first_node}}
use Rattle.link_session_rules.specs.declared.session.Parameters.{Parameters}

pub messages_of-push : (before : List HeadWithOrder) (head : HeadWithOrder)
    → messages_of (before ++ head ∷ []) ≡ messages_of before ++ head.message ∷ []
messages_of-push before head = map_push (λ (head : HeadWithOrder). head.message) before head

-- their messages, the newest first
pub newest_then : (before : List HeadWithOrder) (head : HeadWithOrder)
    → newest (before ++ head ∷ []) ≡ head.message ∷ newest before
newest_then before head =
    rw (messages_of-push before head) (reverse-append (messages_of before) (head.message ∷ []))

-- a SESS_INIT came if there are first parameters
any_first : (messages : List Message)
    → is_some (first_parameters messages) ≡ list_any is_sess_init messages
any_first [] = refl
any_first (message ∷ more) =
    elim (parameters_of message) as (λ parameters.
    is_some (option_or parameters (first_parameters more))
    ≡ (is_some parameters || list_any is_sess_init more)) [
      | None ↦ any_first more
      | Some parameters ↦ refl
    ]

any_reverse : {A : Type 0} (test : A → Bool) (list : List A)
    → list_any test (reverse list) ≡ list_any test list
any_reverse test [] = refl
any_reverse test (first ∷ more) =
    rw (
      reverse-append (first ∷ []) more,
      or_push (list_any test) test refl (λ one rest. refl) (reverse more) first,
      any_reverse test more,
    )
    (or_comm (list_any test more) (test first))

pub initiated_by : (before : List HeadWithOrder)
    → is_some (first_parameters (messages_of before)) ≡ list_any is_sess_init (newest before)
initiated_by before =
    any_first (messages_of before) ∙ sym (any_reverse is_sess_init (messages_of before))

-- the newest first
pub newest-push : {A : Type 0} (before : List A) (last : A)
    → reverse (before ++ last ∷ []) ≡ last ∷ reverse before
newest-push before last = reverse-append before (last ∷ [])

pub or_none : {A : Type 0} (value : Option A) → option_or value None ≡ value
or_none None = refl
or_none (Some value) = refl

or_assoc : {A : Type 0} (first second third : Option A)
    → option_or first (option_or second third) ≡ option_or (option_or first second) third
or_assoc None second third = refl
or_assoc (Some value) second third = refl

pub first_parameters_push : (before : List Message) (message : Message)
    → first_parameters (before ++ message ∷ [])
    ≡ option_or (first_parameters before) (parameters_of message)
first_parameters_push [] message = or_none (parameters_of message)
first_parameters_push (oldest ∷ more) message =
    rw (first_parameters_push more message)
    (or_assoc (parameters_of oldest) (first_parameters more) (parameters_of message))

-- The node ID of the first SESS_INIT, after one more message. `first` are the parameters of the
-- first SESS_INIT before the message, and `node` is the node ID of this SESS_INIT.
abbrev pub node_with : (first : Option Parameters) → (node : List ℕ) → Message → List ℕ
node_with None node (SessInit interval segment_mru transfer_mru own items) = own.items
node_with first node message = node

pub first_node_push : (before : List Message) (message : Message)
    → first_node (before ++ message ∷ [])
    ≡ node_with (first_parameters before) (first_node before) message
first_node_push [] (SessInit interval segment_mru transfer_mru node items) = refl
first_node_push [] (Segment segment) = refl
first_node_push [] (Ack flags id size) = refl
first_node_push [] (Refuse reason id) = refl
first_node_push [] Keepalive = refl
first_node_push [] (SessTerm flags reason) = refl
first_node_push [] (MsgReject reason header) = refl
first_node_push (SessInit interval segment_mru transfer_mru node items ∷ more) message = refl
first_node_push (Segment segment ∷ more) message = first_node_push more message
first_node_push (Ack flags id size ∷ more) message = first_node_push more message
first_node_push (Refuse reason id ∷ more) message = first_node_push more message
first_node_push (Keepalive ∷ more) message = first_node_push more message
first_node_push (SessTerm flags reason ∷ more) message = first_node_push more message
first_node_push (MsgReject reason header ∷ more) message = first_node_push more message

-- a segment has no node ID
pub node_without : (first : Option Parameters) (node : List ℕ) (segment : SegmentHead)
    → node_with first node (Segment segment) ≡ node
node_without None node segment = refl
node_without (Some parameters) node segment = refl

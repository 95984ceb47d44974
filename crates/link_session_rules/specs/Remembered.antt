-- Relations: what a history keeps of the heads so far. This is as much as the rules for the next
-- one need, and the node ID of the first SESS_INIT.
use Rattle.std.specs.Prelude.{◌≡◌, ℕ, ◌+◌, ◌^◌, Bool, not, ◌&&◌, ◌==◌, nat_lt, nat_le, List, [], ◌∷◌, map, take, Option, Some, None, if◌then◌else◌}
use Rattle.std.specs.List.{list_any, after_first, cons_option}
use Rattle.link_wire.specs.declared.message.{SegmentHead.SegmentHead, Message.Message}
use Rattle.link_session_rules.specs.Answers.{last_ack, last_refused, is_acked_since}
use Rattle.link_session_rules.specs.Endings.{rejects_type, follows, begins_after}
use Rattle.link_session_rules.specs.Heads.{HeadWithOrder, messages_of, newest, held, is_sess_init, is_sess_term, is_keepalive, disables_keepalive, is_of_transfer}
use Rattle.link_session_rules.specs.Lengths.{segments_of, announced_first, size_of}
use Rattle.link_session_rules.specs.Session.{first_parameters, first_node}
use Rattle.link_session_rules.specs.TransferIds.{last_runs, jumps}
use Rattle.link_session_rules.specs.declared.{transfer_ids.IdRun.IdRun, transfer_ids.TransferIds.TransferIds, answers.Answers.Answers, endings.Endings.Endings}
use Rattle.link_session_rules.specs.declared.session.Since.{Since}
use Rattle.link_session_rules.specs.declared.session.Since.TheVariants.{Neither, First, Both}
use Rattle.link_session_rules.specs.declared.history.MessageHistory.{MessageHistory}
use Rattle.link_session_rules.specs.declared.lengths.TransferSoFar.{TransferSoFar}

-- the last ID of a list that begins with `id`
abbrev pub end_of : (id : ℕ) → List ℕ → ℕ
end_of id [] = id
end_of id (next ∷ more) = end_of next more

-- whether an ID is between two others, or is one of them
abbrev pub between : (first last id : ℕ) → Bool
between first last id = nat_le first id && nat_le id last

-- whether an ID is in this run of IDs
abbrev pub contains : (id : ℕ) → IdRun → Bool
contains id run = between run.first run.last id

-- the first and the last ID of a run of IDs, whose list has the newest first
abbrev pub ends_of : List ℕ → Option IdRun
ends_of [] = None
ends_of (last ∷ older) = Some (record { first = end_of last older; last = last })

-- the runs of IDs that are kept, the newest first
abbrev pub kept_runs : TransferIds → List IdRun
kept_runs ids = cons_option ids.last ids.earlier.items

-- The runs of IDs that are kept after one more ID, the newest first. The next ID extends the newest
-- run of IDs. Any other ID begins a run of IDs, and at most `count` runs of IDs before it stay.
abbrev pub kept_with : (id count : ℕ) → List IdRun → List IdRun
kept_with id count [] = record { first = id; last = id } ∷ []
kept_with id count (run ∷ kept) =
    if id == run.last + 1
    then record { first = run.first; last = id } ∷ kept
    else record { first = id; last = id } ∷ take count (run ∷ kept)

-- `ids` is what is kept after exactly these messages, the newest first. It is the ends of the
-- latest runs of IDs, and whether after a SESS_INIT an ID was new and not the next one. Without a
-- last run of IDs, there are no earlier ones.
pub record AreTransferIdsAt (ids : TransferIds) (older : List Message) : Type 0 where
  pub runs : map Some (kept_runs ids) ≡ map ends_of (last_runs older)
  pub none : ids.last ≡ None → ids.earlier.items ≡ []
  pub jumped : ids.jumped ≡ held jumps older

-- `answers` are the latest XFER_ACK and XFER_REFUSE of exactly these messages, which are in a list,
-- the newest first. If an XFER_REFUSE came, `acked_since` is whether an XFER_ACK with the ID of the
-- latest XFER_REFUSE came after it. Otherwise `acked_since` may be true or false.
pub record AreAnswersAt (answers : Answers) (older : List Message) : Type 0 where
  pub ack : answers.ack ≡ last_ack older
  pub refused : answers.refused ≡ last_refused older
  pub acked_since : (id : ℕ) → answers.refused ≡ Some id
      → answers.acked_since ≡ is_acked_since id older

-- `endings` is what is kept after exactly these messages, which are in a list, the newest first
pub record AreEndingsAt (endings : Endings) (older : List Message) : Type 0 where
  pub terminated : endings.terminated ≡ list_any is_sess_term older
  pub rejected : endings.rejected ≡ list_any rejects_type older
  pub followed : endings.followed ≡ held follows older
  pub begun : endings.begun ≡ held begins_after older

-- `First` if a message of the first kind came, `Both` if one of the second kind came after it, and
-- otherwise `Neither`
abbrev pub since_of : (first second : Message → Bool) → List Message → Since
since_of first second messages =
    if not (list_any first messages) then Neither
    else if list_any second (after_first first messages) then Both
    else First

-- `since_of` after one more message, from what it was before. `is_first` and `is_second` say
-- whether the message is of the first kind, and of the second kind.
abbrev pub next_since : Since → (is_first is_second : Bool) → Since
next_since Neither is_first is_second = if is_first then First else Neither
next_since First is_first is_second = if is_second then Both else First
next_since Both is_first is_second = Both

-- whether a SESS_INIT disabled KEEPALIVEs, and whether a KEEPALIVE was sent since
abbrev pub keepalives_of : List Message → Since
keepalives_of messages = since_of disables_keepalive is_keepalive messages

-- whether a SESS_INIT came, and whether a transfer or an answer came since
abbrev pub session_of : List Message → Since
session_of messages = since_of is_sess_init is_of_transfer messages

-- a sum, unless it has more than 64 bits: then it exceeds every limit
abbrev pub within_64_bits : ℕ → Option ℕ
within_64_bits sum = if nat_lt sum (2 ^ 64) then Some sum else None

-- what is kept of the transfer with these segments, which are in a list, the newest first
abbrev pub so_far_of : List SegmentHead → Option TransferSoFar
so_far_of [] = None
so_far_of (segment ∷ earlier) = Some (record {
  announced = announced_first segment earlier;
  sent = within_64_bits (size_of (segment ∷ earlier));
})

-- the history keeps of exactly these heads what the rules need, and the first node ID
pub record IsMessageHistoryAt (history : MessageHistory) (heads : List HeadWithOrder) : Type 0 where
  pub parameters : history.parameters ≡ first_parameters (messages_of heads)
  pub session : history.session ≡ session_of (messages_of heads)
  pub keepalives : history.keepalives ≡ keepalives_of (messages_of heads)
  pub ids : AreTransferIdsAt history.ids (newest heads)
  pub answers : AreAnswersAt history.answers (newest heads)
  pub transfer : history.transfer ≡ so_far_of (segments_of heads)
  pub endings : AreEndingsAt history.endings (newest heads)
  pub node : history.node.items ≡ first_node (messages_of heads)

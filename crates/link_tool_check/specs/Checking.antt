-- What `check` writes for a recorded stream: a line for each rule that its messages, its transfers
-- and their bundles break.
use Rattle.std.specs.Prelude.{ℕ, Bool, true, ◌&&◌, List, [], ◌∷◌, ◌++◌, map, length, Option, Some, None, option_map, Result, Ok, Err, if◌then◌else◌}
use Rattle.link_wire.specs.declared.message.SegmentHead.{SegmentHead}
use Rattle.link_bundle_types.specs.declared.fault.BundleFault.{BundleFault}
use Rattle.link_bundle_types.specs.declared.info.BundleInfo.{BundleInfo}
use Rattle.link_bundle_blocks.specs.Bundle.{verdict}
use Rattle.link_run.specs.Made.{Made, tool_of}
use Rattle.link_run.specs.Run.{Tool}
use Rattle.link_run.specs.Writers.{on_output}
use Rattle.link_run_over_transfers.specs.Saying.{StatefulTool, telling_of}
use Rattle.link_run_over_transfers.specs.Walk.{Head, WalkEvent, ContactHeader, MessageHead, Data, Whole, LeftOpen, closes, is_beginning, Telling, told_of}
use Rattle.link_session_rules.specs.Flags.{contact_flags}
use Rattle.link_session_rules.specs.Heads.{HeadWithOrder, messages_of, segment_of}
use Rattle.link_session_rules.specs.Session.{first_node}
use Rattle.link_session_rules.specs.MessageRules.{broken_rules}
use Rattle.link_session_rules.specs.TransferData.{data_rule}
use Rattle.link_session_rules.specs.TransferRules.{broken_transfer_rules, has_other_item}
use Rattle.link_session_rules.specs.declared.rule.TransferRule.{TransferRule}
use Rattle.link_session_rules.specs.declared.rule.TransferRule.TheVariants.{Unfinished}
use Rattle.link_rules_shared.specs.declared.doubt.{Doubt.Doubt, Doubt.TheVariants.{Nothing, WholeBundle}}
use Rattle.link_report_broken_rules.specs.declared.line.RuleText.{RuleText}
use Rattle.link_report_broken_rules.specs.declared.rule.BrokenRule.TheVariants.{Message, Transfer}
use Rattle.link_report_broken_rules.specs.declared.rule.BundlePlace.TheVariants as place
use Rattle.link_tool_check.specs.BundleRules.{BundleOrigin, bundle_texts}
use Rattle.link_tool_check.specs.Lines.{lines_of, none_counts, at_offset}
use Rattle.link_tool_option_types.specs.declared.check.CheckOptions.{CheckOptions}

-- ---- a transfer

-- A transfer that has begun: the offset and the head of its first segment, and its data so far.
pub record BegunTransfer : Type 0 where
  pub offset : ℕ
  pub first : SegmentHead
  pub content : List ℕ

-- a list with the value, or the empty list for `None`
abbrev pub optional : {A : Type 0} → Option A → List A
optional None = []
optional (Some value) = value ∷ []

-- how the bundle of a transfer came from a sender with this node ID
abbrev pub origin_of : (sender : List ℕ) → BegunTransfer → BundleOrigin
origin_of sender begun = record {
  offset = begun.offset;
  place = place.Transfer begun.first.id;
  sender = sender;
  has_other_item = has_other_item begun.first.items.items;
}

-- what an extension item of an unknown type may have changed in a transfer
abbrev pub item_doubt : BegunTransfer → Doubt
item_doubt begun = if has_other_item begun.first.items.items then WholeBundle else Nothing

-- these rules, which a transfer breaks, at the offset of its first segment
abbrev pub transfer_texts : BegunTransfer → List TransferRule → List RuleText
transfer_texts begun rules =
    at_offset begun.offset (item_doubt begun) (map (λ rule. Transfer begun.first.id rule) rules)

-- the rules that the data of a transfer breaks, by the verdict on it
abbrev pub data_texts : (own sender : List ℕ) → BegunTransfer
    → Result BundleInfo (BundleFault × ℕ) → List RuleText
data_texts own sender begun (Ok info) =
    bundle_texts own (origin_of sender begun) begun.content info
data_texts own sender begun (Err fault) =
    transfer_texts begun (optional (data_rule begun.content (Err fault)))

-- The rules that a closed transfer breaks: those of its length, and then those of its data. A wrong
-- length hides none of the others. `sender` is the node ID of the sender, as far as it came.
abbrev pub closed_texts : (own sender : List ℕ) → BegunTransfer → List RuleText
closed_texts own sender begun =
    transfer_texts begun (broken_transfer_rules begun.first (length begun.content))
    ++ data_texts own sender begun (verdict begun.content)

-- A transfer that is open when the stream ends between two messages breaks one rule.
abbrev pub open_texts : BegunTransfer → List RuleText
open_texts begun = transfer_texts begun (Unfinished (length begun.content) ∷ [])

-- what `texts` says that the latest transfer breaks; before the first transfer, nothing
abbrev pub texts_at : (BegunTransfer → List RuleText) → Option BegunTransfer → List RuleText
texts_at texts None = []
texts_at texts (Some begun) = texts begun

-- ---- events

-- what is kept of the events so far
pub record Kept : Type 0 where
  -- the heads of all messages so far, in order
  pub heads : List HeadWithOrder
  -- the latest transfer, which may be over
  pub latest : Option BegunTransfer
  -- whether no rule that counts was broken
  pub good : Bool

abbrev pub none_kept : Kept
none_kept = record { heads = []; latest = None; good = true }

-- a head as the rules of messages need it: without its offset
abbrev pub judged : Head → HeadWithOrder
judged head = record { message = head.message; fault = head.fault; turn = head.turn }

-- the latest transfer after a head, which may begin one
abbrev pub begun_by : Head → Option BegunTransfer → Option BegunTransfer
begun_by head latest =
    if is_beginning head.turn
    then option_map (λ first. record { offset = head.offset; first = first; content = [] })
    (segment_of head.message)
    else latest

-- the transfer with more data
abbrev pub with_bytes : (bytes : List ℕ) → BegunTransfer → BegunTransfer
with_bytes bytes begun = record begun { content = begun.content ++ bytes }

-- the rules that a head breaks after these heads
abbrev pub head_rules : CheckOptions → (before : List HeadWithOrder) → Head → List RuleText
head_rules options before head =
    at_offset head.offset Nothing
    (map (λ rule. Message rule) (broken_rules options.peer before (judged head)))

-- the node ID of the first SESS_INIT among these heads; empty without one
abbrev pub sender_of : List HeadWithOrder → List ℕ
sender_of heads = first_node (messages_of heads)

-- the rules that the latest transfer breaks if it is closed after these heads
abbrev pub closed_after : CheckOptions → List HeadWithOrder → Option BegunTransfer → List RuleText
closed_after options heads latest =
    texts_at (closed_texts options.own.items (sender_of heads)) latest

-- The rules that are broken with one more event. A head may break rules of messages. If its segment
-- is the last of a transfer and has no data, the head also closes the transfer. Otherwise `Whole`
-- does. A transfer breaks rules when it is closed, or if it is left open at the end.
abbrev pub broken_by : CheckOptions → Kept → WalkEvent → List RuleText
broken_by options kept (ContactHeader contact) =
    at_offset 0 Nothing (map (λ rule. Message rule) (optional (contact_flags contact)))
broken_by options kept (MessageHead head) =
    head_rules options kept.heads head
    ++ (if closes head
    then closed_after options (kept.heads ++ judged head ∷ []) (begun_by head kept.latest)
    else [])
broken_by options kept (Data byte) = []
broken_by options kept Whole = closed_after options kept.heads kept.latest
broken_by options kept LeftOpen = texts_at open_texts kept.latest

-- the heads after one more event; only a message adds one, at the end
abbrev pub heads_with : List HeadWithOrder → WalkEvent → List HeadWithOrder
heads_with heads (MessageHead head) = heads ++ judged head ∷ []
heads_with heads _ = heads

-- the latest transfer after one more event, which may begin a transfer or add a byte
abbrev pub latest_with : Option BegunTransfer → WalkEvent → Option BegunTransfer
latest_with latest (MessageHead head) = begun_by head latest
latest_with latest (Data byte) = option_map (with_bytes (byte ∷ [])) latest
latest_with latest _ = latest

-- what is kept after one more event; `kept.good` stays false once a rule that counts was broken
abbrev pub kept_with : CheckOptions → Kept → WalkEvent → Kept
kept_with options kept event = record {
  heads = heads_with kept.heads event;
  latest = latest_with kept.latest event;
  good = kept.good && none_counts options.must (broken_by options kept event);
}

-- ---- a stream

-- what `check` keeps of events, and the lines that it writes for each
abbrev pub checking : CheckOptions → StatefulTool Kept
checking options = record {
  start = none_kept;
  next = kept_with options;
  says = λ kept event. on_output (lines_of options.must (broken_by options kept event));
  good = λ kept. kept.good;
}

-- What `check` says of a stream. It goes on after faults of the order, and every head matters.
abbrev pub check_telling : CheckOptions → Telling
check_telling options =
    telling_of (checking options) (record { goes_on = true; all_heads = true })

-- what `check` makes of a stream
abbrev pub check_of : CheckOptions → List ℕ → Made
check_of options bytes = told_of (check_telling options) bytes

abbrev pub check_tool : CheckOptions → Tool
check_tool options = tool_of (check_of options)

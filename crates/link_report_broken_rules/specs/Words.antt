-- The words of rules: what broke a rule. A value comes after its label, such as ` id=`.

use Rattle.std.specs.Prelude.{ℕ, ◌==◌, List, [], ◌++◌, map, codes, Option, Some, None, if◌then◌else◌}
use Rattle.link_bundle_types.specs.declared.fault.BundleFault.{BundleFault}
use Rattle.link_transfer.specs.declared.fault.OrderFault.{OrderFault}
use Rattle.link_session_rules.specs.declared.rule.{AnswerFault.AnswerFault, MessageRule.MessageRule}
use Rattle.link_session_rules.specs.declared.rule.AnswerFault.TheVariants.{NotTheLast, StartRepeats, AfterStop, AfterRefusal, RefusedAfterEnd}
use Rattle.link_session_rules.specs.declared.rule.MessageRule.TheVariants as message
use Rattle.link_session_rules.specs.declared.rule.TransferRule.{TransferRule}
use Rattle.link_session_rules.specs.declared.rule.TransferRule.TheVariants as transfer
use Rattle.link_bundle_rules.specs.declared.rule.BundleRule.{BundleRule}
use Rattle.link_bundle_rules.specs.declared.rule.BundleRule.TheVariants as bundle
use Rattle.link_bundle_rules.specs.declared.rule.Endpoint.{Endpoint}
use Rattle.link_bundle_rules.specs.declared.rule.Endpoint.TheVariants.{Destination, Source, ReportTo, PreviousNode, SecuritySource, ReportSource}
use Rattle.link_report.specs.BundleFault.{code_text}
use Rattle.link_report.specs.Fault.{order_text}
use Rattle.link_report.specs.Message.{flags_text}
use Rattle.link_report.specs.Text.{hex2, hex4, number_text}
use Rattle.link_report_blocks.specs.Fields as fields
use Rattle.link_report_blocks.specs.Words.{integer_text}
use Rattle.link_report_broken_rules.specs.declared.rule.BrokenRule.{BrokenRule}
use Rattle.link_report_broken_rules.specs.declared.rule.BrokenRule.TheVariants.{Message, Transfer, Bundle}

-- a text with hyphens for its spaces
unfoldable pub hyphenated : List ℕ → List ℕ
hyphenated text = map (λ byte. if byte == 0x20 then 0x2d else byte) text

-- the label ` fault=`, and a fault of the order of messages with hyphens for its spaces
unfoldable pub order_field : OrderFault → List ℕ
order_field fault = codes " fault=" ++ hyphenated (order_text fault)

-- the word for what is wrong with an answer
unfoldable pub answer_text : AnswerFault → List ℕ
answer_text NotTheLast = codes "not-the-last"
answer_text StartRepeats = codes "start-repeats"
answer_text AfterStop = codes "after-end"
answer_text AfterRefusal = codes "after-refusal"
answer_text RefusedAfterEnd = codes "refused-after-end"

-- what the line of a broken rule of messages says after the rule's name
unfoldable pub message_words : MessageRule → List ℕ
message_words (message.ContactFlags flags) = flags_text flags
message_words (message.NodeId size) = number_text (codes " length=") size
message_words (message.ItemFlags item flags) = number_text (codes " item=") item ++ flags_text flags
message_words (message.Order fault level) = order_field fault
message_words (message.BeforeSession type) = codes " type=" ++ hex2 type
message_words (message.Interleaved id open_id) =
    number_text (codes " id=") id ++ number_text (codes " open=") open_id
message_words (message.SegmentFlags flags) = flags_text flags
message_words (message.TransferId id) = number_text (codes " id=") id
message_words (message.PeerSegment size limit) =
    number_text (codes " length=") size ++ number_text (codes " limit=") limit
message_words (message.PeerTransferAnnounced announced limit) =
    number_text (codes " announced=") announced ++ number_text (codes " limit=") limit
message_words (message.PeerTransferLength size limit) =
    number_text (codes " length=") size ++ number_text (codes " limit=") limit
message_words (message.AckLength size before) =
    number_text (codes " length=") size ++ number_text (codes " before=") before
message_words message.Keepalive = []
message_words (message.TermFlags flags) = flags_text flags
message_words (message.NodeName size level) = number_text (codes " length=") size
message_words (message.KeepaliveInterval interval) = number_text (codes " interval=") interval
message_words (message.ItemType item type) =
    number_text (codes " item=") item ++ codes " type=" ++ hex4 type
message_words (message.TransferIdOrder id) = number_text (codes " id=") id
message_words (message.AnswerOrder id fault) =
    number_text (codes " id=") id ++ codes " fault=" ++ answer_text fault
message_words (message.AfterReject type level) = codes " type=" ++ hex2 type
message_words (message.RejectKnown reason header) =
    codes " reason=" ++ hex2 reason ++ codes " header=" ++ hex2 header
message_words (message.Reason type reason) =
    codes " type=" ++ hex2 type ++ codes " reason=" ++ hex2 reason
message_words (message.TermOrder type) = codes " type=" ++ hex2 type

-- the code of a fault of a bundle, and its offset in the bundle, each after its label
unfoldable pub fault_fields : BundleFault → ℕ → List ℕ
fault_fields fault byte = codes " code=" ++ code_text fault ++ number_text (codes " byte=") byte

-- what the line of a broken rule of transfers says after the transfer's ID
unfoldable pub transfer_words : TransferRule → List ℕ
transfer_words (transfer.Unfinished size) = number_text (codes " length=") size
transfer_words transfer.LengthItem = []
transfer_words (transfer.LengthDiffers announced size) =
    number_text (codes " announced=") announced ++ number_text (codes " length=") size
transfer_words transfer.LengthOfOneSegment = []
transfer_words (transfer.Bundle fault byte) = fault_fields fault byte
transfer_words (transfer.NotRead fault byte) = fault_fields fault byte

-- the label ` flags=`, and the flags of a bundle or of a block, as in the lines of blocks
unfoldable pub control_field : ℕ → List ℕ
control_field flags = codes " flags=" ++ fields.flags_text flags

-- the word for the role of an endpoint ID in its bundle
unfoldable pub endpoint_name : Endpoint → List ℕ
endpoint_name Destination = codes "destination"
endpoint_name Source = codes "source"
endpoint_name ReportTo = codes "report-to"
endpoint_name (PreviousNode block) = codes "previous-node"
endpoint_name (SecuritySource block) = codes "security-source"
endpoint_name ReportSource = codes "report-source"

-- The number of the block that contains the endpoint ID, if a bundle can have several such blocks.
-- Otherwise nothing is written.
unfoldable pub endpoint_block : Endpoint → List ℕ
endpoint_block (PreviousNode block) = number_text (codes " block=") block
endpoint_block (SecuritySource block) = number_text (codes " block=") block
endpoint_block _ = []

-- the label ` limit=` and the hop limit, if one was read from the first hop count block
unfoldable pub limit_field : Option ℕ → List ℕ
limit_field None = []
limit_field (Some limit) = number_text (codes " limit=") limit

-- the label ` target=` and the target that breaks a rule, if the security block has targets
unfoldable pub target_field : Option ℕ → List ℕ
target_field None = []
target_field (Some target) = number_text (codes " target=") target

-- what the line of a broken rule of bundles says after the bundle's place
unfoldable pub bundle_words : BundleRule → List ℕ
bundle_words (bundle.LongHead byte level) = number_text (codes " byte=") byte
bundle_words (bundle.BundleFlags flags) = control_field flags
bundle_words (bundle.PrimaryCheck level) = []
bundle_words (bundle.Anonymous flags) = control_field flags
bundle_words (bundle.RecordReports flags) = control_field flags
bundle_words (bundle.BlockReports block) = number_text (codes " block=") block
bundle_words (bundle.BlockFlags block flags) =
    number_text (codes " block=") block ++ control_field flags
bundle_words (bundle.DtnName of) = codes " of=" ++ endpoint_name of ++ endpoint_block of
bundle_words (bundle.Fragment offset size total level) =
    number_text (codes " offset=") offset ++ number_text (codes " length=") size
    ++ number_text (codes " total=") total
bundle_words (bundle.WholeFragment total) = number_text (codes " total=") total
bundle_words (bundle.Age blocks level) = number_text (codes " blocks=") blocks
bundle_words (bundle.PreviousNode blocks) = number_text (codes " blocks=") blocks
bundle_words (bundle.HopCount blocks limit) =
    number_text (codes " blocks=") blocks ++ limit_field limit
bundle_words (bundle.ConfidentialPrimary block) = number_text (codes " block=") block
bundle_words (bundle.Hops limit count) =
    number_text (codes " limit=") limit ++ number_text (codes " count=") count
bundle_words (bundle.BlockData block byte) =
    number_text (codes " block=") block ++ number_text (codes " byte=") byte
bundle_words (bundle.DataNotRead block byte) =
    number_text (codes " block=") block ++ number_text (codes " byte=") byte
bundle_words (bundle.Record byte) = number_text (codes " byte=") byte
bundle_words bundle.SourceNode = []
bundle_words (bundle.PreviousNodeId block level) = number_text (codes " block=") block
bundle_words (bundle.Expired lifetime age) =
    number_text (codes " lifetime=") lifetime ++ number_text (codes " age=") age
bundle_words (bundle.BlockType block type) =
    number_text (codes " block=") block ++ number_text (codes " type=") type
bundle_words (bundle.RecordType type) = number_text (codes " type=") type
bundle_words bundle.ReportTimes = []
bundle_words bundle.ReportEmpty = []
bundle_words (bundle.ReportReason reason) = number_text (codes " reason=") reason
bundle_words bundle.ReportSource = []
bundle_words (bundle.SecurityTargets block target level) =
    number_text (codes " block=") block ++ target_field target
bundle_words (bundle.SecurityTwice block target) =
    number_text (codes " block=") block ++ number_text (codes " target=") target
bundle_words (bundle.SecurityFlags block flags) =
    number_text (codes " block=") block ++ control_field flags
bundle_words (bundle.SecurityContext block context) =
    number_text (codes " block=") block ++ codes " context=" ++ integer_text context
bundle_words (bundle.IntegrityTarget block target) =
    number_text (codes " block=") block ++ number_text (codes " target=") target
bundle_words (bundle.ConfidentialTarget block target) =
    number_text (codes " block=") block ++ number_text (codes " target=") target
bundle_words (bundle.ConfidentialFlags block flags) =
    number_text (codes " block=") block ++ control_field flags
bundle_words (bundle.ConfidentialContext block) = number_text (codes " block=") block
bundle_words (bundle.SharedTarget block target) =
    number_text (codes " block=") block ++ number_text (codes " target=") target

-- what the line of a broken rule says last: what broke the rule
unfoldable pub rule_words : BrokenRule → List ℕ
rule_words (Message rule) = message_words rule
rule_words (Transfer id rule) = transfer_words rule
rule_words (Bundle place rule) = bundle_words rule

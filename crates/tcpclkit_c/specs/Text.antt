-- The texts of faults, of endpoint IDs, of reasons, and of the data of blocks.
use Rattle.std.specs.Prelude.{◌≡◌, ℕ, ◌-◌, ◌^◌, ◌==◌, ◌&&◌, Bool, nat_lt, nat_le, min, List, ◌++◌, length, drop, codes, Option, Some, None, option_map, if◌then◌else◌}
use Rattle.std.specs.Option.{option_and_then}
use Rattle.link_bundle_data.specs.BlockData.{data_of}
use Rattle.link_report_blocks.specs.Kinds.{kind_of}
use Rattle.link_report_blocks.specs.Words.{words_text}
use Rattle.link_bundle_types.specs.declared.eid.Eid.{Eid}
use Rattle.link_report.specs.BundleFault.{code_text, bundle_fault_text}
use Rattle.link_report.specs.Eid.{eid_text}
use Rattle.link_report.specs.Fault.{wire_text, order_text}
use Rattle.link_report.specs.Reason.{name_of}
use Rattle.link_transfer_answer_judge.specs.declared.answers.AnswerFault.{AnswerFault}
use Rattle.link_transfer_answer_judge.specs.declared.answers.AnswerFault.TheVariants as answer
use Rattle.link_ffi_numbers.specs.Status.{status_ok, status_too_small, status_range}
use Rattle.link_ffi_numbers.specs.declared.block.BlockNumbers.{BlockNumbers}
use Rattle.link_ffi_numbers.specs.declared.named.Named.{Named}
use Rattle.link_ffi_numbers.specs.declared.named.Named.TheVariants as named
use Rattle.link_ffi_tools.specs.Slice.{HoldsPrefix, LeavesRest}
use Rattle.link_ffi_writer.specs.Messages.{reason_of_by}

-- the words of a fault of an answer to a transfer (RFC 9174 sections 5.2.3 and 5.2.4)
unfoldable pub answer_text : AnswerFault → List ℕ
answer_text answer.OtherTransfer = codes "another transfer"
answer_text answer.LengthFalls = codes "acknowledged length falls"
answer_text answer.LengthNotSent = codes "acknowledged length was not sent"
answer_text answer.EndTooEarly = codes "end without the whole transfer"

-- The words of a fault. The code of a bundle's fault comes before them.
abbrev pub named_text : Named → List ℕ
named_text (named.Wire fault) = wire_text fault
named_text (named.Order fault) = order_text fault
named_text (named.Answer fault) = answer_text fault
named_text (named.Bundle fault) = code_text fault ++ codes " " ++ bundle_fault_text fault

-- the words of a fault, if there is one
abbrev pub option_text : Option Named → Option (List ℕ)
option_text None = None
option_text (Some fault) = Some (named_text fault)

-- the text of an endpoint ID, if there is one
abbrev pub option_eid_text : Option Eid → Option (List ℕ)
option_eid_text None = None
option_eid_text (Some eid) = Some (eid_text eid)

-- the name of a reason, or `None` if the kind of message has no reason or the reason is above 255
abbrev pub reason_text_by : (kind reason : ℕ) → Option (List ℕ)
reason_text_by kind reason =
    option_and_then (λ of. if nat_lt reason 256 then Some (name_of of reason) else None)
    (reason_of_by kind)

-- Whether these are a primary block (kind 1), a canonical block (kind 2), and the number of bytes
-- of the canonical block's data. The data ends at an offset of at most 2^64 - 1.
abbrev pub is_data_of : (primary block : BlockNumbers) → (size : ℕ) → Bool
is_data_of primary block size =
    primary.kind == 1 && (block.kind == 2 && (block.data_length == size
    && nat_le block.data_offset (2 ^ 64 - 1 - block.data_length)))

-- The words that the line of a block ends with, without the space before them. There are none if
-- the block's data is not read.
abbrev pub data_words : (primary block : BlockNumbers) → (content : List ℕ) → List ℕ
data_words primary block content =
    drop 1 (words_text block.data_offset
    (option_map (λ kind. data_of kind content) (kind_of primary.flags block.block_type)))

-- The slice begins with the text, or with as much of it as fits. `written` is the number of these
-- bytes, and the bytes after them are as they were. The status is TCPCLKIT_OK if the whole text
-- fits, and else TCPCLKIT_TOO_SMALL.
pub record ReturnsThisText (text old slice : List ℕ) (written status : ℕ) : Type 0 where
  pub front : HoldsPrefix slice text
  pub rest : LeavesRest old slice text
  pub count : written ≡ min (length text) (length slice)
  pub fits : status ≡ (if nat_le (length text) (length slice) then status_ok else status_too_small)

-- the text, or TCPCLKIT_RANGE if there is none
abbrev pub ReturnsText : Option (List ℕ) → (old slice : List ℕ) → (written status : ℕ) → Type 0
ReturnsText None old slice written status = status ≡ status_range
ReturnsText (Some text) old slice written status = ReturnsThisText text old slice written status

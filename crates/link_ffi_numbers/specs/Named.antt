-- Faults by their numbers.
use Rattle.std.specs.Prelude.{ℕ, ◌==◌, ◌&&◌, nat_lt, Option, Some, None, option_map, if◌then◌else◌}
use Rattle.link_bundle_types.specs.declared.fault.BundleFault.{BundleFault}
use Rattle.link_bundle_types.specs.declared.fault.BundleFault.TheVariants.{Cut, Trailing, NotABundle, BadHead, WrongKind, BadCount, BadVersion, BadCheckType, BadScheme, BadSpecificPart, EidTooLong, BadCheckLength, CheckDiffers, BadBlockNumber, RepeatedBlockNumber, TooManyBlocks, NoPayloadLast}
use Rattle.link_transfer.specs.declared.fault.OrderFault.{OrderFault}
use Rattle.link_transfer.specs.declared.fault.OrderFault.TheVariants as order
use Rattle.link_transfer_answer_judge.specs.declared.answers.AnswerFault.{AnswerFault}
use Rattle.link_transfer_answer_judge.specs.declared.answers.AnswerFault.TheVariants as answer
use Rattle.link_wire.specs.declared.fault.WireFault.{WireFault}
use Rattle.link_wire.specs.declared.fault.WireFault.TheVariants as wire
use Rattle.link_ffi_numbers.specs.declared.named.Named.{Named}
use Rattle.link_ffi_numbers.specs.declared.named.Named.TheVariants as named

-- the fault of a recording with this code, or `None`; only codes 3 to 6 look at the number
abbrev pub wire_by : ℕ → ℕ → Option WireFault
wire_by code number =
    if code == 1 then Some wire.Truncated
    else if code == 2 then Some wire.BadMagic
    else if code == 3 && nat_lt number 256 then Some (wire.BadVersion number)
    else if code == 4 && nat_lt number 256 then Some (wire.UnknownType number)
    else if code == 5 && nat_lt number 65536 then Some (wire.NodeIdTooLong number)
    else if code == 6 && nat_lt number 4294967296 then Some (wire.ListTooLong number)
    else if code == 7 then Some wire.TooManyItems
    else if code == 8 then Some wire.ItemsOverrun
    else None

-- the fault of the order of messages that has this code, or `None`
abbrev pub order_by : ℕ → Option OrderFault
order_by code =
    if code == 51 then Some order.SecondSessInit
    else if code == 52 then Some order.SegmentBeforeSessInit
    else if code == 53 then Some order.NoSuchOpenTransfer
    else if code == 54 then Some order.StartRepeatsOpenId
    else if code == 55 then Some order.StartAfterSessTerm
    else None

-- the fault of an answer to a transfer that has this code, or `None`
abbrev pub answer_by : ℕ → Option AnswerFault
answer_by code =
    if code == 71 then Some answer.OtherTransfer
    else if code == 72 then Some answer.LengthFalls
    else if code == 73 then Some answer.LengthNotSent
    else if code == 74 then Some answer.EndTooEarly
    else None

-- The fault of a bundle with this code, or `None`. Three faults share the code 105, which gives
-- `WrongKind`.
abbrev pub bundle_by : ℕ → Option BundleFault
bundle_by code =
    if code == 101 then Some Cut
    else if code == 102 then Some Trailing
    else if code == 103 then Some NotABundle
    else if code == 104 then Some BadHead
    else if code == 105 then Some WrongKind
    else if code == 106 then Some BadCount
    else if code == 107 then Some BadVersion
    else if code == 108 then Some BadCheckType
    else if code == 109 then Some BadScheme
    else if code == 110 then Some BadSpecificPart
    else if code == 111 then Some EidTooLong
    else if code == 112 then Some BadCheckLength
    else if code == 113 then Some CheckDiffers
    else if code == 114 then Some BadBlockNumber
    else if code == 115 then Some RepeatedBlockNumber
    else if code == 116 then Some TooManyBlocks
    else if code == 117 then Some NoPayloadLast
    else None

-- The fault that has this code and this number, or `None` if no fault has them. Only codes 3 to 6
-- look at the number.
abbrev pub named_by : ℕ → ℕ → Option Named
named_by code number =
    if nat_lt code 51 then option_map named.Wire (wire_by code number)
    else if nat_lt code 71 then option_map named.Order (order_by code)
    else if nat_lt code 101 then option_map named.Answer (answer_by code)
    else option_map named.Bundle (bundle_by code)

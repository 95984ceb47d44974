-- Faults as numbers. The numbers are written here again, so a change of a constant of the code
-- changes no definition.
use Rattle.std.specs.Prelude.{ℕ}
use Rattle.link_bundle_types.specs.declared.fault.BundleFault.{BundleFault}
use Rattle.link_bundle_types.specs.declared.fault.BundleFault.TheVariants.{Cut, Trailing, NotABundle, BadHead, WrongKind, WrongDataKind, WrongCheckKind, BadCount, BadVersion, BadCheckType, BadScheme, BadSpecificPart, EidTooLong, BadCheckLength, CheckDiffers, BadBlockNumber, RepeatedBlockNumber, TooManyBlocks, NoPayloadLast}
use Rattle.link_transfer_answer_judge.specs.declared.answers.AnswerFault.{AnswerFault}
use Rattle.link_transfer_answer_judge.specs.declared.answers.AnswerFault.TheVariants.{OtherTransfer, LengthFalls, LengthNotSent, EndTooEarly}
use Rattle.link_wire.specs.declared.fault.WireFault.{WireFault}
use Rattle.link_wire.specs.declared.fault.WireFault.TheVariants.{Truncated, BadMagic, BadVersion, UnknownType, NodeIdTooLong, ListTooLong, TooManyItems, ItemsOverrun}
use Rattle.link_ffi_numbers.specs.Status.{status_truncated, status_fault}
use Rattle.link_ffi_numbers.specs.declared.fault.Fault.{Fault}

-- no fault, whose code is 0
abbrev pub no_fault : Fault
no_fault = record { code = 0; number = 0; offset = 0 }

-- The code of a bundle's fault: 100 plus the fault's number in docs/FORMATS.md. Three faults have
-- the code 105.
abbrev pub bundle_code : BundleFault → ℕ
bundle_code Cut = 101
bundle_code Trailing = 102
bundle_code NotABundle = 103
bundle_code BadHead = 104
bundle_code WrongKind = 105
bundle_code WrongDataKind = 105
bundle_code WrongCheckKind = 105
bundle_code BadCount = 106
bundle_code BadVersion = 107
bundle_code BadCheckType = 108
bundle_code BadScheme = 109
bundle_code BadSpecificPart = 110
bundle_code EidTooLong = 111
bundle_code BadCheckLength = 112
bundle_code CheckDiffers = 113
bundle_code BadBlockNumber = 114
bundle_code RepeatedBlockNumber = 115
bundle_code TooManyBlocks = 116
bundle_code NoPayloadLast = 117

-- a bundle's fault as numbers, at this offset in the bundle
abbrev pub bundle_fault : BundleFault → ℕ → Fault
bundle_fault fault offset = record { code = bundle_code fault; number = 0; offset = offset }

-- the code of a fault of a recording, and the number that the fault is about, or 0
abbrev pub wire_numbers : WireFault → ℕ × ℕ
wire_numbers Truncated = (1, 0)
wire_numbers BadMagic = (2, 0)
wire_numbers (BadVersion version) = (3, version)
wire_numbers (UnknownType kind) = (4, kind)
wire_numbers (NodeIdTooLong size) = (5, size)
wire_numbers (ListTooLong size) = (6, size)
wire_numbers TooManyItems = (7, 0)
wire_numbers ItemsOverrun = (8, 0)

-- the fault of a recording as numbers, in the message that begins at `offset`
abbrev pub wire_fault : WireFault → ℕ → Fault
wire_fault fault offset =
    record { code = (wire_numbers fault).0; number = (wire_numbers fault).1; offset = offset }

-- the status that a call returns for a fault of a recording: TCPCLKIT_TRUNCATED or TCPCLKIT_FAULT
abbrev pub wire_status : WireFault → ℕ
wire_status Truncated = status_truncated
wire_status _ = status_fault

-- the code of a fault of an answer to a transfer
abbrev pub answer_code : AnswerFault → ℕ
answer_code OtherTransfer = 71
answer_code LengthFalls = 72
answer_code LengthNotSent = 73
answer_code EndTooEarly = 74

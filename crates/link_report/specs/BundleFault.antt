-- The codes and the texts of the faults of bundles.
use Rattle.std.specs.Prelude.{ℕ, List, codes}
use Rattle.link_bundle_types.specs.declared.fault.BundleFault.{BundleFault}
use Rattle.link_bundle_types.specs.declared.fault.BundleFault.TheVariants.{Cut, Trailing, NotABundle, BadHead, WrongKind, WrongDataKind, WrongCheckKind, BadCount, BadVersion, BadCheckType, BadScheme, BadSpecificPart, EidTooLong, BadCheckLength, CheckDiffers, BadBlockNumber, RepeatedBlockNumber, TooManyBlocks, NoPayloadLast}

-- the code of a fault; three faults have the code B5
unfoldable pub code_text : BundleFault → List ℕ
code_text Cut = codes "B1"
code_text Trailing = codes "B2"
code_text NotABundle = codes "B3"
code_text BadHead = codes "B4"
code_text WrongKind = codes "B5"
code_text WrongDataKind = codes "B5"
code_text WrongCheckKind = codes "B5"
code_text BadCount = codes "B6"
code_text BadVersion = codes "B7"
code_text BadCheckType = codes "B8"
code_text BadScheme = codes "B9"
code_text BadSpecificPart = codes "B10"
code_text EidTooLong = codes "B11"
code_text BadCheckLength = codes "B12"
code_text CheckDiffers = codes "B13"
code_text BadBlockNumber = codes "B14"
code_text RepeatedBlockNumber = codes "B15"
code_text TooManyBlocks = codes "B16"
code_text NoPayloadLast = codes "B17"

-- the text of a fault, which follows its code; it is the same for the three faults with the code B5
unfoldable pub bundle_fault_text : BundleFault → List ℕ
bundle_fault_text Cut = codes "input ends inside a bundle"
bundle_fault_text Trailing = codes "bytes after the bundle"
bundle_fault_text NotABundle = codes "not a bundle"
bundle_fault_text BadHead = codes "ill-formed head"
bundle_fault_text WrongKind = codes "wrong kind of item"
bundle_fault_text WrongDataKind = codes "wrong kind of item"
bundle_fault_text WrongCheckKind = codes "wrong kind of item"
bundle_fault_text BadCount = codes "wrong number of elements"
bundle_fault_text BadVersion = codes "unsupported bundle version"
bundle_fault_text BadCheckType = codes "unknown check type"
bundle_fault_text BadScheme = codes "unknown endpoint scheme"
bundle_fault_text BadSpecificPart = codes "wrong scheme-specific part"
bundle_fault_text EidTooLong = codes "endpoint id too long"
bundle_fault_text BadCheckLength = codes "wrong check length"
bundle_fault_text CheckDiffers = codes "check differs"
bundle_fault_text BadBlockNumber = codes "wrong block number"
bundle_fault_text RepeatedBlockNumber = codes "repeated block number"
bundle_fault_text TooManyBlocks = codes "too many blocks"
bundle_fault_text NoPayloadLast = codes "no payload block at the end"

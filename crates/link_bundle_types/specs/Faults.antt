-- The faults that stay, whatever bytes follow: all except `Cut` (the bytes end inside the bundle).

use Rattle.std.specs.Prelude.{Bool, true, false}
use Rattle.link_bundle_types.specs.declared.fault.BundleFault.{BundleFault}
use Rattle.link_bundle_types.specs.declared.fault.BundleFault.TheVariants.{Cut, Trailing, NotABundle, BadHead, WrongKind, WrongDataKind, WrongCheckKind, BadCount, BadVersion, BadCheckType, BadScheme, BadSpecificPart, EidTooLong, BadCheckLength, CheckDiffers, BadBlockNumber, RepeatedBlockNumber, TooManyBlocks, NoPayloadLast}

-- whether a fault stays, whatever bytes follow
abbrev pub lasts : BundleFault → Bool
lasts Cut = false
lasts Trailing = true
lasts NotABundle = true
lasts BadHead = true
lasts WrongKind = true
lasts WrongDataKind = true
lasts WrongCheckKind = true
lasts BadCount = true
lasts BadVersion = true
lasts BadCheckType = true
lasts BadScheme = true
lasts BadSpecificPart = true
lasts EidTooLong = true
lasts BadCheckLength = true
lasts CheckDiffers = true
lasts BadBlockNumber = true
lasts RepeatedBlockNumber = true
lasts TooManyBlocks = true
lasts NoPayloadLast = true

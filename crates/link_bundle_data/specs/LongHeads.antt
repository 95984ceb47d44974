-- The first head of a block's data that is longer than its number needs (RFC 9171 section 4.1).

use Rattle.std.specs.Prelude.{ℕ, List, [], take, Option, None, Result, Ok, Err}
use Rattle.link_rules_shared.specs.Heads.{is_long, first_from}
use Rattle.link_bundle_data.specs.declared.{kind.DataKind.DataKind, values.DataFault.DataFault}
use Rattle.link_bundle_data.specs.BlockData.{BlockData, PreviousNode, BundleAge, HopCount, Security, StatusReport, OtherRecord, data_of}

-- The part of well-formed data in which no head may be long. In a security block, it is the bytes
-- that are read, and in an administrative record it is empty. In other data, it is all bytes.
abbrev pub judged_part : BlockData → List ℕ → List ℕ
judged_part (PreviousNode node) bytes = bytes
judged_part (BundleAge age) bytes = bytes
judged_part (HopCount limit count) bytes = bytes
judged_part (Security block targets source) bytes = take block.size bytes
judged_part (StatusReport report source) bytes = []
judged_part (OtherRecord type) bytes = []

-- The offset of the first long head in the data. The first argument is what the data says. In
-- malformed data, no head is judged.
abbrev pub long_in : Result BlockData DataFault → List ℕ → Option ℕ
long_in (Ok found) bytes = first_from is_long 0 0 (judged_part found bytes)
long_in (Err fault) bytes = None

-- The offset of the first long head in data of this kind. None is judged in malformed data.
unfoldable pub long_head : DataKind → List ℕ → Option ℕ
long_head kind bytes = long_in (data_of kind bytes) bytes

-- Which kind of data a block has.

use Rattle.std.specs.Prelude.{ℕ, Bool, not, ◌&&◌, ◌||◌, ◌==◌, Option, Some, None, if◌then◌else◌, bit_and}
use Rattle.link_bundle_heads.specs.Rows.{is_fragment}
use Rattle.link_bundle_data.specs.declared.kind.DataKind.{DataKind}
use Rattle.link_bundle_data.specs.declared.kind.DataKind.TheVariants.{PreviousNode, BundleAge, HopCount, Security, Record}

-- Whether the payload of a bundle with these flags is a whole administrative record. Flag 02 marks
-- an administrative record, and flag 01 marks a fragment (RFC 9171 section 4.2.3).
unfoldable pub is_record : ℕ → Bool
is_record flags = (bit_and flags 2 == 2) && not (is_fragment flags)

-- The kind of the data of a block, by the flags of its bundle and its type code (RFC 9171 section
-- 4.4, RFC 9172 section 3). Data of no kind is not read.
unfoldable pub kind_of : ℕ → ℕ → Option DataKind
kind_of flags type =
    if type == 1 then (if is_record flags then Some Record else None) else
    (if type == 6 then Some PreviousNode else
    (if type == 7 then Some BundleAge else
    (if type == 10 then Some HopCount else
    (if (type == 11) || (type == 12) then Some Security else None))))

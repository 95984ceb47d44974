-- Fields that the lines of blocks have.

use Rattle.std.specs.Prelude.{ℕ, ◌-◌, ◌==◌, List, [], ◌∷◌, ◌++◌, codes, Option, Some, None, if◌then◌else◌}
use Rattle.std.specs.{Int.{w64, to_be_bytes}, List.flat_map}
use Rattle.link_cbor.specs.declared.check.CheckKind.{CheckKind}
use Rattle.link_cbor.specs.declared.check.CheckKind.TheVariants.{Crc16, Crc32}
use Rattle.link_report.specs.Text.{hex2, number_text}

-- the bytes of a number without its leading zeros; a number of zeros alone keeps one
abbrev pub significant : List ℕ → List ℕ
significant [] = []
significant (byte ∷ []) = byte ∷ []
significant (byte ∷ next ∷ rest) =
    if byte == 0 then significant (next ∷ rest) else byte ∷ next ∷ rest

-- flags without a label: as many pairs of hexadecimal digits as they need, at least one pair
unfoldable pub flags_text : ℕ → List ℕ
flags_text flags = flat_map hex2 (significant (to_be_bytes w64 flags))

-- the kind of a block's check (RFC 9171 section 4.2.1)
unfoldable pub check_text : Option CheckKind → List ℕ
check_text None = codes "none"
check_text (Some Crc16) = codes "crc16"
check_text (Some Crc32) = codes "crc32c"

-- The processing control flags and the check of a block, with labels. For a primary block, the
-- flags are the ones of the bundle.
unfoldable pub control_text : ℕ → Option CheckKind → List ℕ
control_text flags check =
    codes " flags=" ++ flags_text flags ++ codes " check=" ++ check_text check

-- the name of a block type (RFC 9171 section 4.4, RFC 9172 section 3), or `?`
unfoldable pub type_name : ℕ → List ℕ
type_name type =
    if type == 1 then codes "payload" else
    (if type == 6 then codes "previous-node" else
    (if type == 7 then codes "bundle-age" else
    (if type == 10 then codes "hop-count" else
    (if type == 11 then codes "block-integrity" else
    (if type == 12 then codes "block-confidentiality" else codes "?")))))

-- a block type: its code and its name
unfoldable pub type_text : ℕ → List ℕ
type_text type = number_text (codes " type=") type ++ codes "/" ++ type_name type

-- The length in bytes of a block that begins at `start` and ends before the given offset. A block
-- without an end is not whole and has no line.
abbrev pub length_to : Option ℕ → ℕ → ℕ
length_to (Some end) start = end - start
length_to None start = 0

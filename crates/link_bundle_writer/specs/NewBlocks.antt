-- The blocks of a bundle (RFC 9171 sections 4.3.1 and 4.3.2), from their fields.
use Rattle.std.specs.Prelude.{ℕ, ◌+◌, Bool, true, false, ◌&&◌, List, [], ◌++◌, replicate, Option, Some, None, if◌then◌else◌}
use Rattle.link_cbor.specs.Crc.{crc}
use Rattle.link_cbor.specs.declared.check.{CheckKind.CheckKind, CheckKind.TheVariants.{Crc16, Crc32}}
use Rattle.link_bundle_heads.specs.Rows.{is_fragment, check_elements, check_width, fits_type}
use Rattle.link_bundle_blocks.specs.Blocks.{Primary}
use Rattle.link_bundle_writer.specs.Heads.{unsigned, byte_string, array}
use Rattle.link_bundle_writer.specs.EndpointIds.{eid_bytes, is_short}
use Rattle.link_writing.specs.Numbers.{be}

-- ---- check fields

-- the check type of a block, which is 0 if the block has no check (section 4.2.1)
abbrev pub check_type : Option CheckKind → ℕ
check_type None = 0
check_type (Some Crc16) = 1
check_type (Some Crc32) = 2

-- The check field of a block whose bytes before the field are `block` (section 4.2.2): a byte
-- string with the check value of the whole block, where the content of the field counts as zeros.
unfoldable pub check_field : CheckKind → (block : List ℕ) → List ℕ
check_field kind block =
    let zeros = byte_string (check_width kind) ++ replicate (check_width kind) 0 in
    byte_string (check_width kind) ++ be (check_width kind) (crc kind (block ++ zeros))

-- the check field, or no bytes if the block has no check
abbrev pub check_bytes : Option CheckKind → (block : List ℕ) → List ℕ
check_bytes None block = []
check_bytes (Some kind) block = check_field kind block

-- the whole block: `block` are its bytes before the check field
abbrev pub checked : Option CheckKind → (block : List ℕ) → List ℕ
checked check block = block ++ check_bytes check block

-- ---- the primary block

-- the number of elements that a block has only in a fragment: the fragment offset and the total
-- length
abbrev pub fragment_elements : Option (ℕ × ℕ) → ℕ
fragment_elements None = 0
fragment_elements (Some fragment) = 2

-- the fragment offset and the total length, or no bytes if the bundle is no fragment
abbrev pub fragment_bytes : Option (ℕ × ℕ) → List ℕ
fragment_bytes None = []
fragment_bytes (Some (offset, total)) = unsigned offset ++ unsigned total

-- The beginning of the primary block (section 4.3.1): the head of its array, and the first
-- elements, which are the version (7), the flags and the check type. Each primary block has eight
-- elements. A fragment and a check add to them.
abbrev pub primary_front : Primary → Option CheckKind → List ℕ
primary_front primary check =
    array (8 + fragment_elements primary.fragment + check_elements check)
    ++ unsigned 7 ++ unsigned primary.flags ++ unsigned (check_type check)

-- the elements after `primary_front`: the destination, the source node and the report-to endpoint
abbrev pub primary_eids : Primary → List ℕ
primary_eids primary =
    eid_bytes primary.destination ++ eid_bytes primary.source ++ eid_bytes primary.report_to

-- the last elements before the check field: the creation timestamp (section 4.2.7), which is an
-- array of two, the lifetime, and in a fragment its offset and the total length
abbrev pub primary_rest : Primary → List ℕ
primary_rest primary =
    array 2 ++ unsigned primary.time ++ unsigned primary.sequence
    ++ unsigned primary.lifetime ++ fragment_bytes primary.fragment

-- the primary block up to its check field
unfoldable pub primary_elements : Primary → Option CheckKind → List ℕ
primary_elements primary check =
    primary_front primary check ++ primary_eids primary ++ primary_rest primary

-- the primary block, with its check field if it has one
unfoldable pub primary_bytes : Primary → Option CheckKind → List ℕ
primary_bytes primary check = checked check (primary_elements primary check)

-- Whether flag 01 agrees with the fragment offset and the total length. A fragment alone sets this
-- flag (section 4.2.3), and it alone has these two numbers.
abbrev pub says_fragment : Bool → Option (ℕ × ℕ) → Bool
says_fragment true (Some fragment) = true
says_fragment false None = true
says_fragment _ _ = false

-- whether the dtn names of the three endpoint IDs have at most 1,024 bytes each
abbrev pub has_short_names : Primary → Bool
has_short_names primary =
    is_short primary.destination && (is_short primary.source && is_short primary.report_to)

-- Whether flag 01 agrees with the fragment, and each dtn name has at most 1,024 bytes. No other
-- primary block is written, and no scan accepts another.
unfoldable pub primary_is_writable : Primary → Bool
primary_is_writable primary =
    says_fragment (is_fragment primary.flags) primary.fragment && has_short_names primary

-- the bytes of the primary block, or `None` if it is not writable
abbrev pub primary_of : Primary → Option CheckKind → Option (List ℕ)
primary_of primary check =
    if primary_is_writable primary then Some (primary_bytes primary check) else None

-- ---- canonical blocks

-- a canonical block up to its data, which has `size` bytes (section 4.3.2): an array of the block
-- type code, the block number, the flags, the check type and the data
unfoldable pub block_head : (type number flags : ℕ) → Option CheckKind → (size : ℕ) → List ℕ
block_head type number flags check size =
    array (5 + check_elements check) ++ unsigned type ++ unsigned number ++ unsigned flags
    ++ unsigned (check_type check) ++ byte_string size

-- `block_head`, or `None` if the number does not agree with the type: no block has number 0, and
-- the payload block (type 1) alone has number 1 (section 4.1).
abbrev pub block_head_of : (type number flags : ℕ) → Option CheckKind → (size : ℕ)
    → Option (List ℕ)
block_head_of type number flags check size =
    if fits_type type number then Some (block_head type number flags check size) else None

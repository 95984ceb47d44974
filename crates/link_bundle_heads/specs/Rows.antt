-- The judgement of each head of a bundle: a value, or the first fault in the order given (RFC 9171
-- section 4).

use Rattle.std.specs.Prelude.{ℕ, ◌+◌, Bool, true, false, not, ◌&&◌, ◌||◌, ◌==◌, nat_le, List, Option, Some, None, Result, Ok, Err, if◌then◌else◌, bit_and}
use Rattle.std.specs.List.{list_any}
use Rattle.link_cbor.specs.declared.{head.Head.Head, check.CheckKind.CheckKind}
use Rattle.link_cbor.specs.declared.check.CheckKind.TheVariants.{Crc16, Crc32}
use Rattle.link_bundle_types.specs.declared.fault.BundleFault.{BundleFault}
use Rattle.link_bundle_types.specs.declared.fault.BundleFault.TheVariants.{WrongKind, WrongDataKind, WrongCheckKind, BadCount, BadVersion, BadCheckType, BadScheme, BadSpecificPart, EidTooLong, BadCheckLength, BadBlockNumber, RepeatedBlockNumber, TooManyBlocks, NoPayloadLast}
use Rattle.link_bundle_heads.specs.declared.endpoint.{Scheme.Scheme, Scheme.TheVariants.{Dtn, Ipn}}

infixl 10 ◌>>=◌
-- the first fault, or the result of the next part
abbrev pub ◌>>=◌ : {A B E : Type 0} → Result A E → (A → Result B E) → Result B E
(Ok value) >>= next = next value
(Err fault) >>= next = Err fault

-- the value, if it passes a test
abbrev pub wanted : {A : Type 0} → Bool → A → BundleFault → Result A BundleFault
wanted passes value fault = if passes then Ok value else Err fault

-- the value of an item, or `fault` if it has the wrong major type (`false`) or no value
abbrev pub valued : BundleFault → Bool → Option ℕ → Result ℕ BundleFault
valued fault true (Some value) = Ok value
valued fault true None = Err fault
valued fault false value = Err fault

-- The value of an item of this major type, or `fault` for any other item. It is an unsigned integer
-- (0), the length of a byte string (2), or the number of elements of an array (4).
abbrev pub of_major : BundleFault → ℕ → Head → Result ℕ BundleFault
of_major fault major head = valued fault (head.major == major) head.value

-- the value of an unsigned integer
unfoldable pub unsigned : Head → Result ℕ BundleFault
unsigned head = of_major WrongKind 0 head

-- the length of the data of a block, which is a byte string of definite length (section 4.3.2)
unfoldable pub block_data : Head → Result ℕ BundleFault
block_data head = of_major WrongDataKind 2 head

-- the number of elements of an array of definite length
unfoldable pub array : Head → Result ℕ BundleFault
array head = of_major WrongKind 4 head

-- the number of elements of an array, which has to be two
unfoldable pub pair : Head → Result ℕ BundleFault
pair head = do
  count ← array head
  wanted (count == 2) count BadCount

-- whether an item has no value: its length is indefinite, or it is the break
abbrev pub is_absent : Option ℕ → Bool
is_absent None = true
is_absent (Some value) = false

-- the break (RFC 8949 section 3.2.1): major type 7 without a value
unfoldable pub is_break : Head → Bool
is_break head = (head.major == 7) && is_absent head.value

-- the number of elements of the primary block (section 4.3.1): eight, two more in a fragment, and
-- one more with a check field
unfoldable pub primary_block : Head → Result ℕ BundleFault
primary_block head = do
  count ← array head
  wanted (nat_le 8 count && nat_le count 11) count BadCount

-- the version of a bundle, which has to be 7 (section 4.3.1)
unfoldable pub version : Head → Result ℕ BundleFault
version head = do
  number ← unsigned head
  wanted (number == 7) number BadVersion

-- whether bundle processing control flag 01 is set (section 4.2.3)
unfoldable pub is_fragment : ℕ → Bool
is_fragment flags = bit_and flags 1 == 1

-- the check type with this number, which is `None` for 0 (section 4.2.1)
abbrev pub kind_of_type : ℕ → Result (Option CheckKind) BundleFault
kind_of_type number =
    if number == 0 then Ok None else
    (if number == 1 then Ok (Some Crc16) else
    (if number == 2 then Ok (Some Crc32) else Err BadCheckType))

-- the check type whose number is the value of this head
unfoldable pub check_type : Head → Result (Option CheckKind) BundleFault
check_type head = do
  number ← unsigned head
  kind_of_type number

-- the number of elements that a check field adds to its block
abbrev pub check_elements : Option CheckKind → ℕ
check_elements None = 0
check_elements (Some kind) = 1

-- the check type of a primary block with these flags, whose array has `count` elements
unfoldable pub primary_check_type : ℕ → ℕ → Head → Result (Option CheckKind) BundleFault
primary_check_type count flags head = do
  kind ← check_type head
  wanted (count == 8 + (if is_fragment flags then 2 else 0) + check_elements kind) kind BadCount

-- the scheme of an endpoint ID, which is an array of a scheme and a specific part (section 4.2.5.1)
unfoldable pub scheme : Head → Result Scheme BundleFault
scheme head = do
  number ← unsigned head
  if number == 1 then Ok Dtn else (if number == 2 then Ok Ipn else Err BadScheme)

-- the specific part of scheme dtn, by its major type and its value: the length of its name in
-- bytes, or `None` for dtn:none, which is the number 0
abbrev pub dtn_by : ℕ → Option ℕ → Result (Option ℕ) BundleFault
dtn_by major None = Err BadSpecificPart
dtn_by major (Some value) =
    if (major == 0) && (value == 0) then Ok None else
    (if major == 3 then wanted (nat_le value 1024) (Some value) EidTooLong else Err BadSpecificPart)

-- what the head after the scheme number of a dtn endpoint ID says: the length of its name, or
-- `None` for dtn:none
unfoldable pub dtn_part : Head → Result (Option ℕ) BundleFault
dtn_part head = dtn_by head.major head.value

-- The number of elements of the specific part of scheme ipn, by the result of `array` for its head.
-- An item that is no array has the fault `BadSpecificPart`.
abbrev pub ipn_count : Result ℕ BundleFault → Result ℕ BundleFault
ipn_count (Ok count) = wanted ((count == 2) || (count == 3)) count BadCount
ipn_count (Err fault) = Err BadSpecificPart

-- the number of elements of the specific part of scheme ipn: an array of two or three numbers
unfoldable pub ipn_part : Head → Result ℕ BundleFault
ipn_part head = ipn_count (array head)

-- The number of elements of a canonical block's array (section 4.3.2): five, and one more with a
-- check field. The payload block is still to come, so the break is a fault.
unfoldable pub block : Head → Result ℕ BundleFault
block head =
    if is_break head then Err NoPayloadLast else do
      count ← array head
      wanted (nat_le 5 count && nat_le count 6) count BadCount

-- The judgement of the head after 64 blocks. The result is always a fault: the fault that `block`
-- finds, or else `TooManyBlocks`.
unfoldable pub block_too_many : Head → Result ℕ BundleFault
block_too_many head = do
  count ← block head
  Err TooManyBlocks

-- whether a block of this type may have this number: the payload block (type 1) has number 1, no
-- other block has it, and 0 is the number of the primary block (section 4.1)
abbrev pub fits_type : ℕ → ℕ → Bool
fits_type type number = not (number == 0) && (if type == 1 then number == 1 else not (number == 1))

-- the number of a block of this type, after blocks with these `numbers`
unfoldable pub block_number : ℕ → List ℕ → Head → Result ℕ BundleFault
block_number type numbers head = do
  number ← unsigned head
  fitting ← wanted (fits_type type number) number BadBlockNumber
  wanted (not (list_any (λ earlier. earlier == number) numbers)) number RepeatedBlockNumber

-- the check type of a canonical block whose array has `count` elements
unfoldable pub block_check_type : ℕ → Head → Result (Option CheckKind) BundleFault
block_check_type count head = do
  kind ← check_type head
  wanted (count == 5 + check_elements kind) kind BadCount

-- the length of a check value in bytes (section 4.2.2)
abbrev pub check_width : CheckKind → ℕ
check_width Crc16 = 2
check_width Crc32 = 4

-- the length of a check value, which is a byte string as long as this kind asks (section 4.2.2)
unfoldable pub check_field : CheckKind → Head → Result ℕ BundleFault
check_field kind head = do
  count ← of_major WrongCheckKind 2 head
  wanted (count == check_width kind) count BadCheckLength

-- `true` for the break that closes the bundle, after the payload block, and else a fault
unfoldable pub closing : Head → Result Bool BundleFault
closing head = wanted (is_break head) true NoPayloadLast

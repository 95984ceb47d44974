-- The judgement of the heads that block data has beside those of link_bundle_heads `Rows`: a value,
-- or a fault.

use Rattle.std.specs.Prelude.{ℕ, Bool, true, false, not, ◌&&◌, ◌||◌, ◌==◌, nat_le, Result, Ok, Err, if◌then◌else◌}
use Rattle.link_cbor.specs.declared.head.Head.{Head}
use Rattle.link_bundle_types.specs.declared.fault.BundleFault.{BundleFault}
use Rattle.link_bundle_types.specs.declared.fault.BundleFault.TheVariants.{WrongKind, BadCount}
use Rattle.link_bundle_heads.specs.Rows.{◌>>=◌, wanted, valued, array}
use Rattle.link_bundle_data.specs.declared.values.Integer.{Integer}

-- An integer (RFC 8949 section 3.1). Major type 1 with the argument n is the number -1 - n.
unfoldable pub integer : Head → Result Integer BundleFault
integer head = do
  argument ← valued WrongKind ((head.major == 0) || (head.major == 1)) head.value
  Ok (record { negative = head.major == 1; argument = argument })

-- the Boolean of a simple value: 20 is false and 21 is true (RFC 8949 section 3.3)
abbrev pub boolean_of : ℕ → Result Bool BundleFault
boolean_of simple =
    if simple == 20 then Ok false else (if simple == 21 then Ok true else Err WrongKind)

-- A Boolean whose head has `size` bytes. It is one byte, f4 or f5. A head of three bytes or more
-- with the same value belongs to a float.
unfoldable pub boolean : ℕ → Head → Result Bool BundleFault
boolean size head = do
  simple ← valued WrongKind ((head.major == 7) && (size == 1)) head.value
  boolean_of simple

-- The Boolean of a status assertion (RFC 9171 section 6.1.1), whose head has `size` bytes. It has
-- to be true if a time follows it.
unfoldable pub assertion : Bool → ℕ → Head → Result Bool BundleFault
assertion has_time size head = do
  asserted ← boolean size head
  wanted (asserted || not has_time) asserted WrongKind

-- the number of elements of a status report (RFC 9171 section 6.1.1): four, or six for a fragment
unfoldable pub four_or_six : Head → Result ℕ BundleFault
four_or_six head = do
  count ← array head
  wanted ((count == 4) || (count == 6)) count BadCount

-- the number of status assertions, which is at least four
unfoldable pub four_or_more : Head → Result ℕ BundleFault
four_or_more head = do
  count ← array head
  wanted (nat_le 4 count) count BadCount

-- the number of elements of a status assertion: two if it has a time, and one if not
unfoldable pub one_or_two : Head → Result ℕ BundleFault
one_or_two head = do
  count ← array head
  wanted ((count == 1) || (count == 2)) count BadCount

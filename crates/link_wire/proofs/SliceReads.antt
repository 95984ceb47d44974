-- A byte that is read in a slice.
use Rattle.std.proofs.Common.{◌≡◌, ℕ, List, length, slice_index, arith}
use Rattle.byteorder.specs.Endian.{big_number}

-- a byte is the number that it is
pub as_byte : (field : List ℕ) → length field ≡ 1 → big_number 1 field ≡ slice_index field 0
as_byte field size = omega arith

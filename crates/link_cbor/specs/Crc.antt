-- The check values of bundles (RFC 9171 section 4.2.1): CRC-16/X-25 and CRC-32C, as a fold over all
-- bits.

use Rattle.std.specs.Prelude.{ℕ, zero, suc, ◌/◌, ◌%◌, ◌==◌, List, [], ◌∷◌, fold, if◌then◌else◌, bit_xor}
use Rattle.std.specs.List.{flat_map}
use Rattle.link_cbor.specs.declared.check.CheckKind.{CheckKind}
use Rattle.link_cbor.specs.declared.check.CheckKind.TheVariants.{Crc16, Crc32}

-- the polynomial (1021 in 16 bits, 1edc6f41 in 32 bits) with its bits in reverse order
abbrev pub polynomial : CheckKind → ℕ
polynomial Crc16 = 0x8408
polynomial Crc32 = 0x82f6_3b78

-- the initial register, which is also exclusive-ored into the final one
abbrev pub all_ones : CheckKind → ℕ
all_ones Crc16 = 0xffff
all_ones Crc32 = 0xffff_ffff

-- the lowest `count` bits of a number, the least significant first
unfoldable pub low_bits : ℕ → ℕ → List ℕ
low_bits zero number = []
low_bits (suc count) number = (number % 2) ∷ low_bits count (number / 2)

-- all bits of the bytes, with each byte's least significant bit first
unfoldable pub all_bits : List ℕ → List ℕ
all_bits bytes = flat_map (low_bits 8) bytes

-- The register after one more bit of the input. It is shifted right by one. If the bit shifted out
-- differs from the input's bit, the polynomial is exclusive-ored in.
unfoldable pub turn : CheckKind → ℕ → ℕ → ℕ
turn kind register bit =
    if register % 2 == bit then register / 2 else bit_xor (register / 2) (polynomial kind)

-- The register after these bytes, whose bits come one by one. Before them it is `register`.
unfoldable pub register_after : CheckKind → ℕ → List ℕ → ℕ
register_after kind register bytes = fold (turn kind) register (all_bits bytes)

-- The check value: the register begins with all ones, and after the last byte all its bits are
-- inverted.
unfoldable pub crc : CheckKind → List ℕ → ℕ
crc kind bytes = bit_xor (register_after kind (all_ones kind) bytes) (all_ones kind)

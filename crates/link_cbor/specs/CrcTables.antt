-- Relations: the tables of registers that a check looks bytes up in.

use Rattle.std.specs.Prelude.{◌≡◌, ℕ, ◌<◌, List, [], ◌∷◌, replicate, slice_index, slice_index_or}
use Rattle.link_cbor.specs.declared.check.CheckKind.{CheckKind}
use Rattle.link_cbor.specs.Crc.{register_after}

-- table k has, for each byte, the register after that byte and k zero bytes, from a register of
-- zero
abbrev pub AreCrcTables : CheckKind → List (List ℕ) → Type 0
AreCrcTables kind tables =
    (k byte : ℕ) → k < 16 → byte < 256
    → slice_index (slice_index_or tables k []) byte ≡ register_after kind 0 (byte ∷ replicate k 0)

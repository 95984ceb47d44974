-- A check that is fed in pieces, as numbers.
use Rattle.std.specs.Prelude.{◌≡◌, ℕ, ◌&&◌, nat_lt, ◌==◌, List, Option, Some, None, if◌then◌else◌}
use Rattle.link_cbor.specs.Crc.{all_ones, register_after}
use Rattle.link_cbor.specs.Head.{AreBytes}
use Rattle.link_cbor.specs.declared.check.{CheckKind.CheckKind, CheckKind.TheVariants.{Crc16, Crc32}}
use Rattle.link_bundle_writer.specs.NewBlocks.{check_type}
use Rattle.link_ffi_writer.specs.declared.check.KeptCheck.{KeptCheck}

-- the kind of check with this type code (RFC 9171 section 4.2.1), or `None` for 0, which is no
-- check, and for any other code
abbrev pub kind_by : (type : ℕ) → Option CheckKind
kind_by type = if type == 1 then Some Crc16 else if type == 2 then Some Crc32 else None

-- the kind of check that these numbers are, or `None`; the state has to fit the register of the
-- kind
abbrev pub kind_of : KeptCheck → Option CheckKind
kind_of check =
    if check.kind == 1 && nat_lt check.state 0x10000 then Some Crc16
    else if check.kind == 2 && nat_lt check.state 0x1_0000_0000 then Some Crc32
    else None

-- The numbers are those of a check of this kind to which exactly these bytes were fed.
pub record IsKeptCheckAt (kind : CheckKind) (check : KeptCheck) (bytes : List ℕ) : Type 0 where
  pub all_bytes : AreBytes bytes
  pub same_kind : check.kind ≡ check_type (Some kind)
  pub register : check.state ≡ register_after kind (all_ones kind) bytes

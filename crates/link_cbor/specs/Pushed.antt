-- Relations: the bytes that were pushed to a check.

use Rattle.std.specs.Prelude.{◌≡◌, ℕ, List}
use Rattle.link_cbor.specs.declared.check.{Check.Check, CheckKind.CheckKind}
use Rattle.link_cbor.specs.Crc.{all_ones, register_after}
use Rattle.link_cbor.specs.Head.{AreBytes}

-- the check is of this kind, and exactly these bytes were pushed to it
pub record IsCheckAt (kind : CheckKind) (check : Check) (bytes : List ℕ) : Type 0 where
  pub all_bytes : AreBytes bytes
  pub same_kind : check.kind ≡ kind
  pub register : check.register ≡ register_after kind (all_ones kind) bytes

-- The register of a check fits 16 or 32 bits. So numbers to which bytes were fed are those of a
-- check.

use Rattle.std.proofs.Common.{arith, ◌≡◌, ℕ, List}
use Rattle.std.specs.Prelude.{None}
use Rattle.std.proofs.lemmas.Bool.Decides.{nat_tests}
use Rattle.link_cbor.specs.declared.check.{CheckKind.CheckKind}
use Rattle.link_bundle_writer.proofs.CheckBack.{register_fits}
use Rattle.link_ffi_writer.specs.Checks.{kind_of, IsKeptCheckAt}
use Rattle.link_ffi_writer.specs.declared.check.KeptCheck.{KeptCheck}

pub is_kept : (kind : CheckKind) (check : KeptCheck) (bytes : List ℕ) → IsKeptCheckAt kind check bytes
    → kind_of check ≡ None → ⊥
is_kept kind check bytes fed none = grind (arith, nat_tests, register_fits kind bytes)

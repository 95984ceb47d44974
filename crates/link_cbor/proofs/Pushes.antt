-- The bytes of a check after more of them are pushed.

use Rattle.std.proofs.Common.{◌≡◌, ℕ, zero, suc, ◌+◌, ◌*◌, ◌<◌, List, ◌++◌, take, drop, sym, ap, ap₂, ◌∙◌, arith}
use Rattle.std.specs.List.{concat}
use Rattle.std.proofs.{Math.Seq.take-add, lemmas.List.Elements.All-append}
use Rattle.std.specs.Simd.{first_chunks}
use Rattle.link_cbor.specs.declared.check.{Check.Check, CheckKind.CheckKind}
use Rattle.link_cbor.specs.{Crc.{all_ones, register_after}, Head.AreBytes, Pushed.IsCheckAt}
use Rattle.link_cbor.proofs.CrcLaws.{register_after-append}

-- the register of the check has consumed more bytes
pub pushed_more : (kind : CheckKind) (old new : Check) (bytes more : List ℕ)
    → IsCheckAt kind old bytes → AreBytes more
    → new.kind ≡ old.kind → new.register ≡ register_after old.kind old.register more
    → IsCheckAt kind new (bytes ++ more)
pushed_more kind old new bytes more pushed all same went = record {
  all_bytes = All-append (λ byte. byte < 256) bytes more pushed.all_bytes all;
  same_kind = same ∙ pushed.same_kind;
  register = went ∙ ap₂ (λ k r. register_after k r more) pushed.same_kind pushed.register
      ∙ sym (register_after-append kind (all_ones kind) bytes more);
}

-- the blocks of a slice are its bytes without those after the last whole block
pub concat-first_chunks : (size count : ℕ) (bytes : List ℕ)
    → concat (first_chunks size count bytes) ≡ take (count * size) bytes
concat-first_chunks size zero bytes =
    let none : 0 ≡ 0 * size = omega arith in ap (λ n. take n bytes) none
concat-first_chunks size (suc count) bytes =
    let more : size + count * size ≡ suc count * size = omega arith in
    ap (λ rest. take size bytes ++ rest) (concat-first_chunks size count (drop size bytes))
    ∙ sym (take-add size (count * size) bytes)
    ∙ ap (λ n. take n bytes) more

use Rattle.std.proofs.Common.{◌≡◌, ◌<◌, ◌/◌, ◌%◌, [], get_or, sym, ap, ap₂, ◌∙◌, arith}
use Rattle.std.specs.Int.Bits.{bit_xor}
use Rattle.std.proofs.lemmas.List.Elements.{All-nil}
use Rattle.link_cbor.proofs.{CrcLaws.register_after-nil, LookUps.looked_up}
use Rattle.link_cbor.proofs.check.register.register_after.Goals as goal

pub returns : goal.returns
returns c kind rule =
    let register = c.args.register in
    let lowest : register / 1 % 256 ≡ register % 256 = omega arith in
    ap₂ (λ index left. bit_xor (get_or (get_or c.args.tables.now 0 []) index 0) left)
    (c.from.ensures ∙ ap (λ low. bit_xor low c.args.byte) (c.byte_of.ensures ∙ lowest))
    (sym (register_after-nil kind (register / 256)))
    ∙ sym (looked_up kind c.args.tables.now register c.args.byte [] rule (omega arith)
    (All-nil (λ byte. byte < 256))
    (omega arith))

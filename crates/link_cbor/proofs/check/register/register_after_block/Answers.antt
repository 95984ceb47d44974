use Rattle.std.proofs.Common.{◌≡◌, ◌<◌, ◌+◌, ◌-◌, ◌*◌, ◌/◌, ◌^◌, [], drop, get_or, sym, ap, ◌∙◌, arith}
use Rattle.std.specs.Int.Bits.{bit_xor}
use Rattle.std.proofs.lemmas.{List.drop_all, List.Elements.All-from_get_or}
use Rattle.link_cbor.specs.Crc.{register_after}
use Rattle.link_cbor.proofs.{CrcLaws.register_after-nil, LookUps.looked_up-before}
use Rattle.link_cbor.proofs.check.register.register_after_block.Goals as goal

pub loop-zeros-init : goal.loop-zeros-init
loop-zeros-init c kind rule =
    let nothing : c.args.register / 2 ^ 128 ≡ 0 = omega arith in
    ap (register_after kind (c.args.register / 2 ^ 128))
    (drop_all 16 c.args.block.now (omega arith))
    ∙ register_after-nil kind (c.args.register / 2 ^ 128)
    ∙ nothing

pub loop-zeros-preserved : goal.loop-zeros-preserved
loop-zeros-preserved c kind rule =
    let tables = c.args.tables.now in
    let block = c.args.block.now in
    let zeros = c.loop-zeros.zeros in
    let position : 16 - (zeros + 1) ≡ 15 - zeros = omega arith in
    ap (λ count. register_after kind (c.args.register / 2 ^ (8 * count)) (drop count block))
    position
    ∙ looked_up-before kind tables c.args.register block c.loop-zeros.sum zeros rule
    (All-from_get_or (λ byte. byte < 256) block 0 (λ i _. c.fits-block i)) c.told-block
    c.loop-zeros-test.true
    (c.loop-zeros.invariant kind rule)
    ∙ ap (λ index. bit_xor c.loop-zeros.sum (get_or (get_or tables zeros []) index 0))
    (sym (c.from.ensures ∙ ap (λ low. bit_xor low (get_or block (15 - zeros) 0)) c.byte_of.ensures))

pub returns : goal.returns
returns c kind rule =
    let all : 16 - c.loop-zeros.zeros ≡ 0 = omega arith in
    let register : c.args.register / 2 ^ (8 * 0) ≡ c.args.register = omega arith in
    sym (c.loop-zeros.invariant kind rule)
    ∙ ap (λ count. register_after kind (c.args.register / 2 ^ (8 * count))
    (drop count c.args.block.now)) all
    ∙ ap (λ r. register_after kind r c.args.block.now) register

use Rattle.std.proofs.Common.{◌++◌, [], ◌∷◌, take, get_or, sym, ap, ◌∙◌}
use Rattle.std.specs.List.{concat}
use Rattle.std.proofs.lemmas.{List.{append-nil, take_more}, List.Folds.concat-append}
use Rattle.link_cbor.specs.Crc.{register_after}
use Rattle.link_cbor.proofs.CrcLaws.{register_after-nil, register_after-append}
use Rattle.link_cbor.proofs.check.register.register_after_blocks.Goals as goal

pub loop-block-init : goal.loop-block-init
loop-block-init c kind rule = sym (register_after-nil kind c.args.register)

pub loop-block-preserved : goal.loop-block-preserved
loop-block-preserved c kind rule =
    let blocks = c.args.blocks.now in
    let so_far = take c.loop-block.block-index blocks in
    let block = get_or blocks c.loop-block.block-index [] in
    c.register_after_block-register.ensures kind rule
    ∙ ap (λ register. register_after kind register block) (c.loop-block.invariant kind rule)
    ∙ sym (register_after-append kind c.args.register (concat so_far) block)
    ∙ ap (register_after kind c.args.register)
    (ap (λ last. concat so_far ++ last) (sym (append-nil block))
    ∙ sym (concat-append so_far (block ∷ []))
    ∙ ap concat (sym (take_more blocks c.loop-block.block-index [] c.loop-block-test.true)))

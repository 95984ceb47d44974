use Rattle.std.proofs.Common.{◌<◌, ◌*◌, ◌/◌, ◌++◌, length, take, refl, ap, ◌∙◌, arith}
use Rattle.std.specs.List.{concat}
use Rattle.std.proofs.lemmas.List.{append_assoc, append-nil, take_all, take-append-drop}
use Rattle.std.proofs.lemmas.List.Elements.{All-take, All-from_get_or}
use Rattle.link_cbor.specs.Crc.{register_after}
use Rattle.link_cbor.proofs.{Joins.joined_more, Pushes.{pushed_more, concat-first_chunks}}
use Rattle.link_cbor.proofs.check.Check.push_slice.Goals as goal

pub loop-byte-init : goal.loop-byte-init
loop-byte-init c kind before pushed =
    let bytes = c.args.bytes.now in
    let whole = length bytes / 16 * 16 in
    rw append-nil
    (pushed_more kind c.args.self.now _ before (take whole bytes) pushed
    (All-take (λ byte. byte < 256) whole bytes
    (All-from_get_or (λ byte. byte < 256) bytes 0 (λ i _. omega (arith, c.type_inv.bytes i))))
    refl
    (c.register_after_blocks-self.ensures c.args.self.now.kind c.tables.ensures
    ∙ ap (register_after c.args.self.now.kind c.args.self.now.register)
    (ap concat c.as_chunks.ensures.front ∙ concat-first_chunks 16 (length bytes / 16) bytes)))

pub loop-byte-preserved : goal.loop-byte-preserved
loop-byte-preserved c kind before pushed =
    let rest = c.as_chunks.result.1.now in
    let start = before ++ take (length c.args.bytes.now / 16 * 16) c.args.bytes.now in
    rw (joined_more start rest c.loop-byte.byte-index c.loop-byte-test.true) at
    (c.push.ensures kind (start ++ take c.loop-byte.byte-index rest)
    (c.loop-byte.invariant kind before pushed))

pub returns : goal.returns
returns c kind before pushed =
    let bytes = c.args.bytes.now in
    let whole = length bytes / 16 * 16 in
    rw (
      take_all c.loop-byte.byte-index c.as_chunks.result.1.now c.loop-byte-test.false,
      c.as_chunks.ensures.back,
      append_assoc before (take whole bytes) _,
      take-append-drop whole bytes,
    ) at
    (c.loop-byte.invariant kind before pushed)

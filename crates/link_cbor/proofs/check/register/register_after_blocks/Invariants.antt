use Rattle.std.proofs.Common.{◌≡◌, take}
use Rattle.std.specs.List.{concat}
use Rattle.link_cbor.specs.{Crc.register_after, CrcTables.AreCrcTables}
use Rattle.link_cbor.specs.declared.check.CheckKind.{CheckKind}
use Rattle.link_cbor.proofs.check.register.register_after_blocks.Given as goal

abbrev pub invariant-loop-block : goal.invariant-loop-block
invariant-loop-block l =
    (kind : CheckKind) → AreCrcTables kind l.tables
    → l.register ≡ register_after kind l.fn.register (concat (take l.block-index l.blocks))

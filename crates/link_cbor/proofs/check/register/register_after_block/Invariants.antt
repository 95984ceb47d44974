use Rattle.std.proofs.Common.{◌≡◌, ◌-◌, ◌*◌, ◌/◌, ◌^◌, drop}
use Rattle.link_cbor.specs.{Crc.register_after, CrcTables.AreCrcTables}
use Rattle.link_cbor.specs.declared.check.CheckKind.{CheckKind}
use Rattle.link_cbor.proofs.check.register.register_after_block.Given as goal

-- the sum is the register after the last bytes, from the rest of the register before them
abbrev pub invariant-loop-zeros : goal.invariant-loop-zeros
invariant-loop-zeros l =
    (kind : CheckKind) → AreCrcTables kind l.tables
    → register_after kind (l.register / 2 ^ (8 * (16 - l.zeros))) (drop (16 - l.zeros) l.block)
    ≡ l.sum

use Rattle.std.proofs.Common.{ℕ, ◌*◌, ◌/◌, List, ◌++◌, length, take}
use Rattle.link_cbor.specs.{Pushed.IsCheckAt, declared.check.CheckKind.CheckKind}
use Rattle.link_cbor.proofs.check.Check.push_slice.Given as goal

abbrev pub invariant-loop-byte : goal.invariant-loop-byte
invariant-loop-byte l =
    (kind : CheckKind) (before : List ℕ) → IsCheckAt kind l.fn.self before
    → IsCheckAt kind l.self ((before ++ take (length l.bytes / 16 * 16) l.bytes)
    ++ take l.byte-index l.rest)

use Rattle.std.proofs.Common.{List, ℕ, ◌++◌, take}
use Rattle.link_rules_shared.specs.Prefix.{HasFirstFourBytes}
use Rattle.link_rules_shared.proofs.unread.Prefix.take_first.Given as goal

abbrev pub invariant-loop-byte : goal.invariant-loop-byte
invariant-loop-byte l =
    (seen : List ℕ) → HasFirstFourBytes l.fn.self seen → HasFirstFourBytes l.self (seen ++ take l.byte-index l.piece)

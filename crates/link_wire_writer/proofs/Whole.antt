-- A message, and the pieces of which it is written.
use Rattle.std.proofs.Common.{◌≡◌, ℕ, ◌≤◌, true, List, ◌++◌, length, arith, append_assoc, append-nil}
use Rattle.std.proofs.lemmas.Bool.{Decides.nat_tests}
use Rattle.link_wire.specs.declared.message.Fields.{Fields}
use Rattle.link_wire_writer.proofs.Messages.{empty_is}
use Rattle.link_wire_writer.specs.MessageBytes.{message_bytes, is_writable}
use Rattle.link_wire_writer.specs.Pieces.{front_of, tail_of}

-- the node ID and the items are short
pub record AreShort (node items : List ℕ) : Type 0 where
  pub node_short : length node ≤ 1024
  pub items_short : length items ≤ 65536

pub are_short : (fields : Fields) (node items : List ℕ) → is_writable fields node items ≡ true
    → AreShort node items
unfolding is_writable
are_short fields node items can = record {
  node_short = grind (arith, nat_tests);
  items_short = grind (arith, nat_tests);
}

pub message_parts : (fields : Fields) (node items : List ℕ) → is_writable fields node items ≡ true
    → message_bytes fields node items
    ≡ front_of fields node (length items) ++ items ++ tail_of fields
unfolding message_bytes is_writable
message_parts fields node items can =
    grind (arith, nat_tests, empty_is items, append_assoc {A = ℕ}, append-nil {A = ℕ})

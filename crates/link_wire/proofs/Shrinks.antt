-- After a message, fewer bytes are left than there were before it.
use Rattle.std.proofs.Common.{◌≡◌, ℕ, ◌+◌, ◌≤◌, List, length, Ok, arith}
use Rattle.link_wire.specs.{Part.{Part, number_at}, Message.message_at}
use Rattle.link_wire.proofs.{FieldReads.both_read, Within.{number_gone, within_fields}}

-- the part takes at least `less` bytes
pub record Shrinks {A : Type 0} (less : ℕ) (part : List ℕ → Part A) : Type 0 where
  pub by : (bytes : List ℕ) (value : A) (rest : List ℕ) → part bytes ≡ Ok (value, rest)
      → length rest + less ≤ length bytes

-- a message has at least its type byte
pub shrinks_message : Shrinks 1 message_at
unfolding message_at
shrinks_message = record {
  by = λ bytes message rest is.
      let kind = both_read (number_at 1 bytes) _ (message, rest) is in
      let gone = number_gone 1 bytes kind.0.0 kind.0.1 kind.1 in
      let fields = (within_fields kind.0.0).read kind.0.1 message rest kind.2 in
      omega (arith, gone, fields.1);
}

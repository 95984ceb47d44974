-- Relations: heads of messages that are whole in a window.
use Rattle.std.specs.Prelude.{ℕ, ◌<◌, ◌≤◌, List, [], length, take}
use Rattle.arrayvec.specs.ArrayVec.{ArrayVec}
use Rattle.link_wire.specs.Getting.{IsPart}
use Rattle.link_wire.specs.Message.{message_at}
use Rattle.link_wire.specs.MessageBuffer.{message_with}
use Rattle.link_wire.specs.declared.message.Fields.{Fields}

-- The first `size` bytes of the window are the head of a message with these numbers and no items.
-- The message has no node ID either, so `is` holds with every `node`.
pub record HasPlainHead (window : List ℕ) (fields : Fields) (size : ℕ) : Type 0 where
  pub some : 0 < size
  pub within : size ≤ length window
  pub is : (node : ArrayVec ℕ)
      → IsPart message_at (take size window) (message_with fields node (record { items = [] }))

-- Relations: segments in the middle of a transfer that lie whole in a window, with their data.
use Rattle.std.specs.Prelude.{◌≡◌, ℕ, ◌+◌, ◌<◌, ◌≤◌, List, [], ◌++◌, length, take, drop}
use Rattle.link_io.specs.Device.{Input}
use Rattle.link_wire.specs.Getting.{IsPart}
use Rattle.link_wire.specs.Message.{message_at}
use Rattle.link_wire.specs.Session.{left_of, GivenHead, PassedBytes}
use Rattle.link_wire.specs.declared.message.{Message.Message, Message.TheVariants.Segment}
use Rattle.link_wire.specs.declared.session.Session.{Session}

-- a segment without flags, and so without START and without items (section 5.2.2)
abbrev pub inner_segment : (id size : ℕ) → Message
inner_segment id size =
    Segment (record { flags = 0; id = id; items = record { items = [] }; length = size })

-- The window begins with an inner segment of the transfer `id`. Its head has 18 bytes. Its data has
-- `size` bytes, at least one, and all of the data is in the window.
pub record HasInnerSegment (id : ℕ) (window : List ℕ) (size : ℕ) : Type 0 where
  pub some : 0 < size
  pub within : 18 + size ≤ length window
  pub is : IsPart message_at (take 18 window) (inner_segment id size)

-- the data of a segment as `HasInnerSegment` has it: `size` bytes after the 18 bytes of its head
abbrev pub inner_bytes : (window : List ℕ) → (size : ℕ) → List ℕ
inner_bytes window size = take size (drop 18 window)

-- An inner segment of the transfer `id` was given. `mid` is the session between the head and the
-- data.
pub record PassedInner {R : Type 0} (look : R → Input) (old new : Session R) (history : List ℕ)
    (id : ℕ) (content : List ℕ) : Type 0 where
  pub mid : Session R
  pub offset : ℕ
  pub read : GivenHead look old mid history offset (inner_segment id (length content))
  pub some : 0 < length content
  pub gave : PassedBytes look mid new (history ++ read.given) content
  pub none : left_of new ≡ 0

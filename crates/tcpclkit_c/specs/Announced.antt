-- The length that the first segment of a transfer announces, as numbers.
use Rattle.std.specs.Prelude.{◌≡◌, ℕ, ◌==◌, ◌&&◌, Bool, Option, Some, None, Ok, Err}
use Rattle.arrayvec.specs.ArrayVec.{ArrayVec}
use Rattle.link_wire.specs.Part.{Part}
use Rattle.link_wire.specs.declared.message.Item.{Item}
use Rattle.link_transfer.specs.Announced.{announced_of}
use Rattle.link_transfer.specs.declared.announcement.Announced.{Announced}
use Rattle.link_transfer.specs.declared.announcement.Announced.TheVariants.{Absent, Total, Malformed}
use Rattle.link_ffi_numbers.specs.Recording.{has_list_at}
use Rattle.link_ffi_numbers.specs.Status.{status_ok, status_range}
use Rattle.link_ffi_numbers.specs.declared.recording.Message.{Message}
use Rattle.tcpclkit_c.specs.declared.announced.AnnouncedNumbers.{AnnouncedNumbers}

-- whether the message is an XFER_SEGMENT (kind 1) whose list of items lies in the `size` bytes
abbrev pub may_announce : (size : ℕ) → Message → Bool
may_announce size it = it.kind == 1 && has_list_at size it it.items_offset

-- an announcement as numbers; malformed items have kind 2 and no total
abbrev pub announced_shown : Announced → AnnouncedNumbers
announced_shown Absent = record { kind = 0; total = 0 }
announced_shown (Total total) = record { kind = 1; total = total }
announced_shown Malformed = record { kind = 2; total = 0 }

-- what the items of a list announce, or `None` if the bytes are no list
abbrev pub announced_part : Part (ArrayVec Item) → Option Announced
announced_part (Ok (items, rest)) = Some (announced_of items.items)
announced_part (Err fault) = None

-- The numbers of the announcement are returned, with TCPCLKIT_OK. If the bytes are no list, nothing
-- is written, and the status is TCPCLKIT_RANGE.
abbrev pub ReturnsAnnounced : Option Announced → (old new : AnnouncedNumbers) → ℕ → Type 0
ReturnsAnnounced None old new status = (status ≡ status_range) × (new ≡ old)
ReturnsAnnounced (Some announced) old new status =
    (status ≡ status_ok) × (new ≡ announced_shown announced)

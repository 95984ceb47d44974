-- The transfers of a recorded stream (RFC 9174 section 5.2): what a message and its data do to
-- them.
use Rattle.std.specs.Prelude.{ℕ, Bool, ◌&&◌, ◌==◌, List, [], ◌∷◌, ◌++◌, length, if◌then◌else◌}
use Rattle.link_wire.specs.Codes.{is_start, is_end}
use Rattle.link_wire.specs.declared.message.Message.{Message}
use Rattle.link_wire.specs.declared.message.Message.TheVariants.{Segment}
use Rattle.link_wire.specs.declared.message.SegmentHead.{SegmentHead}

-- A transfer: the head of its first segment, the joined data of its segments, and whether it is
-- closed. It is closed if its last segment has END and is whole (section 5.2.2).
pub record Transfer : Type 0 where
  pub first : SegmentHead
  pub content : List ℕ
  pub closed : Bool

-- whether the segment has END, and all of its data has come
abbrev pub closes : SegmentHead → List ℕ → Bool
closes head content = is_end head.flags && (length content == head.length)

-- The transfers, with more data for the latest; `closed` is whether that one is closed then. There
-- always is a latest one, since a segment that continues no transfer is refused or stray.
abbrev pub continued : List Transfer → List ℕ → Bool → List Transfer
continued [] content closed = []
continued (latest ∷ earlier) content closed =
    record { first = latest.first; content = latest.content ++ content; closed = closed } ∷ earlier

-- A segment with START begins a transfer, even if the latest was not closed (section 5.2.4). Any
-- other segment continues the latest transfer.
abbrev pub after_segment : List Transfer → SegmentHead → List ℕ → List Transfer
after_segment transfers head content =
    if is_start head.flags
    then record { first = head; content = content; closed = closes head content } ∷ transfers
    else continued transfers content (closes head content)

-- only segments change the transfers; no other message is about a transfer of this direction
abbrev pub after_message : List Transfer → Message → List ℕ → List Transfer
after_message transfers (Segment head) content = after_segment transfers head content
after_message transfers _ content = transfers

-- Rules of the lengths of segments and transfers (RFC 9174 sections 4.6 and 5.2).
use Rattle.std.specs.Prelude.{ℕ, ◌+◌, ◌&&◌, ◌==◌, nat_lt, nat_le, List, [], ◌∷◌, reverse, sum_by, Option, Some, None, if◌then◌else◌}
use Rattle.std.specs.Option.{option_and_then}
use Rattle.link_wire.specs.declared.message.{SegmentHead.SegmentHead, Message.Message}
use Rattle.link_transfer.specs.Announced.{announced_of}
use Rattle.link_transfer.specs.declared.announcement.Announced.{Announced}
use Rattle.link_transfer.specs.declared.{announcement.Announced.TheVariants.Total, joiner.Turn.Turn}
use Rattle.link_transfer.specs.declared.joiner.Turn.TheVariants as turn
use Rattle.link_session_rules.specs.Heads.{HeadWithOrder, segment_of}
use Rattle.link_session_rules.specs.declared.rule.MessageRule.{MessageRule}
use Rattle.link_session_rules.specs.declared.rule.MessageRule.TheVariants.{PeerSegment, PeerTransferAnnounced, PeerTransferLength}

-- ---- peer-segment

-- the rule that a segment breaks if its data is longer than this limit of the peer
abbrev pub if_longer : (limit : ℕ) → SegmentHead → Option MessageRule
if_longer limit segment =
    if nat_lt limit segment.length then Some (PeerSegment segment.length limit) else None

-- peer-segment: the data of a segment, also of a stray one, is no longer than the peer's Segment
-- MRU (sections 4.6 and 5.2), if this is known
unfoldable pub peer_segment : (limit : Option ℕ) → Message → Option MessageRule
peer_segment None message = None
peer_segment (Some limit) message = option_and_then (if_longer limit) (segment_of message)

-- ---- the segments of a transfer (section 5.2.2), the newest first

-- The segments before a segment in its transfer, by the turn of this segment: none for the first
-- one. The result is `None` for a stray segment. `so_far` are the segments of the latest transfer.
abbrev pub earlier_of : Option Turn → (so_far : List SegmentHead) → Option (List SegmentHead)
earlier_of (Some (turn.Begin abandoned last)) so_far = Some []
earlier_of (Some (turn.Continue last)) so_far = Some so_far
earlier_of _ so_far = None

-- The segments of the latest transfer, after one more message. `so_far` is this list before the
-- message. `earlier` are the segments before this segment in its transfer, and the new list begins
-- with this segment. A stray segment, or another message, changes nothing.
abbrev pub joined : Option SegmentHead → (earlier : Option (List SegmentHead))
    → (so_far : List SegmentHead) → List SegmentHead
joined (Some segment) (Some earlier) so_far = segment ∷ earlier
joined _ earlier so_far = so_far

-- the segments of the latest transfer, the newest first; the heads have the newest first, too
abbrev pub segments_back : List HeadWithOrder → List SegmentHead
segments_back [] = []
segments_back (head ∷ older) =
    let so_far = segments_back older in
    joined (segment_of head.message) (earlier_of head.turn so_far) so_far

-- the segments of the latest transfer, the newest first; the heads are in order
abbrev pub segments_of : List HeadWithOrder → List SegmentHead
segments_of heads = segments_back (reverse heads)

-- the first segment of a transfer that has `segment` and the segments before it: the last of
-- `earlier`, or `segment` if there is none
abbrev pub first_segment : SegmentHead → (earlier : List SegmentHead) → SegmentHead
first_segment segment [] = segment
first_segment segment (previous ∷ earlier) = first_segment previous earlier

-- ---- peer-transfer

-- The rule that a segment of `size` bytes breaks, if its transfer passes the limit with it.
-- `before` is how many bytes the transfer has before it.
abbrev pub if_passed : (limit before size : ℕ) → Option MessageRule
if_passed limit before size =
    if nat_le before limit && nat_lt limit (before + size)
    then Some (PeerTransferLength (before + size) limit)
    else None

-- the number of bytes of data in these segments
abbrev pub size_of : List SegmentHead → ℕ
size_of segments = sum_by (λ (segment : SegmentHead). segment.length) segments

-- this rule, if a segment is the first of its transfer; `None` if there are earlier segments
abbrev pub if_first : List SegmentHead → MessageRule → Option MessageRule
if_first [] rule = Some rule
if_first (previous ∷ earlier) rule = None

-- The rule that a segment breaks, if its transfer exceeds the limit. If the first segment announces
-- too much, only the first segment breaks it. Otherwise it is broken by the segment whose data
-- takes the transfer past the limit.
abbrev pub if_exceeded : (limit : ℕ) → Announced → SegmentHead → (earlier : List SegmentHead)
    → Option MessageRule
if_exceeded limit (Total total) segment earlier =
    if nat_lt limit total
    then if_first earlier (PeerTransferAnnounced total limit)
    else if_passed limit (size_of earlier) segment.length
if_exceeded limit _ segment earlier = if_passed limit (size_of earlier) segment.length

-- the length that the first segment of a transfer announces (section 5.2.5.1)
abbrev pub announced_first : SegmentHead → (earlier : List SegmentHead) → Announced
announced_first segment earlier = announced_of (first_segment segment earlier).items.items

-- The rule of the peer's Transfer MRU, if a segment with this turn breaks it after these heads. A
-- stray segment does not break it.
abbrev pub exceeded : (limit : ℕ) → List HeadWithOrder → Option Turn → SegmentHead
    → Option MessageRule
exceeded limit before turn segment =
    option_and_then
    (λ earlier. if_exceeded limit (announced_first segment earlier) segment earlier)
    (earlier_of turn (segments_of before))

-- peer-transfer: a transfer is no longer than the peer's Transfer MRU (section 4.6), if this is
-- known. A transfer breaks it once: with the length that it announces, or else with the segment
-- that takes its data beyond the limit.
unfoldable pub peer_transfer : (limit : Option ℕ) → List HeadWithOrder → HeadWithOrder
    → Option MessageRule
peer_transfer None before head = None
peer_transfer (Some limit) before head =
    option_and_then (exceeded limit before head.turn) (segment_of head.message)

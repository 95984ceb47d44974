-- A packed stream and the limits of the peer for which it was packed.
use Rattle.std.specs.{Prelude.{◌≡◌, ℕ, ◌<◌, ◌≤◌, ◌⊎◌, true, length, List, None}, List.All}
use Rattle.link_tool_option_types.specs.declared.pack.PackOptions.{PackOptions}
use Rattle.link_wire.specs.Stream.{Entry, reading_of, heads_of}
use Rattle.link_wire.specs.declared.message.{Message.Message, Message.TheVariants.Segment}
use Rattle.link_transfer.specs.Announced.{announced_of}
use Rattle.link_transfer.specs.declared.announcement.Announced.TheVariants.{Absent, Total}
use Rattle.link_tool_list.specs.Listing.{list_tool}
use Rattle.link_run_judge.specs.Transfers.{Transfer}
use Rattle.link_tools_laws.specs.Transfers.{ordered, transfers_of}

-- A segment has some data. It has no more than the peer takes (RFC 9174 section 4.6), and no more
-- than the 65,536 bytes that `pack` puts into one segment.
abbrev pub SegmentFits : PackOptions → Message → Type 0
SegmentFits options (Segment head) =
    (0 < head.length) × (head.length ≤ options.peer_segment) × (head.length ≤ 65536)
SegmentFits options message = Unit {0}

-- A transfer has no more data than the peer takes. If a length is announced (section 5.2.5.1), the
-- transfer is closed, and the length is the number of bytes of its data.
abbrev pub TransferFits : PackOptions → Transfer → Type 0
TransferFits options transfer =
    (length transfer.content ≤ options.peer_transfer)
    × ((announced_of transfer.first.items.items ≡ Absent)
    ⊎ ((transfer.closed ≡ true)
    × (announced_of transfer.first.items.items ≡ Total (length transfer.content))))

-- The stream is read without a fault, and its messages are in order. Its segments and transfers
-- keep the limits of the peer.
pub record IsStreamForPeer (options : PackOptions) (stream : List ℕ) : Type 0 where
  pub clean : (list_tool.whole stream).status ≡ 0
  pub in_order : ordered (heads_of (reading_of stream))
      ≡ record { heads = heads_of (reading_of stream); refused = None }
  pub segments : All (λ (entry : Entry). SegmentFits options entry.message)
      (reading_of stream).entries
  pub transfers : All (TransferFits options) (transfers_of (heads_of (reading_of stream)))

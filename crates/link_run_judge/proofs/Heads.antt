-- What a message and its data do to the transfers.
use Rattle.std.proofs.Common.{◌≡◌, ℕ, inl, inr, ◌⊎◌, true, false, List, ◌∷◌, refl}
use Rattle.link_wire.specs.{Codes.is_start, declared.message.Message.Message}
use Rattle.link_wire.specs.declared.message.Message.TheVariants as message
use Rattle.link_wire.specs.declared.message.SegmentHead.{SegmentHead}
use Rattle.link_transfer.specs.{Event.event_of, Order.is_segment}
use Rattle.link_run_judge.specs.Transfers.{Transfer, closes, continued, after_segment, after_message}

-- a message is a segment, or it is not
pub kind_of : (sent : Message) → ((head : SegmentHead) × (sent ≡ message.Segment head))
    ⊎ (is_segment (event_of sent) ≡ false)
kind_of (message.Segment head) = inl (head, refl)
kind_of sent = inr refl

-- a message other than a segment changes no transfer
pub transfers_same : (transfers : List Transfer) (sent : Message) (content : List ℕ)
    → is_segment (event_of sent) ≡ false → after_message transfers sent content ≡ transfers
transfers_same transfers (message.Segment head) content is = absurd (cc)
transfers_same transfers sent content is = refl

pub transfer_begins : (transfers : List Transfer) (head : SegmentHead) (content : List ℕ)
    → is_start head.flags ≡ true
    → after_segment transfers head content
    ≡ record { first = head; content = content; closed = closes head content } ∷ transfers
transfer_begins transfers head content starts = rw starts refl

pub transfer_continues : (transfers : List Transfer) (head : SegmentHead) (content : List ℕ)
    → is_start head.flags ≡ false
    → after_segment transfers head content ≡ continued transfers content (closes head content)
transfer_continues transfers head content starts = rw starts refl

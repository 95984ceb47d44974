-- The segments of the transfer that began last, with one more head.
use Rattle.std.proofs.Common.{◌≡◌, List, [], ◌∷◌, ◌++◌, Option, Some, None, option_map, refl, ap}
use Rattle.link_wire.specs.declared.message.SegmentHead.{SegmentHead}
use Rattle.link_session_rules.specs.Heads.{HeadWithOrder, segment_of}
use Rattle.link_session_rules.specs.Lengths.{earlier_of, joined, segments_back, segments_of}
use Rattle.link_session_rules.specs.Remembered.{so_far_of}
use Rattle.link_session_rules.specs.declared.lengths.TransferSoFar.{TransferSoFar}
use Rattle.link_session_rules.proofs.Pushes.{newest-push}

pub segments_of-push : (before : List HeadWithOrder) (head : HeadWithOrder)
    → segments_of (before ++ head ∷ [])
    ≡ joined (segment_of head.message) (earlier_of head.turn (segments_of before))
    (segments_of before)
segments_of-push before head = ap segments_back (newest-push before head)

-- the segments before a first one, and before a later one
pub none_before : (earlier : Option (List SegmentHead))
    → Some None ≡ option_map so_far_of earlier → earlier ≡ Some []
none_before None is = cc
none_before (Some []) is = refl
none_before (Some (segment ∷ more)) is = cc

pub record Before (earlier : Option (List SegmentHead)) (transfer : TransferSoFar) : Type 0 where
  pub previous : SegmentHead
  pub more : List SegmentHead
  pub is : earlier ≡ Some (previous ∷ more)
  pub same : Some transfer ≡ so_far_of (previous ∷ more)

pub some_before : (earlier : Option (List SegmentHead)) (transfer : TransferSoFar)
    → Some (Some transfer) ≡ option_map so_far_of earlier → Before earlier transfer
some_before None transfer is = cc
some_before (Some []) transfer is = cc
some_before (Some (segment ∷ more)) transfer is =
    record { previous = segment; more = more; is = refl; same = cc }

-- The rules that the length of a closed transfer breaks (RFC 9174 section 5.2.5.1). `first` is the
-- head of its first segment, and `size` the number of bytes of its data.
use Rattle.std.specs.Prelude.{ℕ, Bool, true, false, not, ◌&&◌, ◌==◌, List, [], ◌∷◌, codes, filter_map, Option, Some, None, if◌then◌else◌}
use Rattle.std.specs.List.{list_any}
use Rattle.link_wire.specs.Codes.{is_start, is_end, transfer_length}
use Rattle.link_wire.specs.declared.message.{Item.Item, SegmentHead.SegmentHead}
use Rattle.link_transfer.specs.Announced.{announced_of}
use Rattle.link_transfer.specs.declared.announcement.Announced.{Announced}
use Rattle.link_transfer.specs.declared.announcement.Announced.TheVariants.{Absent, Total, Malformed}
use Rattle.link_session_rules.specs.declared.opening.Opening.{Opening}
use Rattle.link_rules_shared.specs.declared.doubt.{Doubt.Doubt, Doubt.TheVariants.WholeBundle}
use Rattle.link_rules_shared.specs.declared.level.{Level.Level, Level.TheVariants.{Must, Should}}
use Rattle.link_session_rules.specs.declared.rule.TransferRule.{TransferRule}
use Rattle.link_session_rules.specs.declared.rule.TransferRule.TheVariants as rule

-- the rule that malformed Transfer Length items break
abbrev pub if_malformed : Announced → Option TransferRule
if_malformed Malformed = Some rule.LengthItem
if_malformed _ = None

-- length-item: a transfer has at most one Transfer Length item, with a value of 8 bytes
unfoldable pub length_item : (first : SegmentHead) → Option TransferRule
length_item first = if_malformed (announced_of first.items.items)

-- the rule that a transfer of `size` bytes breaks, if it announced another length; malformed items
-- announce none
abbrev pub if_different : Announced → (size : ℕ) → Option TransferRule
if_different (Total total) size =
    if total == size then None else Some (rule.LengthDiffers total size)
if_different _ size = None

-- length-differs: a transfer has the length that it announces
unfoldable pub length_differs : (first : SegmentHead) → (size : ℕ) → Option TransferRule
length_differs first size = if_different (announced_of first.items.items) size

-- whether there is a Transfer Length item, malformed or not
abbrev pub has_length_item : Announced → Bool
has_length_item Absent = false
has_length_item _ = true

-- length-of-one-segment: a transfer of one segment has no Transfer Length item, not even a
-- malformed one
unfoldable pub length_of_one_segment : (first : SegmentHead) → Option TransferRule
length_of_one_segment first =
    if (is_start first.flags && is_end first.flags)
    && has_length_item (announced_of first.items.items)
    then Some rule.LengthOfOneSegment
    else None

-- the rules that a closed transfer of `size` bytes breaks, in order
unfoldable pub broken_transfer_rules : (first : SegmentHead) → (size : ℕ) → List TransferRule
broken_transfer_rules first size =
    filter_map (λ judged. judged)
    (length_item first ∷ length_differs first size ∷ length_of_one_segment first ∷ [])

-- the name of a rule of transfers, as in its line
unfoldable pub transfer_name_of : TransferRule → List ℕ
transfer_name_of (rule.Unfinished size) = codes "unfinished"
transfer_name_of rule.LengthItem = codes "length-item"
transfer_name_of (rule.LengthDiffers announced size) = codes "length-differs"
transfer_name_of rule.LengthOfOneSegment = codes "length-of-one-segment"
transfer_name_of (rule.Bundle fault byte) = codes "bundle"
transfer_name_of (rule.NotRead fault byte) = codes "not-read"

-- How strictly it is forbidden that the data of a transfer is no bundle. An extension item of an
-- unknown type may permit it (section 5.2.5).
abbrev pub no_bundle_level : Doubt → Level
no_bundle_level WholeBundle = Should
no_bundle_level _ = Must

-- how strictly a rule of transfers is meant, by what an unknown part may have changed in the bundle
unfoldable pub transfer_level_of : Doubt → TransferRule → Level
transfer_level_of doubt (rule.Unfinished size) = Should
transfer_level_of doubt rule.LengthItem = Must
transfer_level_of doubt (rule.LengthDiffers announced size) = Must
transfer_level_of doubt rule.LengthOfOneSegment = Should
transfer_level_of doubt (rule.Bundle fault byte) = no_bundle_level doubt
transfer_level_of doubt (rule.NotRead fault byte) = Should

-- whether an extension item has a type other than the one of Transfer Length items, 0001 (section
-- 8.4), whatever its flags are
abbrev pub has_other_item : List Item → Bool
has_other_item items = list_any (λ (item : Item). not (item.kind == transfer_length)) items

-- what is kept of the first segment of a transfer: the length that it announces, whether it is the
-- only segment, and whether it has an item of a type other than Transfer Length
abbrev pub opening_of : SegmentHead → Opening
opening_of first = record {
  announced = announced_of first.items.items;
  single = is_start first.flags && is_end first.flags;
  has_other_item = has_other_item first.items.items;
}

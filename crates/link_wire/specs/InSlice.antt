-- Relations, but for ItemLies, MessageLies: what is read of a list of bytes at an offset, and where
-- it lies.
use Rattle.std.specs.Prelude.{◌≡◌, ℕ, ◌+◌, ◌≤◌, true, false, List, [], length, take, drop, Result, Ok, Err}
use Rattle.arrayvec.specs.ArrayVec.{ArrayVec}
use Rattle.link_wire.specs.Codes.{is_start}
use Rattle.link_wire.specs.Message.{item_head_at, total_at, items_of}
use Rattle.link_wire.specs.MessageBuffer.{message_with}
use Rattle.link_wire.specs.Part.{Part, ◌>>=◌}
use Rattle.link_wire.specs.declared.{fault.WireFault.WireFault, list.ItemHead.ItemHead}
use Rattle.link_wire.specs.declared.message.Fields.{Fields}
use Rattle.link_wire.specs.declared.message.Fields.TheVariants as fields
use Rattle.link_wire.specs.declared.message.{Item.Item, ListOf.ListOf}
use Rattle.link_wire.specs.declared.message.ListOf.TheVariants.{Session, Transfer}
use Rattle.link_wire.specs.declared.{message.Message.Message, slices.ItemAt.ItemAt}
use Rattle.link_wire.specs.declared.slices.{Span.Span, MessageAt.MessageAt}

-- the result as a `Part`: the bytes after the part, in place of the offset after it
abbrev pub read_part : {A : Type 0} → List ℕ → Result (A × ℕ) WireFault → Part A
read_part bytes (Ok (value, next)) = Ok (value, drop next bytes)
read_part bytes (Err fault) = Err fault

-- the bytes of a span
abbrev pub span_bytes : List ℕ → Span → List ℕ
span_bytes bytes span = take span.length (drop span.offset bytes)

-- `read_part` for a node ID, with the bytes of the ID in place of the span where they lie
abbrev pub read_node : List ℕ → Result (Span × ℕ) WireFault → Part (ArrayVec ℕ)
read_node bytes (Ok (span, next)) = Ok (record { items = span_bytes bytes span }, drop next bytes)
read_node bytes (Err fault) = Err fault

-- the head of an item: the item without its total
abbrev pub head_of : Item → ItemHead
head_of item = record { flags = item.flags; kind = item.kind; length = item.length }

-- `read_part` for an item's head, which the code returns as an item without its total
abbrev pub read_head : List ℕ → Result (Item × ℕ) WireFault → Part ItemHead
read_head bytes (Ok (item, next)) = Ok (head_of item, drop next bytes)
read_head bytes (Err fault) = Err fault

-- An item is read at the offset: its head, and then its value. `left` is the number of bytes that
-- its list has from the offset on.
pub record ItemLies (owner : ListOf) (bytes : List ℕ) (left offset : ℕ)
    (found : ItemAt) : Type 0 where
  pub head : item_head_at left (drop offset bytes) ≡ Ok (head_of found.item, drop found.value bytes)
  pub total : total_at owner found.item.kind found.item.length (drop found.value bytes)
      ≡ Ok (found.item.total, drop (found.value + found.item.length) bytes)
  pub within : found.value + found.item.length ≤ length bytes

-- the result of reading the item at the offset: where it lies, or its fault
abbrev pub LocatesItem : ListOf → List ℕ → (left offset : ℕ) → Result ItemAt WireFault → Type 0
LocatesItem owner bytes left offset (Ok found) = ItemLies owner bytes left offset found
LocatesItem owner bytes left offset (Err fault) =
    (item_head_at left (drop offset bytes)
    >>= λ (head, rest). total_at owner head.kind head.length rest)
    ≡ Err fault

-- The part is some items, and then the bytes from the offset `next` on. The items end where they
-- have to: `next` is `end`.
pub record ItemsEndAt (bytes : List ℕ) (end : ℕ) (part : Part (ArrayVec Item)) (next : ℕ) : Type 0 where
  pub items : ArrayVec Item
  pub is : part ≡ Ok (items, drop next bytes)
  pub within : next ≤ length bytes
  pub ends : next ≡ end

-- the result of reading the items of a list: the offset at which they end, which is `end`, or their
-- fault
abbrev pub LocatesItemsEnd : List ℕ → (end : ℕ) → Part (ArrayVec Item) → Result ℕ WireFault → Type 0
LocatesItemsEnd bytes end part (Ok next) = ItemsEndAt bytes end part next
LocatesItemsEnd bytes end part (Err fault) = part ≡ Err fault

-- Reading a list's items at the span yields these items, and ends at the offset `next`. The span
-- does not include the list's length.
pub record ItemsLieAt (owner : ListOf) (bytes : List ℕ) (span : Span) (items : ArrayVec Item)
    (next : ℕ) : Type 0 where
  pub reads : items_of owner span.length (drop span.offset bytes) ≡ Ok (items, drop next bytes)

-- The part is some items, and then the bytes from the offset `next` on. The items lie at the span,
-- which ends at `next`.
pub record ListLies (owner : ListOf) (bytes : List ℕ) (part : Part (ArrayVec Item)) (span : Span)
    (next : ℕ) : Type 0 where
  pub items : ArrayVec Item
  pub is : part ≡ Ok (items, drop next bytes)
  pub list : ItemsLieAt owner bytes span items next
  pub within : next ≤ length bytes
  pub ends : span.offset + span.length ≡ next

-- the result of reading a list as this part: where its items lie, or the fault
abbrev pub LocatesList : ListOf → List ℕ → Part (ArrayVec Item) → Result (Span × ℕ) WireFault
    → Type 0
LocatesList owner bytes part (Ok (span, next)) = ListLies owner bytes part span next
LocatesList owner bytes part (Err fault) = part ≡ Err fault

-- with START, the items of a segment lie at the span; without, it has none and the span is empty
pub record SegmentItemsLie (flags : ℕ) (bytes : List ℕ) (span : Span)
    (items : ArrayVec Item) : Type 0 where
  pub with_start : is_start flags ≡ true → (next : ℕ) × ItemsLieAt Transfer bytes span items next
  pub without_start : is_start flags ≡ false → (items ≡ record { items = [] }) × (span.length ≡ 0)

-- the items of a message lie at the span, if it is a SESS_INIT or a segment
abbrev pub MessageItemsLie : Fields → List ℕ → Span → ArrayVec Item → Type 0
MessageItemsLie (fields.SessInit interval segment_mru transfer_mru) bytes span items =
    (next : ℕ) × ItemsLieAt Session bytes span items next
MessageItemsLie (fields.Segment flags id size) bytes span items = SegmentItemsLie flags bytes span items
MessageItemsLie _ bytes span items = Unit {0}

-- In a SESS_INIT, the four bytes of the list's length lie between the node ID and the items. The
-- items end where the message ends.
pub record SessInitSpansFit (node items : Span) (end : ℕ) : Type 0 where
  pub node_ends : node.offset + node.length + 4 ≡ items.offset
  pub items_end : items.offset + items.length ≡ end

-- In a segment with START, the head ends after the items and the eight bytes of the data's length.
-- Without START, the span of the items is empty and at offset 0.
pub record SegmentSpansFit (flags : ℕ) (items : Span) (end : ℕ) : Type 0 where
  pub with_start : is_start flags ≡ true → items.offset + items.length + 8 ≡ end
  pub without_start : is_start flags ≡ false → items ≡ record { offset = 0; length = 0 }

-- The spans of the node ID and of the items fit the message, whose head ends at `end`. Only a
-- SESS_INIT and a segment have any.
abbrev pub SpansFit : Fields → (node items : Span) → (end : ℕ) → Type 0
SpansFit (fields.SessInit interval segment_mru transfer_mru) node items end =
    SessInitSpansFit node items end
SpansFit (fields.Segment flags id size) node items end = SegmentSpansFit flags items end
SpansFit _ node items end = Unit {0}

-- The part is the message that `found` describes: its numbers, and where its node ID and its items
-- lie. The bytes after the message begin at `found.end`.
pub record MessageLies (bytes : List ℕ) (part : Part Message) (found : MessageAt) : Type 0 where
  pub items : ArrayVec Item
  pub is : part ≡ Ok (
    message_with found.fields (record { items = span_bytes bytes found.node }) items,
    drop found.end bytes,
  )
  pub list : MessageItemsLie found.fields bytes found.items items
  pub spans : SpansFit found.fields found.node found.items found.end
  pub within : found.end ≤ length bytes

-- the result of reading a message as this part: where it lies, or its fault
abbrev pub LocatesMessageInSlice : List ℕ → Part Message → Result MessageAt WireFault → Type 0
LocatesMessageInSlice bytes part (Ok found) = MessageLies bytes part found
LocatesMessageInSlice bytes part (Err fault) = part ≡ Err fault

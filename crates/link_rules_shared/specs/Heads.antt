-- The heads of CBOR items that follow one another (RFC 8949 section 3). The bytes of a string are
-- no heads.

use Rattle.std.specs.Prelude.{ℕ, zero, suc, ◌+◌, ◌-◌, ◌^◌, Bool, not, ◌&&◌, ◌||◌, ◌==◌, nat_lt, List, [], ◌∷◌, get_or, Option, Some, None, unwrap_or, if◌then◌else◌}
use Rattle.link_cbor.specs.declared.head.Head.{Head}
use Rattle.link_cbor.specs.Head.{head_front, is_indefinite, whole_of}
use Rattle.link_rules_shared.specs.declared.unread.Unread.{Unread}

-- the number of bytes of a string, which follow its head; other items have none
abbrev pub content_size : Head → ℕ
content_size head = if (head.major == 2) || (head.major == 3) then unwrap_or head.value 0 else 0

-- the fewest bytes of a head with this value (sections 4.1 and 4.2.1): one for an indefinite length
-- or the break
abbrev pub shortest_size : Option ℕ → ℕ
shortest_size None = 1
shortest_size (Some value) =
    if nat_lt value 24 then 1 else
    (if nat_lt value (2 ^ 8) then 2 else
    (if nat_lt value (2 ^ 16) then 3 else
    (if nat_lt value (2 ^ 32) then 5 else 9)))

-- whether a head of `size` bytes is longer than its number needs
abbrev pub is_long : Head → ℕ → Bool
is_long head size = nat_lt (shortest_size head.value) size

-- whether a head, of any size, opens a byte string of indefinite length, 5f (section 3.2.3)
abbrev pub is_open_string : Head → ℕ → Bool
is_open_string head size = is_indefinite head && (head.major == 2)

-- whether a head, of any size, opens a text, an array or a map of indefinite length (section 3.2)
abbrev pub is_open_item : Head → ℕ → Bool
is_open_item head size = is_indefinite head && not (head.major == 2)

-- whether a head is tag 24 in two bytes, d8 18, which marks a byte string with encoded CBOR
-- (section 3.4.5.1)
abbrev pub is_encoded : Head → ℕ → Bool
is_encoded head size = (head.major == 6) && ((size == 2) && (unwrap_or head.value 0 == 24))

-- The offset of the first head that is sought. `offset` is the offset of the next byte. `inside`
-- more bytes belong to the latest head and to its string. No head is found after one that is
-- ill-formed or cut.
unfoldable pub first_from : (sought : Head → ℕ → Bool) → (inside offset : ℕ) → List ℕ → Option ℕ
first_from sought inside offset [] = None
first_from sought (suc inside) offset (byte ∷ bytes) = first_from sought inside (offset + 1) bytes
first_from sought zero offset (byte ∷ bytes) =
    elim (whole_of (head_front (byte ∷ bytes))) [
      | None ↦ None
      | Some (head, size) ↦ if sought head size then Some offset
          else first_from sought ((size - 1) + content_size head) (offset + 1) bytes
    ]

-- The offset of the first long head of a bundle. The bundle's own array head is passed over.
abbrev pub first_long : List ℕ → Option ℕ
first_long bytes = first_from is_long 1 0 bytes

-- whether bytes begin with tag 55799, which says that CBOR follows (section 3.4.6), and then 9f
abbrev pub is_tagged : List ℕ → Bool
is_tagged bytes =
    (get_or bytes 0 0 == 0xd9)
    && ((get_or bytes 1 0 == 0xd9) && ((get_or bytes 2 0 == 0xf7) && (get_or bytes 3 0 == 0x9f)))

-- Where a bundle has heads that RFC 9171 permits and this toolkit does not read. The bundle's own
-- array head is passed over.
abbrev pub unread_of : List ℕ → Unread
unread_of bytes = record {
  string = first_from is_open_string 1 0 bytes;
  item = first_from is_open_item 1 0 bytes;
  encoded = first_from is_encoded 1 0 bytes;
  tagged = is_tagged bytes;
}

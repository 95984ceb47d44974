-- The head of a CBOR item, as short as it can be (RFC 8949 sections 3 and 4.2.1).
use Rattle.std.specs.Prelude.{◌≡◌, ℕ, ◌+◌, ◌*◌, ◌^◌, ◌<◌, ◌≤◌, nat_lt, List, [], ◌∷◌, ◌++◌, length, Some, if◌then◌else◌}
use Rattle.link_cbor.specs.Head.{AreBytes, Whole, head_front}
use Rattle.link_writing.specs.Numbers.{be}

-- the first byte of a head: its major type, and the additional information
abbrev pub first_byte : (major information : ℕ) → ℕ
first_byte major information = major * 32 + information

-- the head of this major type whose argument is `value`
unfoldable pub head_bytes : (major value : ℕ) → List ℕ
head_bytes major value =
    if nat_lt value 24 then first_byte major value ∷ []
    else if nat_lt value (2 ^ 8) then first_byte major 24 ∷ be 1 value
    else if nat_lt value (2 ^ 16) then first_byte major 25 ∷ be 2 value
    else if nat_lt value (2 ^ 32) then first_byte major 26 ∷ be 4 value
    else first_byte major 27 ∷ be 8 value

-- an unsigned integer (major type 0), which is its head alone
abbrev pub unsigned : ℕ → List ℕ
unsigned value = head_bytes 0 value

-- the head of a byte string of `size` bytes (major type 2), without the bytes
abbrev pub byte_string : (size : ℕ) → List ℕ
byte_string size = head_bytes 2 size

-- the head of a text string of `size` bytes (major type 3), without the bytes
abbrev pub text_string : (size : ℕ) → List ℕ
text_string size = head_bytes 3 size

-- the head of an array of `count` elements (major type 4), without the elements
abbrev pub array : (count : ℕ) → List ℕ
array count = head_bytes 4 count

-- ---- laws

-- A law: a head is read as it was written, whatever bytes follow it. Major type 7 is left out,
-- since a bundle has only one head of it, the break.
abbrev pub HeadReadsBack : Type 0
HeadReadsBack =
    (major value : ℕ) (more : List ℕ) → major < 7 → value < 2 ^ 64 →
    head_front (head_bytes major value ++ more)
    ≡ Whole (record { major = major; value = Some value }) (length (head_bytes major value))

-- A law: no head with the same major type and value is shorter than `head_bytes`.
abbrev pub HeadIsShortest : Type 0
HeadIsShortest =
    (bytes : List ℕ) (major value size : ℕ) → AreBytes bytes →
    head_front bytes ≡ Whole (record { major = major; value = Some value }) size →
    length (head_bytes major value) ≤ size

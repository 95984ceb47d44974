-- The head that a list of bytes begins with (RFC 8949 section 3).

use Rattle.std.specs.Prelude.{ℕ, ◌+◌, ◌-◌, ◌*◌, ◌/◌, ◌%◌, ◌^◌, Bool, true, false, not, is_some, ◌&&◌, ◌||◌, ◌==◌, nat_lt, List, [], ◌∷◌, length, take, Option, Some, None, if◌then◌else◌, All, ◌<◌}
use Rattle.link_cbor.specs.declared.head.{Head.Head, HeadStep.HeadStep}
use Rattle.link_cbor.specs.declared.head.HeadStep.TheVariants.{More, Done, Bad}

-- each number is a byte, 0 to 255
abbrev pub AreBytes : List ℕ → Type 0
AreBytes bytes = All (λ byte. byte < 256) bytes

-- the number that the bytes encode, the most significant byte first
unfoldable pub big_endian : List ℕ → ℕ
big_endian [] = 0
big_endian (byte ∷ bytes) = byte * 256 ^ length bytes + big_endian bytes

-- What a list of bytes begins with. `Cut`: it ends inside a head. `IllFormed`: it begins with no
-- well-formed head. `Whole`: it begins with this head, which has this many bytes.
pub data HeadFront : Type 0 where
  Cut : HeadFront
  IllFormed : HeadFront
  Whole : Head → ℕ → HeadFront

-- A head whose argument is in `size` bytes after the first. It is ill-formed if it is a simple
-- value (major type 7) below 32 in two bytes (section 3.3). Every other encoding is a head, even if
-- it is longer than needed.
unfoldable pub with_argument : ℕ → ℕ → ℕ → HeadFront
with_argument major size argument =
    if (major == 7) && ((size == 1) && nat_lt argument 32) then IllFormed else
    Whole (record { major = major; value = Some argument }) (1 + size)

-- a head whose argument is the next `size` bytes
unfoldable pub argument_front : ℕ → ℕ → List ℕ → HeadFront
argument_front major size rest =
    if nat_lt (length rest) size then Cut
    else with_argument major size (big_endian (take size rest))

-- Additional information 31 is an indefinite length (major types 2 to 5) or the break (major type
-- 7). For other major types it is ill-formed.
unfoldable pub no_argument : ℕ → HeadFront
no_argument major =
    if nat_lt major 2 || major == 6 then IllFormed
    else Whole (record { major = major; value = None }) 1

-- A head by its major type, its additional information and the bytes after the first one (section
-- 3). Up to 23 the information is the argument. From 24 to 27 the argument is in the next 1, 2, 4
-- or 8 bytes. From 28 to 30 the head is ill-formed. With 31 there is no argument.
unfoldable pub front_by : ℕ → ℕ → List ℕ → HeadFront
front_by major information rest =
    if nat_lt information 24 then Whole (record { major = major; value = Some information }) 1 else
    (if nat_lt information 28 then argument_front major (2 ^ (information - 24)) rest else
    (if nat_lt information 31 then IllFormed else no_argument major))

-- the major type is the top three bits of the first byte, and the additional information its low
-- five bits
unfoldable pub head_front : List ℕ → HeadFront
head_front [] = Cut
head_front (first ∷ rest) = front_by (first / 32) (first % 32) rest

-- the head that the bytes begin with and its length, if it is whole
abbrev pub whole_of : HeadFront → Option (Head × ℕ)
whole_of Cut = None
whole_of IllFormed = None
whole_of (Whole head size) = Some (head, size)

-- whether a head begins a string, an array or a map of indefinite length (section 3.2)
abbrev pub is_indefinite : Head → Bool
is_indefinite head = not (is_some head.value) && not (head.major == 7)

-- The outcome of a scan. The argument is what the seen bytes begin with.
abbrev pub step_at : HeadFront → HeadStep
step_at Cut = More
step_at IllFormed = Bad
step_at (Whole head size) = Done head

-- the outcome of a scan that has seen these bytes
abbrev pub step_of : List ℕ → HeadStep
step_of bytes = step_at (head_front bytes)

-- what the `size` bytes of a scan with this outcome begin with; the inverse of `step_at`
abbrev pub front_by_step : HeadStep → ℕ → HeadFront
front_by_step More size = Cut
front_by_step (Done head) size = Whole head size
front_by_step Bad size = IllFormed

-- whether the bytes end inside a head, so that more are needed
abbrev pub is_cut : HeadFront → Bool
is_cut Cut = true
is_cut IllFormed = false
is_cut (Whole head size) = false

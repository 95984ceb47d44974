-- Pieces of a line's text.
use Rattle.std.specs.Prelude.{ℕ, ◌/◌, ◌%◌, ◌==◌, ◌&&◌, nat_le, not, Bool, if◌then◌else◌, List, [], ◌∷◌, ◌++◌, slice_index, codes, decimal}
use Rattle.std.specs.List.{flat_map}

-- the lower-case hexadecimal digit of a number below 16
abbrev pub hex_digit : ℕ → ℕ
hex_digit number = slice_index (codes "0123456789abcdef") number

-- a byte as two digits
unfoldable pub hex2 : ℕ → List ℕ
hex2 byte = hex_digit (byte / 16) ∷ hex_digit (byte % 16) ∷ []

-- a number of two bytes as four digits
unfoldable pub hex4 : ℕ → List ℕ
hex4 number = hex2 (number / 256) ++ hex2 (number % 256)

-- whether a byte stays as it is in an escaped text
unfoldable pub is_plain : ℕ → Bool
is_plain byte = nat_le 0x21 byte && (nat_le byte 0x7e && not (byte == 0x5c))

-- what a byte becomes in an escaped text: `\x` and two digits, if it is not plain
unfoldable pub escaped_byte : ℕ → List ℕ
escaped_byte byte = if is_plain byte then byte ∷ [] else codes "\\x" ++ hex2 byte

-- the text that shows these bytes, each plain or escaped
unfoldable pub escaped : List ℕ → List ℕ
escaped bytes = flat_map escaped_byte bytes

-- a label and a number
unfoldable pub number_text : List ℕ → ℕ → List ℕ
number_text label number = label ++ decimal number

-- the end of a line
abbrev pub newline : List ℕ
newline = 0x0a ∷ []

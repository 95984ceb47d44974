-- The characters of URIs, and registered names (RFC 3986).
use Rattle.std.specs.Prelude.{ℕ, Bool, true, not, ◌+◌, ◌&&◌, ◌||◌, ◌==◌, nat_eq, nat_le, List, [], ◌∷◌, length, map, take, drop, slice_index, Option, Some, None}
use Rattle.std.specs.{Char.{is_ascii_graphic, is_ascii_hexdigit, to_ascii_lowercase}, Cmp.Lexicographic.pointwise}
use Rattle.std.specs.List.{list_any, list_all, position}

-- the index of the first byte that is `mark`
abbrev pub first_of : (mark : ℕ) → List ℕ → Option ℕ
first_of mark bytes = position (λ byte. byte == mark) bytes

-- the bytes after the one at this index, or all without an index
abbrev pub after_at : Option ℕ → List ℕ → List ℕ
after_at None bytes = bytes
after_at (Some at) bytes = drop (at + 1) bytes

-- the bytes after the first byte that is `mark`, or all if there is none
abbrev pub after_mark : (mark : ℕ) → List ℕ → List ℕ
after_mark mark bytes = after_at (first_of mark bytes) bytes

-- the bytes before the one at this index, or all without an index
abbrev pub before_at : Option ℕ → List ℕ → List ℕ
before_at None bytes = bytes
before_at (Some at) bytes = take at bytes

-- the bytes before the first byte that is `mark`, or all if there is none
abbrev pub before_mark : (mark : ℕ) → List ℕ → List ℕ
before_mark mark bytes = before_at (first_of mark bytes) bytes

-- whether a text is this word, whatever the case of its letters
unfoldable pub is_word : (word text : List ℕ) → Bool
is_word word text = pointwise nat_eq (map to_ascii_lowercase text) (map to_ascii_lowercase word)

-- the bytes from hexadecimal 21 to 7e that are in no URI: `"`, `<`, `>`, `\`, `^`, a grave accent,
-- `{`, `|` and `}`
abbrev pub others : List ℕ
others = 0x22 ∷ 0x3c ∷ 0x3e ∷ 0x5c ∷ 0x5e ∷ 0x60 ∷ 0x7b ∷ 0x7c ∷ 0x7d ∷ []

-- the bytes that delimit the parts of a URI (section 2.2): `:`, `/`, `?`, `#`, `[`, `]`, `@`
abbrev pub delimiters : List ℕ
delimiters = 0x3a ∷ 0x2f ∷ 0x3f ∷ 0x23 ∷ 0x5b ∷ 0x5d ∷ 0x40 ∷ []

-- whether a byte may be in a URI (section 2)
unfoldable pub is_uri_byte : ℕ → Bool
is_uri_byte byte = is_ascii_graphic byte && not (list_any (λ other. other == byte) others)

-- whether the bytes begin with two hexadecimal digits, which spell an octet in an escape
abbrev pub begins_octet : List ℕ → Bool
begins_octet bytes =
    nat_le 2 (length bytes)
    && (is_ascii_hexdigit (slice_index bytes 0) && is_ascii_hexdigit (slice_index bytes 1))

-- whether two hexadecimal digits come after each `%` (section 2.1)
abbrev pub has_whole_escapes : List ℕ → Bool
has_whole_escapes [] = true
has_whole_escapes (byte ∷ rest) =
    (not (byte == 0x25) || begins_octet rest) && has_whole_escapes rest

-- whether bytes may be in a URI: each may be in one, and each `%` begins a whole escape
unfoldable pub are_uri_bytes : List ℕ → Bool
are_uri_bytes bytes = list_all is_uri_byte bytes && has_whole_escapes bytes

-- whether a byte may be in a registered name (section 3.2.2)
abbrev pub is_name_byte : ℕ → Bool
is_name_byte byte = is_uri_byte byte && not (list_any (λ other. other == byte) delimiters)

-- whether bytes are a registered name, which may be empty
unfoldable pub is_reg_name : List ℕ → Bool
is_reg_name bytes = list_all is_name_byte bytes && has_whole_escapes bytes

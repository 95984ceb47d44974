-- The syntax of node IDs, which are URIs (RFC 9174 section 4.6, RFC 9171 section 4.2.5.1).
use Rattle.std.specs.Prelude.{ℕ, Bool, true, false, not, ◌+◌, ◌&&◌, ◌||◌, ◌==◌, nat_eq, List, [], ◌∷◌, length, codes, take, drop, Option, Some, None, if◌then◌else◌}
use Rattle.std.specs.Char.{is_ascii_alphabetic, is_ascii_alphanumeric, is_ascii_digit}
use Rattle.std.specs.List.{list_all, starts_with}
use Rattle.link_rules_shared.specs.DtnNames.{is_dtn_name}
use Rattle.link_rules_shared.specs.Uri.{first_of, is_word, are_uri_bytes}

-- whether a byte may be in a scheme after its first: letters, digits, `+`, `-` and `.` (RFC 3986
-- section 3.1)
abbrev pub is_scheme_byte : ℕ → Bool
is_scheme_byte byte =
    is_ascii_alphanumeric byte || ((byte == 0x2b) || ((byte == 0x2d) || (byte == 0x2e)))

-- whether bytes are a scheme: a letter, and then only bytes that may be in a scheme
abbrev pub is_scheme : List ℕ → Bool
is_scheme [] = false
is_scheme (first ∷ rest) = is_ascii_alphabetic first && list_all is_scheme_byte rest

-- ---- what follows `dtn:` (RFC 9171 section 4.2.5.1.1): `none`, or a dtn name

-- whether bytes may follow `dtn:`
unfoldable pub is_dtn_part : List ℕ → Bool
is_dtn_part part = is_word (codes "none") part || is_dtn_name part

-- ---- what follows `ipn:` (section 4.2.5.1.2): two decimal numbers with a point between, or three.
-- What begins with `!` is not judged.

-- whether bytes are a decimal number: one digit or more
abbrev pub is_number : List ℕ → Bool
is_number digits = not (length digits == 0) && list_all is_ascii_digit digits

-- whether bytes are two decimal numbers with a point between, by the offset of their first point
abbrev pub are_two_at : Option ℕ → List ℕ → Bool
are_two_at None part = false
are_two_at (Some point) part = is_number (take point part) && is_number (drop (point + 1) part)

-- whether bytes are two decimal numbers with a point between
abbrev pub are_two : List ℕ → Bool
are_two part = are_two_at (first_of 0x2e part) part

-- whether bytes are three decimal numbers with points between, by the offset of their first point
abbrev pub are_three_at : Option ℕ → List ℕ → Bool
are_three_at None part = false
are_three_at (Some point) part = is_number (take point part) && are_two (drop (point + 1) part)

-- whether the part begins with `!`: then it is accepted, whatever follows
abbrev pub is_unjudged : List ℕ → Bool
is_unjudged part = starts_with nat_eq part (codes "!")

-- whether bytes may follow `ipn:`
unfoldable pub is_ipn_part : List ℕ → Bool
is_ipn_part part = is_unjudged part || (are_two part || are_three_at (first_of 0x2e part) part)

-- ---- a whole URI

-- whether the part after the colon has the syntax of its scheme; it is judged only in the schemes
-- dtn and ipn
abbrev pub is_of_scheme : (scheme part : List ℕ) → Bool
is_of_scheme scheme part =
    if is_word (codes "dtn") scheme then is_dtn_part part
    else (if is_word (codes "ipn") scheme then is_ipn_part part else true)

-- Whether bytes are a URI with the syntax of its scheme: a scheme, a colon, and more bytes or none
-- (RFC 3986 sections 2 and 3). The first argument is the offset of the first colon.
abbrev pub is_uri_at : Option ℕ → List ℕ → Bool
is_uri_at None node = false
is_uri_at (Some colon) node =
    is_scheme (take colon node)
    && (are_uri_bytes node && is_of_scheme (take colon node) (drop (colon + 1) node))

-- whether bytes are a URI with the syntax of its scheme
unfoldable pub is_uri : List ℕ → Bool
is_uri node = is_uri_at (first_of 0x3a node) node

-- The escaped text of a name shows each of its bytes.
use Rattle.std.proofs.Common.{◌≡◌, ◌≢◌, ℕ, ◌+◌, ◌-◌, ◌*◌, ◌/◌, ◌%◌, ◌<◌, ◌≤◌, true, false, cond, eqb, ltb, List, [], ◌∷◌, ◌++◌, ◌∙◌, length, get_or, take, drop, refl, ap, sym, append_assoc, append-nil, length-append, arith}
use Rattle.std.proofs.lemmas.{Bool.{agree_below_at, eqb-true, true≢false}, Bool.Decides.nat_tests, List.{flat_map_more, take_rest}, List.Elements.{All-head, All-tail}}
use Rattle.link_io.specs.Bytes.{IsByte, AreBytes}
use Rattle.link_report.specs.Text.{is_plain, hex_digit, hex2, escaped_byte, escaped}

-- ---- digits

digit_is : (n : ℕ) → n < 16 → hex_digit n ≡ cond (ltb n 10) (48 + n) (87 + n)
digit_is n few =
    eqb-true (hex_digit n) (cond (ltb n 10) (48 + n) (87 + n))
    (agree_below_at (λ k. eqb (hex_digit k) (cond (ltb k 10) (48 + k) (87 + k))) (λ _. true) 16 n refl few)

pub low_digit : (n : ℕ) → n < 10 → hex_digit n ≡ 48 + n
low_digit n few = digit_is n (omega arith) ∙ grind (arith, nat_tests)

pub high_digit : (n : ℕ) → 10 ≤ n → n < 16 → hex_digit n ≡ 87 + n
high_digit n from few = digit_is n few ∙ grind (arith, nat_tests)

pub ruleset digits = (low_digit, high_digit)

same_digit : (m n : ℕ) → m < 16 → n < 16 → hex_digit m ≡ hex_digit n → m ≡ n
same_digit m n m_few n_few is =
    let one = digit_is m m_few in
    let other = digit_is n n_few in
    grind (arith, nat_tests)

pub hex2_is : (high low first second : ℕ) → high < 16 → low < 16 → hex_digit high ≡ first
    → hex_digit low ≡ second → hex2 (16 * high + low) ≡ first ∷ second ∷ []
unfolding hex2
hex2_is high low first second high_few low_few high_is low_is =
    let one : (16 * high + low) / 16 ≡ high = omega arith in
    let other : (16 * high + low) % 16 ≡ low = omega arith in
    rw (one, other, high_is, low_is) refl

-- ---- one byte

pub plain_byte : (byte : ℕ) → is_plain byte ≡ true → escaped_byte byte ≡ byte ∷ []
unfolding escaped_byte
plain_byte byte is = rw is refl

pub other_byte : (byte : ℕ) → is_plain byte ≡ false → escaped_byte byte ≡ 92 ∷ 120 ∷ hex2 byte
unfolding escaped_byte
other_byte byte is = rw is refl

-- the byte before an escape is not plain
pub no_backslash : (byte : ℕ) → is_plain byte ≡ true → byte ≢ 92
unfolding is_plain
no_backslash byte is same = true≢false (sym is ∙ rw same refl)

pub plain_fits : (byte : ℕ) → is_plain byte ≡ true → byte < 256
unfolding is_plain
plain_fits byte is = grind (arith, nat_tests)

same_hex2 : (one other : ℕ) (after rest : List ℕ) → one < 256 → other < 256
    → hex2 one ++ after ≡ hex2 other ++ rest → (one ≡ other) × (after ≡ rest)
unfolding hex2
same_hex2 one other after rest one_fits other_fits is =
    let high : one / 16 ≡ other / 16 = same_digit (one / 16) (other / 16) (omega arith) (omega arith) cc in
    let low : one % 16 ≡ other % 16 = same_digit (one % 16) (other % 16) (omega arith) (omega arith) cc in
    (omega arith, cc)

-- a text begins with the text of at most one byte
pub same_byte : (one other : ℕ) (after rest : List ℕ) → one < 256 → other < 256
    → escaped_byte one ++ after ≡ escaped_byte other ++ rest → (one ≡ other) × (after ≡ rest)
same_byte one other after rest one_fits other_fits is =
    grind (
      arith,
      plain_byte one,
      plain_byte other,
      other_byte one,
      other_byte other,
      no_backslash one,
      no_backslash other,
      same_hex2 one other after rest one_fits other_fits,
    )

pub some_text : (byte : ℕ) → 0 < length (escaped_byte byte)
some_text byte = grind (arith, plain_byte byte, other_byte byte)

-- ---- a byte that a text begins with

-- a text that begins as an escape shows two digits
escape_shows : (text escape more : List ℕ) (byte : ℕ) → text ≡ 92 ∷ 120 ∷ escape
    → text ≡ escaped_byte byte ++ more → (is_plain byte ≡ false) × (escape ≡ hex2 byte ++ more)
escape_shows text escape more byte begins is =
    grind (arith, plain_byte byte, other_byte byte, no_backslash byte)

pub short_escape : (text escape : List ℕ) → text ≡ 92 ∷ 120 ∷ escape → length escape < 2
    → (byte : ℕ) (more : List ℕ) → text ≢ escaped_byte byte ++ more
unfolding hex2
short_escape text escape begins short byte more is =
    omega (arith, ap length (escape_shows text escape more byte begins is).1)

-- the first two digits
digits_of : (escape more : List ℕ) (byte : ℕ) → escape ≡ hex2 byte ++ more
    → hex2 byte ≡ get_or escape 0 0 ∷ get_or escape 1 0 ∷ []
unfolding hex2
digits_of escape more byte is = rw is refl

pub no_digits : (text escape : List ℕ) → text ≡ 92 ∷ 120 ∷ escape
    → ((byte : ℕ) → byte < 256 → hex2 byte ≢ get_or escape 0 0 ∷ get_or escape 1 0 ∷ [])
    → (byte : ℕ) (more : List ℕ) → byte < 256 → text ≢ escaped_byte byte ++ more
no_digits text escape begins none byte more fits is =
    none byte fits (digits_of escape more byte (escape_shows text escape more byte begins is).1)

pub needless_escape : (text escape : List ℕ) (shown : ℕ) → text ≡ 92 ∷ 120 ∷ escape → shown < 256
    → hex2 shown ≡ get_or escape 0 0 ∷ get_or escape 1 0 ∷ [] → is_plain shown ≡ true
    → (byte : ℕ) (more : List ℕ) → byte < 256 → text ≢ escaped_byte byte ++ more
needless_escape text escape shown begins shown_fits digits plain byte more fits is =
    let found = escape_shows text escape more byte begins is in
    let same = same_hex2 byte shown [] [] fits shown_fits (ap (λ (text : List ℕ). text ++ []) (digits_of escape more byte found.1 ∙ sym digits)) in
    true≢false (sym plain ∙ rw same.0 at found.0)

two_first : (escape : List ℕ) → 2 ≤ length escape
    → escape ≡ get_or escape 0 0 ∷ get_or escape 1 0 ∷ drop 2 escape
two_first [] enough = absurd (omega arith)
two_first (first ∷ []) enough = absurd (omega arith)
two_first (first ∷ second ∷ more) enough = refl

pub escape_is : (text escape : List ℕ) (byte : ℕ) → text ≡ 92 ∷ 120 ∷ escape → 2 ≤ length escape
    → hex2 byte ≡ get_or escape 0 0 ∷ get_or escape 1 0 ∷ [] → is_plain byte ≡ false
    → text ≡ escaped_byte byte ++ take (length escape - 2) (drop 2 escape)
escape_is text escape byte begins enough digits other =
    rw (other_byte byte other, digits, take_rest escape 2)
    (begins ∙ ap (λ (rest : List ℕ). 92 ∷ 120 ∷ rest) (two_first escape enough))

pub no_plain : (text rest : List ℕ) (first : ℕ) → text ≡ first ∷ rest → is_plain first ≡ false
    → ((after : List ℕ) → text ≢ 92 ∷ 120 ∷ after)
    → (byte : ℕ) (more : List ℕ) → text ≢ escaped_byte byte ++ more
no_plain text rest first begins other none byte more is =
    grind (arith, plain_byte byte, other_byte byte, none (hex2 byte ++ more))

pub no_text : (text : List ℕ) → length text ≡ 0 → (byte : ℕ) (more : List ℕ)
    → text ≢ escaped_byte byte ++ more
no_text text none byte more is =
    omega (arith, some_text byte, ap length is, length-append (escaped_byte byte) more)

-- ---- a name

escaped-push : (name : List ℕ) (byte : ℕ)
    → escaped (name ++ byte ∷ []) ≡ escaped name ++ escaped_byte byte
unfolding escaped
escaped-push name byte = sym (flat_map_more escaped_byte [] name byte)

-- one byte more
pub text_more : (text name rest more : List ℕ) (byte : ℕ) → text ≡ escaped name ++ rest
    → rest ≡ escaped_byte byte ++ more → text ≡ escaped (name ++ byte ∷ []) ++ more
text_more text name rest more byte is next =
    is ∙ ap (λ (rest : List ℕ). escaped name ++ rest) next
    ∙ sym (append_assoc (escaped name) (escaped_byte byte) more)
    ∙ ap (λ (front : List ℕ). front ++ more) (sym (escaped-push name byte))

pub text_less : (rest more : List ℕ) (byte : ℕ) → rest ≡ escaped_byte byte ++ more
    → length more < length rest
text_less rest more byte next =
    omega (arith, some_text byte, ap length next, length-append (escaped_byte byte) more)

-- what is left of another name, after a name
record IsRest (name other rest : List ℕ) : Type 0 where
  pub more : List ℕ
  pub are : AreBytes more
  pub whole : other ≡ name ++ more
  pub text : rest ≡ escaped more

rest_of : (name other rest : List ℕ) → AreBytes name → AreBytes other
    → escaped other ≡ escaped name ++ rest → IsRest name other rest
unfolding escaped
rest_of [] other rest names others is =
    record { more = other; are = others; whole = refl; text = sym is }
rest_of (byte ∷ name) [] rest names others is =
    absurd (omega (arith, some_text byte, ap length is, length-append (escaped_byte byte ++ escaped name) rest, length-append (escaped_byte byte) (escaped name)))
rest_of (byte ∷ name) (first ∷ other) rest names others is =
    let both = same_byte first byte (escaped other) (escaped name ++ rest)
    (All-head IsByte first other others) (All-head IsByte byte name names)
    (is ∙ append_assoc (escaped_byte byte) (escaped name) rest) in
    let later = rest_of name other rest (All-tail IsByte byte name names) (All-tail IsByte first other others) both.1 in
    record { more = later.more; are = later.are; whole = cc; text = later.text }

-- a name whose text goes on after that of another one has a next byte
pub record HasNext (name other rest : List ℕ) : Type 0 where
  pub byte : ℕ
  pub after : List ℕ
  pub is_byte : byte < 256
  pub text : rest ≡ escaped_byte byte ++ after
  pub longer : length name < length other

pub next_byte : (name other rest : List ℕ) → AreBytes name → AreBytes other
    → escaped other ≡ escaped name ++ rest → length rest ≢ 0 → HasNext name other rest
unfolding escaped
next_byte name other rest names others is some =
    let left = rest_of name other rest names others is in
    by left.more left.are left.whole left.text
  where
    by : (more : List ℕ) → AreBytes more → other ≡ name ++ more → rest ≡ escaped more → HasNext name other rest
    by [] are whole text = absurd (some (ap length text))
    by (byte ∷ more) are whole text = record {
      byte = byte;
      after = escaped more;
      is_byte = All-head IsByte byte more are;
      text = text;
      longer = omega (arith, ap length whole, length-append name (byte ∷ more));
    }

pub same_name : (one other : List ℕ) → AreBytes one → AreBytes other → escaped one ≡ escaped other
    → one ≡ other
unfolding escaped
same_name one other ones others is =
    let left = rest_of other one [] others ones (is ∙ sym (append-nil (escaped other))) in
    by left.more left.whole left.text
  where
    by : (more : List ℕ) → one ≡ other ++ more → [] ≡ escaped more → one ≡ other
    by [] whole text = whole ∙ append-nil other
    by (byte ∷ more) whole text =
        absurd (omega (arith, some_text byte, ap length text, length-append (escaped_byte byte) (escaped more)))

-- The line of a stream that is truncated is the line of no other fault, and of no transfer.
use Rattle.std.specs.Fmt.{decimal, digits, digits_onto, digit_glyph}
use Rattle.std.proofs.Common.{◌≡◌, ℕ, zero, suc, ◌+◌, ◌/◌, ◌%◌, ◌<◌, ◌==◌, Bool, true, false, List, [], ◌∷◌, ◌++◌, get_or, drop, codes, if◌then◌else◌, refl, ap, sym, ◌∙◌, append_assoc, mod-lt, lt-ltb, arith}
use Rattle.link_wire.specs.declared.fault.WireFault.{WireFault}
use Rattle.link_wire.specs.declared.fault.WireFault.TheVariants as wire
use Rattle.link_transfer.specs.declared.fault.OrderFault.{OrderFault}
use Rattle.link_transfer.specs.declared.fault.OrderFault.TheVariants as order
use Rattle.link_report.specs.declared.fault.Fault.{Fault}
use Rattle.link_report.specs.declared.fault.Fault.TheVariants.{Wire, Order}
use Rattle.link_report.specs.Fault.{wire_text, order_text, offset_text, place_text, fault_text}
use Rattle.link_report.specs.{Text.{number_text, newline}, Transfer.{extent_text, transfer_text}}
use Rattle.link_report.specs.declared.transfer.TransferEntry.{TransferEntry}
use Rattle.link_run.specs.Made.{is_lasting}
use Rattle.link_tools_laws.specs.Prefix.{IsPrefixOf}
use Rattle.link_tools_laws.proofs.SharedLines.{Lacks, lacks_both, lacks_by, after_same, Part, part_second, part_line}

-- ---- digits

lacks_if : (byte : ℕ) (test : Bool) (one other : List ℕ) → Lacks byte one → Lacks byte other
    → Lacks byte (if test then one else other)
lacks_if byte true one other first second = first
lacks_if byte false one other first second = second

-- the byte is no digit
module _ (byte : ℕ) (none : (n : ℕ) → n < 10 → 48 + n ≡ byte → ⊥) where
  digit_lacks : (n : ℕ) → n < 10 → digit_glyph false n ≡ byte → ⊥
  digit_lacks n few is = none n few (rw (lt-ltb n 10 few) at is)

  digits_lack : (count n : ℕ) (after : List ℕ) → Lacks byte after
      → Lacks byte (digits_onto count 10 false n after)
  digits_lack zero n after lacks = lacks
  digits_lack (suc count) n after lacks =
      let more : Lacks byte (digit_glyph false (n % 10) ∷ after) =
      (digit_lacks (n % 10) (mod-lt n (omega arith)), lacks) in
      lacks_if byte (n / 10 == 0) _ _ more (digits_lack count (n / 10) _ more)

  number_lacks : (n : ℕ) → Lacks byte (decimal n)
  unfolding digits
  number_lacks n = digits_lack 64 n [] tt

no_feed : (n : ℕ) → Lacks 10 (decimal n)
no_feed n = number_lacks 10 (λ digit few is. absurd (omega (arith, is))) n

no_colon : (n : ℕ) → Lacks 58 (decimal n)
no_colon n = number_lacks 58 (λ digit few is. absurd (omega (arith, is, few))) n

-- ---- the line of a fault at an offset

-- the whole line of a fault, whose words follow the offset
abbrev line_at : (offset : ℕ) → (words : List ℕ) → List ℕ
line_at offset words = codes "tcpclkit: " ++ ((offset_text offset ++ words) ++ newline)

-- the words of the line, the line feed, and what comes after it
words_after : (offset : ℕ) (words more : List ℕ)
    → drop 15 (line_at offset words ++ more)
    ≡ decimal offset ++ 58 ∷ 32 ∷ ((words ++ newline) ++ more)
unfolding offset_text number_text
words_after offset words more =
    let number = decimal offset in
    ap (λ (text : List ℕ). text ++ more)
    (append_assoc (number ++ 58 ∷ 32 ∷ []) words newline
    ∙ append_assoc number (58 ∷ 32 ∷ []) (words ++ newline))
    ∙ append_assoc number (58 ∷ 32 ∷ (words ++ newline)) more

-- one line begins the other only if their words are the same
same_words : (offset place : ℕ) (words other more : List ℕ)
    → (begins : IsPrefixOf (line_at offset words) (line_at place other ++ more))
    → (other ++ newline) ++ more ≡ (words ++ newline) ++ begins.0
same_words offset place words other more begins =
    let rest = begins.0 in
    let parts : decimal place ++ 58 ∷ 32 ∷ ((other ++ newline) ++ more)
    ≡ decimal offset ++ 58 ∷ 32 ∷ ((words ++ newline) ++ rest) =
    sym (words_after place other more) ∙ ap (drop 15) begins.1 ∙ words_after offset words rest in
    ap (drop 1) (after_same 58 _ _ _ _ (no_colon place) (no_colon offset) parts)

-- ---- the line of a stream that is truncated

abbrev pub cut_line : (offset : ℕ) → List ℕ
cut_line offset = fault_text (Wire offset wire.Truncated)

abbrev differ : (words other : List ℕ) → Type 0
differ words other =
    (one more : List ℕ) → (other ++ newline) ++ more ≡ (words ++ newline) ++ one → ⊥

byte_differs : (at : ℕ) (one other : List ℕ) → (get_or one at 0 ≡ get_or other at 0 → ⊥)
    → one ≡ other → ⊥
byte_differs at one other never same = never (ap (λ (text : List ℕ). get_or text at 0) same)

wire_differs : (fault : WireFault) → is_lasting fault ≡ true
    → differ (codes "truncated") (wire_text fault)
unfolding wire_text number_text
wire_differs wire.Truncated lasts one more same = absurd (cc)
wire_differs wire.TooManyItems lasts one more same =
    byte_differs 1 _ _ (λ is. absurd (omega (arith, is))) same
wire_differs fault lasts one more same =
    byte_differs 0 _ _ (λ is. absurd (omega (arith, is))) same

order_differs : (fault : OrderFault) → differ (codes "truncated") (order_text fault)
unfolding order_text
order_differs order.SecondSessInit one more same =
    byte_differs 0 _ _ (λ is. absurd (omega (arith, is))) same
order_differs fault one more same = byte_differs 0 _ _ (λ is. absurd (omega (arith, is))) same

module _ (offset : ℕ) where
  abbrev cut_words : List ℕ
  cut_words = codes "tcpclkit: " ++ (offset_text offset ++ codes "truncated")

  cut_is : cut_words ++ newline ≡ cut_line offset
  unfolding fault_text place_text wire_text
  cut_is = refl

  one_feed : Lacks 10 cut_words
  unfolding offset_text number_text
  one_feed =
      let number = codes "byte " ++ decimal offset in
      let words = number ++ codes ": " in
      lacks_both 10 (codes "tcpclkit: ") (words ++ codes "truncated")
      (lacks_by 10 (codes "tcpclkit: ") refl)
      (lacks_both 10 words (codes "truncated")
      (lacks_both 10 number (codes ": ")
      (lacks_both 10 (codes "byte ") (decimal offset) (lacks_by 10 (codes "byte ") refl)
      (no_feed offset))
      (lacks_by 10 (codes ": ") refl))
      (lacks_by 10 (codes "truncated") refl))

  part_words : (place : ℕ) (words more : List ℕ) → differ (codes "truncated") words
      → Part (cut_line offset) (line_at place words ++ more)
  part_words place words more differs = rw (← cut_is)
      (part_line cut_words _ one_feed (λ begins.
      differs begins.0 more (same_words offset place (codes "truncated") words more begins)))

  -- the line of any other fault of the wire
  pub part_wire : (place : ℕ) (fault : WireFault) (more : List ℕ) → is_lasting fault ≡ true
      → Part (cut_line offset) (fault_text (Wire place fault) ++ more)
  unfolding fault_text place_text
  part_wire place fault more lasts =
      part_words place (wire_text fault) more (wire_differs fault lasts)

  -- the line of a fault of the order
  pub part_order : (place : ℕ) (fault : OrderFault) (more : List ℕ)
      → Part (cut_line offset) (fault_text (Order place fault) ++ more)
  unfolding fault_text place_text
  part_order place fault more = part_words place (order_text fault) more (order_differs fault)

  -- the line of a transfer
  pub part_transfer : (entry : TransferEntry) (more : List ℕ)
      → Part (cut_line offset) (transfer_text entry ++ more)
  unfolding fault_text transfer_text extent_text number_text
  part_transfer entry more =
      part_second 116 99 114 _ _ (λ is. absurd (omega (arith, is))) (λ is. absurd (omega (arith, is)))

-- the line of a transfer, and that of a fault
pub transfer_part : (entry : TransferEntry) (fault : Fault) (more : List ℕ)
    → Part (transfer_text entry) (fault_text fault ++ more)
unfolding fault_text transfer_text extent_text number_text
transfer_part entry fault more =
    part_second 116 114 99 _ _ (λ is. absurd (omega (arith, is))) (λ is. absurd (omega (arith, is)))

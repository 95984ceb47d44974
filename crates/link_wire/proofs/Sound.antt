-- A spelling is read as what it spells, whatever follows it.
use Rattle.std.proofs.Common.{◌≡◌, ℕ, zero, suc, ◌+◌, ◌-◌, ◌^◌, ◌<◌, ◌≤◌, Bool, true, false, List, [], ◌∷◌, ◌++◌, length, Option, Ok, nat_lt, if◌then◌else◌, arith, refl, ap, sym, ◌∙◌, subst, append_assoc, append-nil, length-append}
use Rattle.std.proofs.lemmas.{List.nil_from_length, Bool.{le-ltb, ne_eqb}, Bool.Decides.nat_tests}
use Rattle.arrayvec.specs.ArrayVec.{ArrayVec}
use Rattle.byteorder.specs.Endian.{big_number}
use Rattle.byteorder.specs.Numbers.{big_number-reads_back, length-bytes_high_first}
use Rattle.link_wire.specs.Part.{Part, ◌>>=◌, bytes_at, number_at}
use Rattle.link_wire.proofs.FieldReads.{bytes_at-there, same_part}
use Rattle.link_wire.specs.Spelled.{BytesProperty, U32, These, ◌⨾◌, ContactSpelled, NodeSpelled, ItemHeadSpelled, ValueSpelled, ItemsSpelled, ListSpelled, SegmentItemsSpelled, HeadSpelled, Spelled}
use Rattle.link_wire.specs.declared.message.{ListOf.ListOf, ListOf.TheVariants.{Session, Transfer}}
use Rattle.link_wire.specs.{Codes.is_start, Limits.{longest_node, longest_list, most_items}}
use Rattle.link_wire.specs.Message.{contact_at, skipped_at, total_at, item_head_at, items_at, items_of, list_at, node_bytes_at, node_at, segment_items_at, segment_at, ack_at, refuse_at, sess_term_at, msg_reject_at, sess_init_at, fields_at, message_at, is_total_length, data_length}
use Rattle.link_wire.specs.declared.message.{Contact.Contact, Item.Item, Message.Message}
use Rattle.link_wire.specs.declared.message.Message.TheVariants.{SessInit, Segment, Ack, Refuse, Keepalive, SessTerm, MsgReject}
use Rattle.link_writing.specs.Numbers.{be}

-- the length of a spelling that has two parts
pub length_parts : {first second : BytesProperty} (bytes : List ℕ) (is : (first ⨾ second) bytes)
    → length bytes ≡ length is.before + length is.after
length_parts bytes is = ap length is.parts ∙ length-append is.before is.after

module _ {first second : BytesProperty} where
  -- two spellings, one after another
  pub both : (before after : List ℕ) → first before → second after
      → (first ⨾ second) (before ++ after)
  both before after one two = record { before = before; after = after; is_first = one; is_second = two; parts = refl }

-- the last spelling of a part, with nothing after it
pub last : (spelled : BytesProperty) (before : List ℕ) → spelled before → spelled (before ++ [])
last spelled before is = subst spelled (sym (append-nil before)) is

-- a spelling is read as this value, whatever follows it
pub record Only {A : Type 0} (part : List ℕ → Part A) (value : A)
    (spelled : BytesProperty) : Type 0 where
  pub by : (bytes : List ℕ) → spelled bytes → (more : List ℕ)
      → part (bytes ++ more) ≡ Ok (value, more)

module _ {A B : Type 0} (part : List ℕ → Part A) (next : A × List ℕ → Part B)
    {value : A} {given : B} where
  pub only_then : {first second : BytesProperty} → Only part value first
      → Only (λ bytes. next (value, bytes)) given second
      → Only (λ bytes. part bytes >>= next) given (first ⨾ second)
  only_then head rest = record {
    by = λ bytes is more.
        ap (λ all. part (all ++ more) >>= next) is.parts
        ∙ ap (λ all. part all >>= next) (append_assoc is.before is.after more)
        ∙ ap (λ read. read >>= next) (head.by is.before is.is_first (is.after ++ more))
        ∙ rest.by is.after is.is_second more;
  }

  pub only_last : {spelled : BytesProperty} → Only part value spelled
      → ((more : List ℕ) → next (value, more) ≡ Ok (given, more))
      → Only (λ bytes. part bytes >>= next) given spelled
  only_last field rest = record { by = λ bytes is more. ap (λ read. read >>= next) (field.by bytes is more) ∙ rest more }

module _ {A : Type 0} (part other : List ℕ → Part A) {value : A} {spelled : BytesProperty} where
  pub only_if : (test : Bool) → test ≡ true → Only part value spelled
      → Only (λ bytes. if test then part bytes else other bytes) value spelled
  only_if true is only = only
  only_if false is only = absurd (cc)

  pub only_else : (test : Bool) → test ≡ false → Only other value spelled
      → Only (λ bytes. if test then part bytes else other bytes) value spelled
  only_else true is only = absurd (cc)
  only_else false is only = only

-- a fact, and a spelling that is read as this value if the fact holds
only_given : {A : Type 0} {part : List ℕ → Part A} {value : A} {fact : Type 0} {spelled : BytesProperty}
    → (fact → Only part value spelled) → Only part value (λ bytes. fact × spelled bytes)
only_given only = record { by = λ bytes is more. (only is.0).by bytes is.1 more }

pub only_bytes : (content : List ℕ) (n : ℕ) → length content ≡ n
    → Only (bytes_at n) content (λ bytes. bytes ≡ content)
only_bytes content n size = record {
  by = λ bytes is more.
      ap (λ all. bytes_at n (all ++ more)) is ∙ ap (λ k. bytes_at k (content ++ more)) (sym size) ∙ bytes_at-there content more;
}

pub only_number : (k n : ℕ) → Only (number_at k) n (λ bytes. (n < 256 ^ k) × (bytes ≡ be k n))
unfolding number_at
only_number k n = only_given (λ fits.
    only_last _ _ (only_bytes (be k n) k (length-bytes_high_first k n)) (λ more.
    ap (λ m. Ok (m, more)) (ap (big_number k) (sym (append-nil (be k n)))
    ∙ big_number-reads_back k n [] fits)))

pub only_contact : (contact : Contact) → Only contact_at contact (ContactSpelled contact)
unfolding contact_at
only_contact contact = only_given (λ _.
    let header : List ℕ = 0x64 ∷ 0x74 ∷ 0x6e ∷ 0x21 ∷ 4 ∷ contact.flags ∷ [] in
    only_last _ _ (only_bytes header 6 refl) (λ more. refl))

pub only_node_bytes : (node : ArrayVec ℕ)
    → Only (node_bytes_at (length node.items)) node (These node.items)
unfolding node_bytes_at
only_node_bytes node = only_given (λ _.
    only_last _ _ (only_bytes node.items (length node.items) refl) (λ more. refl))

pub only_node : (node : ArrayVec ℕ) → Only node_at node (NodeSpelled node)
unfolding node_at
only_node node = only_given (λ short.
    only_then _ _ (only_number 2 (length node.items))
    (only_else _ _ (nat_lt longest_node (length node.items))
    (le-ltb longest_node (length node.items) short) (only_node_bytes node)))

-- the head of an item that ends within its list
pub only_item_head : (left flags kind size : ℕ) → 5 + size ≤ left
    → Only (item_head_at left) (record { flags = flags; kind = kind; length = size })
    (ItemHeadSpelled flags kind size)
unfolding item_head_at
only_item_head left flags kind size fits =
    only_else _ _ (nat_lt left 5) (le-ltb left 5 (omega arith))
    (only_then _ _ (only_number 1 flags)
    (only_then _ _ (only_number 2 kind)
    (only_last _ _ (only_number 2 size) (λ more.
    let within : nat_lt (left - 5) size ≡ false = le-ltb (left - 5) size (omega arith) in rw within refl))))

pub has_total_size : (owner : ListOf) (kind size : ℕ) → is_total_length owner kind size ≡ true → size ≡ 8
has_total_size Session kind size is = absurd (cc)
has_total_size Transfer kind size is = grind (arith, nat_tests)

module _ (owner : ListOf) (kind size : ℕ) (total : Option ℕ) where
  value_by : (test : Bool) → is_total_length owner kind size ≡ test
      → Only (total_at owner kind size) total (ValueSpelled owner kind size total)
  unfolding total_at number_at skipped_at
  value_by true known = record {
    by = λ value is more.
        let eight = is.1 ∙ has_total_size owner kind size known in
        rw (known, (only_bytes value 8 eight).by value refl more, is.2, known) refl;
  }
  value_by false known = record {
    by = λ value is more.
        rw (known, (only_bytes value size is.1).by value refl more, is.2, known) refl;
  }

  pub only_value : Only (total_at owner kind size) total (ValueSpelled owner kind size total)
  only_value = value_by (is_total_length owner kind size) refl

-- the head of an item has five bytes
pub length_item_head : (flags kind size : ℕ) (bytes : List ℕ)
    → ItemHeadSpelled flags kind size bytes → length bytes ≡ 5
length_item_head flags kind size bytes is =
    let whole = length_parts bytes is in
    let after = length_parts is.after is.is_second in
    let one : length is.before ≡ 1 = ap length is.is_first.1 in
    let two : length is.is_second.before ≡ 2 = ap length is.is_second.is_first.1 in
    let three : length is.is_second.after ≡ 2 = ap length is.is_second.is_second.1 in
    omega arith

-- items that fill `left` bytes of a list
abbrev pub ItemsFilling : ListOf → List Item → ℕ → BytesProperty
ItemsFilling owner items left bytes = ItemsSpelled owner items bytes × (length bytes ≡ left)

module _ (owner : ListOf) where
  pub only_items : (items : List Item) (room left : ℕ) → length items ≤ room
      → Only (items_at owner room left) items (ItemsFilling owner items left)
  unfolding items_at
  only_items [] zero left few = record { by = λ bytes is more. let none : left ≡ 0 = sym is.1 ∙ ap length is.0 in rw (none, is.0) refl }
  only_items [] (suc room) left few = record { by = λ bytes is more. let none : left ≡ 0 = sym is.1 ∙ ap length is.0 in rw (none, is.0) refl }
  only_items (item ∷ items) zero left few = absurd (omega arith)
  only_items (item ∷ items) (suc room) left few = record {
    by = λ bytes is more.
        let all = length_parts bytes is.0 in
        let one = length_parts is.0.before is.0.is_first in
        let head = length_item_head item.flags item.kind item.length is.0.is_first.before is.0.is_first.is_first in
        let value : length is.0.is_first.after ≡ item.length = is.0.is_first.is_second.1 in
        let size : length is.0.after ≡ left - (5 + item.length) = omega arith in
        let fits : 5 + item.length ≤ left = omega arith in
        let some : 0 < left = omega arith in
        let only : Only (items_at owner (suc room) left) (item ∷ items) (ItemHeadSpelled item.flags item.kind item.length ⨾ ValueSpelled owner item.kind item.length item.total ⨾ ItemsFilling owner items (left - (5 + item.length))) =
        only_else _ _ _ (ne_eqb left 0 (λ none. absurd (omega arith)))
        (only_then _ _ (only_item_head left _ _ _ fits) (only_then _ _ (only_value owner _ _ _)
        (only_last _ _ (only_items items room _ (omega arith)) (λ rest. refl)))) in
        let first = is.0.is_first.before in
        let second = is.0.is_first.after in
        let third = is.0.after in
        rw (is.0.parts, is.0.is_first.parts, append_assoc first second third)
        (only.by (first ++ (second ++ third)) (both first (second ++ third) is.0.is_first.is_first
        (both second third is.0.is_first.is_second (is.0.is_second, size))) more);
  }

  only_items_of : (items : ArrayVec Item) (left : ℕ) → length items.items ≤ most_items
      → Only (items_of owner left) items (ItemsFilling owner items.items left)
  unfolding items_of
  only_items_of items left few = only_last _ _ (only_items items.items most_items left few) (λ rest. refl)

  pub only_list : (items : ArrayVec Item) → Only (list_at owner) items (ListSpelled owner items)
  unfolding list_at
  only_list items = record {
    by = λ bytes is more.
        let size = length is.body in
        let body : ItemsFilling owner items.items size is.is_list.after = rw is.is_list.is_second.1 (is.is_body, refl) in
        let only : Only (list_at owner) items (U32 size ⨾ ItemsFilling owner items.items size) =
        only_then _ _ (only_number 4 size) (only_else _ _ (nat_lt longest_list size) (le-ltb longest_list size is.short) (only_items_of items size is.few)) in
        only.by bytes (record { before = is.is_list.before; after = is.is_list.after; is_first = is.is_list.is_first; is_second = body; parts = is.is_list.parts }) more;
  }

only_segment_items : (flags : ℕ) (items : ArrayVec Item) (start : Bool) → is_start flags ≡ start
    → Only (segment_items_at flags) items (SegmentItemsSpelled start items)
unfolding segment_items_at
only_segment_items flags items true known = only_if _ _ (is_start flags) known (only_list Transfer items)
only_segment_items flags items false known = only_else _ _ (is_start flags) known (record {
  by = λ bytes is more.
      let from : List Item → ArrayVec Item = λ xs. record { items = xs } in
      let none : items ≡ record { items = [] } = ap from is.0 in rw (is.1, none) refl;
})

-- the head of a message is read as that message, whatever follows it
pub only_message : (message : Message) → Only message_at message (HeadSpelled message)
unfolding message_at fields_at segment_at ack_at refuse_at sess_term_at msg_reject_at sess_init_at
only_message (Segment head) =
    only_then _ _ (only_number 1 1)
    (only_then _ _ (only_number 1 head.flags)
    (only_then _ _ (only_number 8 head.id)
    (only_then _ _ (only_segment_items head.flags head.items (is_start head.flags) refl)
    (only_last _ _ (only_number 8 head.length) (λ more. refl)))))
only_message (Ack flags id size) =
    only_then _ _ (only_number 1 2)
    (only_then _ _ (only_number 1 flags)
    (only_then _ _ (only_number 8 id) (only_last _ _ (only_number 8 size) (λ more. refl))))
only_message (Refuse reason id) =
    only_then _ _ (only_number 1 3)
    (only_then _ _ (only_number 1 reason) (only_last _ _ (only_number 8 id) (λ more. refl)))
only_message Keepalive = only_last _ _ (only_number 1 4) (λ more. refl)
only_message (SessTerm flags reason) =
    only_then _ _ (only_number 1 5)
    (only_then _ _ (only_number 1 flags) (only_last _ _ (only_number 1 reason) (λ more. refl)))
only_message (MsgReject reason header) =
    only_then _ _ (only_number 1 6)
    (only_then _ _ (only_number 1 reason) (only_last _ _ (only_number 1 header) (λ more. refl)))
only_message (SessInit keepalive segment_mru transfer_mru node items) =
    only_then _ _ (only_number 1 7)
    (only_then _ _ (only_number 2 keepalive)
    (only_then _ _ (only_number 8 segment_mru)
    (only_then _ _ (only_number 8 transfer_mru)
    (only_then _ _ (only_node node)
    (only_last _ _ (only_list Session items) (λ more. refl))))))

-- a message and its data, before any other bytes
pub only_spelled : (message : Message) (content bytes : List ℕ) → Spelled message content bytes
    → (more : List ℕ) → message_at (bytes ++ more) ≡ Ok (message, content ++ more)
only_spelled message content bytes is more =
    ap (λ all. message_at (all ++ more)) is.1.parts
    ∙ ap message_at (append_assoc is.1.before is.1.after more)
    ∙ (only_message message).by is.1.before is.1.is_first (is.1.after ++ more)
    ∙ ap (λ all. Ok (message, all ++ more)) is.1.is_second.1

-- No bytes spell two messages, and no spelling of a message begins another.
pub one_spelling : (a x : List ℕ) (m : Message) (d : List ℕ) (n : Message) (e : List ℕ)
    → Spelled m d a → Spelled n e (a ++ x) → (x ≡ []) × (m ≡ n) × (d ≡ e)
one_spelling a x m d n e first second =
    let one : message_at (a ++ x) ≡ Ok (m, d ++ x) = only_spelled m d a first x in
    let other : message_at (a ++ x) ≡ Ok (n, e ++ []) = ap message_at (sym (append-nil (a ++ x))) ∙ only_spelled n e (a ++ x) second [] in
    let same = same_part (sym one ∙ other) in
    let message : m ≡ n = same.0 in
    let content : d ++ x ≡ e ++ [] = same.1 in
    let size : length x ≡ 0 = omega (arith, ap length content, length-append d x, length-append e [], ap data_length message, first.0, second.0) in
    let none : x ≡ [] = nil_from_length x size in
    (none, message, sym (append-nil d) ∙ ap (λ all. d ++ all) (sym none) ∙ content ∙ append-nil e)

-- A message that was written is read as it was.
use Rattle.std.proofs.Common.{◌≡◌, ◌≤◌, ℕ, true, List, [], ◌++◌, length, Result, Ok, Err, is_ok, nat_le, if◌then◌else◌, arith, refl, append_assoc}
use Rattle.std.proofs.lemmas.{List.nil_from_length, Bool.{and_parts, le-ltb}, Bool.Decides.nat_tests}
use Rattle.arrayvec.specs.ArrayVec.{ArrayVec}
use Rattle.link_wire.proofs.{FieldReads.bytes_at-there, Sound.{both, only_message}}
use Rattle.link_wire.specs.{Codes.is_start, Limits.{longest_node, longest_list}}
use Rattle.link_wire.specs.Message.{node_at, node_bytes_at, items_of, list_at, segment_items_at, segment_at, sess_init_at, fields_at, message_at}
use Rattle.link_wire.specs.MessageBuffer.{segment_items}
use Rattle.link_wire.specs.declared.fault.WireFault.{WireFault}
use Rattle.link_wire.specs.declared.message.{Item.Item, ListOf.ListOf}
use Rattle.link_wire.specs.declared.message.ListOf.TheVariants.{Session, Transfer}
use Rattle.link_wire.specs.declared.message.Fields.TheVariants.{SessInit, Segment, Ack, Refuse, Keepalive, SessTerm, MsgReject}
use Rattle.link_wire.specs.declared.message.Message.TheVariants as wire
use Rattle.link_writing.specs.Numbers.{be}
use Rattle.link_wire_writer.proofs.Readings.{number_there, items_there}
use Rattle.link_wire_writer.specs.MessageBytes.{node_bytes, list_bytes, segment_list_bytes, message_bytes, are_items, is_empty, is_writable}
use Rattle.link_wire_writer.specs.ReadsBack.{items_or_none, MessageReadsBack}

-- items that were read
was_read : (read : Result (ArrayVec Item × List ℕ) WireFault) → is_ok read ≡ true
    → (rest : List ℕ) × (read ≡ Ok (items_or_none read, rest))
was_read (Ok (items, rest)) is = (rest, refl)
was_read (Err fault) is = absurd (cc)

list_there : (owner : ListOf) (items more : List ℕ) → are_items owner items ≡ true
    → list_at owner (list_bytes items ++ more)
    ≡ Ok (items_or_none (items_of owner (length items) items), more)
unfolding list_at
list_there owner items more are =
    let tests = and_parts (nat_le (length items) longest_list) _ are in
    let short : length items ≤ longest_list = grind (arith, nat_tests, tests.0) in
    let read = was_read (items_of owner (length items) items) tests.1 in
    rw (
      number_there 4 (length items) (items ++ more) (omega (arith, short)),
      le-ltb longest_list (length items) short,
    ) (items_there owner items (items_or_none (items_of owner (length items) items)) read.0 read.1 more)

node_there : (node more : List ℕ) → length node ≤ longest_node
    → node_at (node_bytes node ++ more) ≡ Ok (record { items = node }, more)
unfolding node_at node_bytes_at
node_there node more short =
    rw (
      number_there 2 (length node) (node ++ more) (omega (arith, short)),
      le-ltb longest_node (length node) short,
      bytes_at-there node more,
    ) refl

pub empty_is : (bytes : List ℕ) → is_empty bytes ≡ true → bytes ≡ []
empty_is bytes is =
    let none : length bytes ≡ 0 = grind (arith, nat_tests) in nil_from_length bytes none

-- the list of a segment, which has one only with START
segment_list_there : (flags : ℕ) (items more : List ℕ)
    → (if is_start flags then are_items Transfer items else is_empty items) ≡ true
    → segment_items_at flags (segment_list_bytes flags items ++ more)
    ≡ Ok (segment_items flags (items_or_none (items_of Transfer (length items) items)), more)
unfolding segment_items_at
segment_list_there flags items more are = grind (arith, list_there Transfer items more)

pub message_there : MessageReadsBack
unfolding message_at fields_at sess_init_at segment_at message_bytes is_writable
message_there (SessInit interval segment_mru transfer_mru) node items more fit can =
    let tests = and_parts (nat_le (length node) longest_node) _ can in
    let short : length node ≤ longest_node = grind (arith, nat_tests, tests.0) in
    rw (
      append_assoc node (list_bytes items) more,
      number_there 1 7 _ (omega arith),
      number_there 2 interval _ fit.0,
      number_there 8 segment_mru _ fit.1,
      number_there 8 transfer_mru _ fit.2,
      node_there node (list_bytes items ++ more) short,
      list_there Session items more tests.1,
    ) refl
message_there (Segment flags id size) node items more fit can =
    let are = (and_parts (is_empty node) _ can).1 in
    rw (
      append_assoc (segment_list_bytes flags items) (be 8 size) more,
      number_there 1 1 _ (omega arith),
      number_there 1 flags _ fit.0,
      number_there 8 id _ fit.1,
      segment_list_there flags items (be 8 size ++ more) are,
      number_there 8 size more fit.2,
    ) refl
message_there (Ack flags id size) node items more fit can =
    (only_message (wire.Ack flags id size)).by _
    (both (be 1 2) (be 1 flags ++ (be 8 id ++ be 8 size)) (omega arith, refl)
    (both (be 1 flags) (be 8 id ++ be 8 size) (fit.0, refl)
    (both (be 8 id) (be 8 size) (fit.1, refl) (fit.2, refl)))) more
message_there (Refuse reason id) node items more fit can =
    (only_message (wire.Refuse reason id)).by _
    (both (be 1 3) (be 1 reason ++ be 8 id) (omega arith, refl)
    (both (be 1 reason) (be 8 id) (fit.0, refl) (fit.1, refl))) more
message_there Keepalive node items more fit can =
    (only_message wire.Keepalive).by (be 1 4) (omega arith, refl) more
message_there (SessTerm flags reason) node items more fit can =
    (only_message (wire.SessTerm flags reason)).by _
    (both (be 1 5) (be 1 flags ++ be 1 reason) (omega arith, refl)
    (both (be 1 flags) (be 1 reason) (fit.0, refl) (fit.1, refl))) more
message_there (MsgReject reason header) node items more fit can =
    (only_message (wire.MsgReject reason header)).by _
    (both (be 1 6) (be 1 reason ++ be 1 header) (omega arith, refl)
    (both (be 1 reason) (be 1 header) (fit.0, refl) (fit.1, refl))) more

-- How the reading of a session goes on with the head of a message, and with data.
use Rattle.std.proofs.Common.{◌≡◌, ℕ, zero, suc, ◌+◌, true, false, List, [], ◌++◌, length, drop, nat_lt, if◌then◌else◌, arith, refl, ap, sym, ◌∙◌, append_assoc, append-nil, length-append, add-zero, add_assoc, ⊎_elim}
use Rattle.std.proofs.lemmas.Bool.{cases_lt, lt-ltb, le-ltb}
use Rattle.std.proofs.Math.Seq.{take-append_seam, drop-append_seam, take-append-add, drop-append-add}
use Rattle.link_wire.specs.Message.{data_length}
use Rattle.link_wire.specs.Stream.{End, Clean, Cut, Fault, Stream, ended, with_entry, with_data_of, stream_at, Reading, reading_of}
use Rattle.link_wire.proofs.Streams.{stream_at-nil}
use Rattle.link_wire.specs.Session.{joined, data_after, rest_after, IsSizeOfDataLeft}
use Rattle.link_wire.specs.declared.message.Message.{Message}

-- one stream followed by another
abbrev pub appended : Stream → Stream → Stream
appended first second = record { entries = first.entries ++ second.entries; end = second.end }

-- the stream of a head, before any data of its message
abbrev pub begun : ℕ → Message → Stream
begun offset message = if nat_lt 0 (data_length message) then ended (Cut offset message []) else with_entry (record { offset = offset; message = message; content = [] }) (ended Clean)

pub begun_by : (size offset place : ℕ) (message : Message) (more : List ℕ)
    → data_length message ≡ size
    → with_data_of offset message more (stream_at (place + size) (drop size more))
    ≡ appended (begun offset message) (rest_after place size (begun offset message).end more)
begun_by zero offset place message more is =
    let all : nat_lt (length more) 0 ≡ false = le-ltb (length more) 0 (omega arith) in
    rw (is, all, add-zero) refl
begun_by (suc size) offset place message more is =
    rw (is, lt-ltb 0 (suc size) (omega arith)) refl

-- the rest of the stream after data of the open segment
module _ (place n offset : ℕ) (message : Message) (content bytes more : List ℕ) where
  pub data_by : (left : ℕ) → n ≡ length bytes + left
      → rest_after place n (Cut offset message content) (bytes ++ more)
      ≡ appended (data_after left bytes (Cut offset message content)) (rest_after (place + length bytes) left (data_after left bytes (Cut offset message content)).end more)
  data_by zero is =
      let size : n ≡ length bytes = omega arith in
      let all : nat_lt (length (bytes ++ more)) (length bytes) ≡ false = le-ltb (length (bytes ++ more)) (length bytes) (omega (arith, length-append bytes more)) in
      rw (size, all, take-append_seam, drop-append_seam) refl
  data_by (suc left) is =
      let some : nat_lt 0 (suc left) ≡ true = lt-ltb 0 (suc left) (omega arith) in
      ⊎_elim
      (λ less.
      let short : nat_lt (length more) (suc left) ≡ true = lt-ltb (length more) (suc left) less in
      let before : nat_lt (length (bytes ++ more)) n ≡ true = lt-ltb (length (bytes ++ more)) n (omega (arith, length-append bytes more)) in
      rw (before, some, short, append_assoc) refl)
      (λ enough.
      let whole : nat_lt (length more) (suc left) ≡ false = le-ltb (length more) (suc left) enough in
      let before : nat_lt (length (bytes ++ more)) n ≡ false = le-ltb (length (bytes ++ more)) n (omega (arith, length-append bytes more)) in
      rw (before, some, whole, is, take-append-add, drop-append-add, append_assoc, add_assoc) refl)
      (cases_lt (length more) (suc left))

-- no bytes are left
rest_none : (place offset left : ℕ) (end : End) → IsSizeOfDataLeft offset left end
    → rest_after place left end [] ≡ ended end
rest_none place offset left Clean is = stream_at-nil place
rest_none place offset left (Cut from message content) is =
    rw (lt-ltb 0 left is.0, append-nil) refl
rest_none place offset left (Fault from fault) is = absurd is

-- how the reading goes on after a part of the stream has been added to it
module _ (reading : Reading) (history : List ℕ) (part : Stream) (offset left place : ℕ)
    (is : IsSizeOfDataLeft offset left part.end)
    (reads : (more : List ℕ) → reading_of (history ++ more) ≡ joined reading (appended part (rest_after place left part.end more))) where
  pub reading_of-joined : reading_of history ≡ joined reading part
  reading_of-joined =
      ap reading_of (sym (append-nil history)) ∙ reads []
      ∙ ap (λ rest. joined reading (appended part rest)) (rest_none place offset left part.end is)
      ∙ ap (λ entries. joined reading (record { entries = entries; end = part.end })) (append-nil part.entries)

  pub goes_on_from : (more : List ℕ)
      → reading_of (history ++ more)
      ≡ joined (reading_of history) (rest_after place left (reading_of history).end more)
  goes_on_from more = rw (reading_of-joined, append_assoc) (reads more)

-- if no data is to come, the end is clean
pub clean_end : (offset left : ℕ) (end : End) → IsSizeOfDataLeft offset left end → left ≡ 0 → end ≡ Clean
clean_end offset left Clean is none = refl
clean_end offset left (Cut from message content) is none = let some = is.0 in absurd (omega arith)
clean_end offset left (Fault from fault) is none = absurd is

pub begun_left : (size offset : ℕ) (message : Message) → data_length message ≡ size
    → IsSizeOfDataLeft offset size (begun offset message).end
begun_left zero offset message is = rw is refl
begun_left (suc size) offset message is =
    rw (is, lt-ltb 0 (suc size) (omega arith)) (omega arith, refl, omega arith)

pub data_left : (offset from : ℕ) (message : Message) (content bytes : List ℕ) (left n : ℕ)
    → from ≡ offset → data_length message ≡ length content + n → n ≡ length bytes + left
    → IsSizeOfDataLeft offset left (data_after left bytes (Cut from message content)).end
data_left offset from message content bytes zero n is whole parts = refl
data_left offset from message content bytes (suc left) n is whole parts =
    rw (lt-ltb 0 (suc left) (omega arith))
    (omega arith, is, omega (arith, length-append content bytes))

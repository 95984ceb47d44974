-- Whole messages, one after another, are read as one list of messages.
use Rattle.std.proofs.Common.{◌≡◌, ℕ, ◌+◌, ◌^◌, ◌<◌, ◌≤◌, true, List, [], ◌∷◌, ◌++◌, length, take, drop, slice_index, Ok, ◌==◌, refl, ap, sym, ◌∙◌, subst, append_assoc, append-nil, length-append, length-drop, add-zero, get_or-drop, arith}
use Rattle.std.proofs.lemmas.{Bool.{le-ltb, eqb-true, cond_both}, Bool.Decides.nat_tests, List.Elements.{All-push}}
use Rattle.std.proofs.Math.Seq.{take-add, take-append_seam, drop-append_seam}
use Rattle.link_wire.specs.{Codes.{xfer_ack, xfer_refuse, keepalive, msg_reject}, Getting.IsPart}
use Rattle.link_wire.specs.{Message.{message_at, data_length}, Stream.{Entry, stream_at}}
use Rattle.link_wire.specs.Whole.{followed, AreMessages, is_quiet, IsQuiet, AreQuietMessages, quiet_size, HasQuietMessageFirst}
use Rattle.link_wire.proofs.Plains.{ack_head, refuse_head, keepalive_head, msg_reject_head}
use Rattle.link_wire.proofs.Streams.{stream_at-head}
use Rattle.link_wire.specs.declared.message.Message.{Message}

-- some messages, and then others
messages_then : (offset : ℕ) (first second : List ℕ) (xs ys : List Entry)
    → AreMessages offset first xs → AreMessages (offset + length first) second ys
    → AreMessages offset (first ++ second) (xs ++ ys)
messages_then offset first second xs ys one two = record {
  all = λ more.
      let place : offset + length first + length second ≡ offset + length (first ++ second) =
      omega (arith, length-append first second) in
      let end = (stream_at (offset + length (first ++ second)) more).end in
      ap (stream_at offset) (append_assoc first second more)
      ∙ one.all (second ++ more)
      ∙ ap (followed xs) (two.all more)
      ∙ ap (λ n. followed xs (followed ys (stream_at n more))) place
      ∙ ap (λ entries. record { entries = entries; end = end })
      (sym (append_assoc xs ys (stream_at (offset + length (first ++ second)) more).entries));
}

-- a head and its data
module _ (offset : ℕ) (head content : List ℕ) (message : Message)
    (is : (more : List ℕ) → message_at (head ++ more) ≡ Ok (message, more))
    (size : data_length message ≡ length content) where
  abbrev pub entry_of : Entry
  entry_of = record { offset = offset; message = message; content = content }

  pub one_message : AreMessages offset (head ++ content) (entry_of ∷ [])
  one_message = record {
    all = λ more.
        let fits : length content ≤ length (content ++ more) =
        omega (arith, length-append content more) in
        let whole = le-ltb (length (content ++ more)) (length content) fits in
        let place : offset + length head + length content ≡ offset + length (head ++ content) =
        omega (arith, length-append head content) in
        ap (stream_at offset) (append_assoc head content more)
        ∙ stream_at-head offset head message is (content ++ more)
        ∙ rw (size, whole, take-append_seam, drop-append_seam, place) refl;
  }

-- ---- quiet messages

-- quiet messages, and then another one
quiet_more : (offset at size : ℕ) (window : List ℕ) → AreQuietMessages offset (take at window)
    → HasQuietMessageFirst (drop at window) size → AreQuietMessages offset (take (at + size) window)
quiet_more offset at size window so_far head =
    let first = take at window in
    let last = take size (drop at window) in
    let next = offset + length first in
    let entry : List Entry = record { offset = next; message = head.message; content = [] } ∷ [] in
    let one = rw append-nil at (one_message next last [] head.message head.is.is_part head.none) in
    rw (take-add at size window) (record {
      entries = so_far.entries ++ entry;
      quiet = All-push IsQuiet so_far.entries _ so_far.quiet head.quiet;
      are = messages_then offset first last so_far.entries _ so_far.are one;
    })

module _ (window : List ℕ) (size : ℕ) (within : size ≤ length window) where
  quiet_part : (message : Message) → IsPart message_at (take size window) message
      → is_quiet message ≡ true → data_length message ≡ 0 → HasQuietMessageFirst window size
  quiet_part message is quiet none = record {
    message = message;
    quiet = quiet;
    none = none;
    within = within;
    is = is;
  }

-- If a quiet message with the first byte as its type would end in the window, it lies there.
quiet_by_kind : (window : List ℕ) → length window < 2 ^ 63
    → quiet_size (slice_index window 0) ≤ length window
    → HasQuietMessageFirst window (quiet_size (slice_index window 0))
quiet_by_kind window slice =
    let kind = slice_index window 0 in
    let P : ℕ → Type 0 = λ size. size ≤ length window → HasQuietMessageFirst window size in
    cond_both (kind == xfer_ack) 18 _ P
    (λ ack within. quiet_part window 18 within _
    (ack_head window within (eqb-true kind 2 ack)) refl refl)
    (λ _. cond_both (kind == xfer_refuse) 10 _ P
    (λ refuse within. quiet_part window 10 within _
    (refuse_head window within (eqb-true kind 3 refuse)) refl refl)
    (λ _. cond_both (kind == keepalive) 1 _ P
    (λ alive within. quiet_part window 1 within _
    (keepalive_head window within (eqb-true kind 4 alive)) refl refl)
    (λ _. cond_both (kind == msg_reject) 3 (2 ^ 63) P
    (λ reject within. quiet_part window 3 within _
    (msg_reject_head window within (eqb-true kind 6 reject)) refl refl)
    (λ _ within. absurd (omega (arith, slice, within))))))

-- each length is of some bytes, and a sum of it and an index fits
pub quiet_size-bounds : (kind : ℕ) → (0 < quiet_size kind) × (quiet_size kind ≤ 2 ^ 63)
quiet_size-bounds kind = (grind (arith, nat_tests), grind (arith, nat_tests))

-- the first `count` bytes of the window are quiet messages
pub record BeginQuiet (window : List ℕ) (count : ℕ) : Type 0 where
  pub within : count ≤ length window
  pub quiet : (offset : ℕ) → AreQuietMessages offset (take count window)

-- quiet messages, and then another one of the size that the next byte has as a type
pub begin_more : (window : List ℕ) (at size : ℕ) → length window < 2 ^ 63
    → size ≡ quiet_size (slice_index window at) → BeginQuiet window at → at + size ≤ length window
    → BeginQuiet window (at + size)
begin_more window at size slice is begun within =
    let rest = drop at window in
    let P : ℕ → Type 0 = λ size. size ≤ length rest → HasQuietMessageFirst rest size in
    let kind : slice_index rest 0 ≡ slice_index window at =
    get_or-drop at window 0 0 ∙ ap (λ index. slice_index window index) (add-zero at) in
    let long = length-drop at window in
    let head : HasQuietMessageFirst rest size =
    subst P (ap quiet_size kind ∙ sym is) (quiet_by_kind rest (omega (arith, slice, long)))
    (omega (arith, within, long)) in
    record {
      within = within;
      quiet = λ offset. quiet_more offset at size window (begun.quiet offset) head;
    }

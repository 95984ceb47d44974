-- The parts of an input, and the messages of the stream that it is packed to.
use Rattle.std.specs.Prelude.{IfSome}
use Rattle.std.proofs.Common.{◌≡◌, ℕ, zero, suc, ◌<◌, ◌≤◌, false, List, [], ◌∷◌, ◌++◌, length, take, drop, None, Result, Ok, Err, refl, ap, sym, ◌∙◌, subst, length-take, length-drop, arith, ◌+◌, append-nil, append_assoc, length-append, ◌*◌, ◌^◌, Bool, Option, if◌then◌else◌, min, true, Some}
use Rattle.std.proofs.lemmas.{Bool.{ltb-false}, List.take-append-drop}
use Rattle.std.proofs.lemmas.{List.Elements.{All-take, All-drop, All-nil}}
use Rattle.link_cbor.specs.PieceLaws.{takes_shortest}
use Rattle.link_tool_option_types.specs.declared.pack.PackOptions.{PackOptions}
use Rattle.link_wire.specs.{Bytes.{IsByte, AreBytes}, Message.data_length, Spelled.HeadSpelled}
use Rattle.link_wire.specs.{SpelledStream.{IsStream, IsReadingOf}, declared.message.Message.Message}
use Rattle.link_wire.specs.declared.message.Message.TheVariants.{SessTerm}
use Rattle.link_wire.specs.Stream.{Entry, End, Clean, Reading}
use Rattle.link_wire.specs.Spelling.{segment_head_bytes, segment_with, sess_init_bytes, sess_term_bytes, sess_init_with}
use Rattle.link_wire.proofs.Spellings.{contact_spelled, sess_init_spelled, sess_term_spelled}
use Rattle.link_bundle_types.specs.declared.info.BundleInfo.{BundleInfo}
use Rattle.link_bundle_blocks.specs.Bundle.{verdict, bundle_goes}
use Rattle.link_transfer.specs.{Chunks.chunk_at, Cutting.{announcement, due}}
use Rattle.link_run.proofs.Continued.{entry}
use Rattle.link_run_over_bundle_files.specs.Bundles.{BundleWithInfo, Refusal, TailAfterBundles, Divided, bundle_prefix, judged_front, accepted_by, divided_by, divided_in, divided}
use Rattle.link_run_over_bundle_files.proofs.{Dividing.{whole_stops, some_stopped}, Outcomes.whole_of}
use Rattle.link_tool_pack.specs.Segments.{BundleToCut, cutting_of, cut_at, flags_of, segment_bytes, segments_from, segments_of}
use Rattle.link_tool_pack.specs.Packing.{prelude_bytes, sending, transfer_bytes, end_bytes, packing_by}
use Rattle.link_tool_pack.proofs.Moved.{announcement_fits, head_spelled}
use Rattle.link_tools_laws.specs.Ranges.{OptionsFit}

-- ---- the parts of an input: bundles that the peer takes, and the rest after them

-- a bundle that the peer takes
pub record IsBundle (limit : ℕ) (bundle : BundleWithInfo) : Type 0 where
  pub some : 0 < length bundle.bytes
  pub within : length bundle.bytes ≤ limit
  pub are : AreBytes bundle.bytes
  pub is : verdict bundle.bytes ≡ Ok bundle.info

abbrev pub AreBundles : (limit : ℕ) → List BundleWithInfo → Type 0
AreBundles limit [] = Unit {0}
AreBundles limit (bundle ∷ more) = IsBundle limit bundle × AreBundles limit more

-- the bytes of all these bundles, joined
abbrev pub contents : List BundleWithInfo → List ℕ
contents [] = []
contents (bundle ∷ more) = bundle.bytes ++ contents more

-- the accepted bytes of the bundle that is refused
pub record IsRest (limit : ℕ) (rest : TailAfterBundles) : Type 0 where
  pub within : length rest.before_fault ≤ limit
  pub are : AreBytes rest.before_fault

pub record IsDivided (limit : ℕ) (bytes : List ℕ) (input : Divided) : Type 0 where
  pub bundles : AreBundles limit input.bundles
  pub few : length input.bundles ≤ length bytes
  pub rest : IfSome input.rest (IsRest limit)
  pub whole : input.rest ≡ None → contents input.bundles ≡ bytes

-- ---- a prefix that is judged

taken_whole : (limit : ℕ) (front : List ℕ) (info : BundleInfo) → judged_front limit front ≡ Ok info
    → (length front ≤ limit) × (verdict front ≡ Ok info)
taken_whole limit front info is = grind (arith, ltb-false)

taken_bytes : (count : ℕ) (bytes : List ℕ) → AreBytes bytes → AreBytes (take count bytes)
taken_bytes count bytes are = All-take IsByte count bytes are

accepted_bytes : (refusal : Refusal) (front : List ℕ) → AreBytes front
    → AreBytes (accepted_by refusal front)
accepted_bytes refusal front are = grind (arith, taken_bytes)

-- ---- all bytes

front_first : (bytes : List ℕ) → bundle_prefix bytes ≡ take (length (bundle_prefix bytes)) bytes
front_first bytes = ((takes_shortest bundle_goes [] bytes (bundle_prefix bytes)).1 refl).is_front

front_bytes : (bytes : List ℕ) → AreBytes bytes → AreBytes (bundle_prefix bytes)
front_bytes bytes are = subst AreBytes (sym (front_first bytes)) (taken_bytes _ bytes are)

module _ (limit : ℕ) (next : List ℕ → Divided) (bytes : List ℕ) (are : AreBytes bytes) where
  abbrev front : List ℕ
  front = bundle_prefix bytes

  abbrev left : List ℕ
  left = drop (length (bundle_prefix bytes)) bytes

  divides : (said : Result BundleInfo Refusal) → judged_front limit (bundle_prefix bytes) ≡ said
      → (length left < length bytes → IsDivided limit left (next left)) → 0 < length bytes
      → IsDivided limit bytes (divided_by next (bundle_prefix bytes) bytes said)
  divides (Ok info) is later there =
      let taken = taken_whole limit front info is in
      let some = some_stopped front (whole_stops front info taken.1) in
      let size = length-drop (length front) bytes in
      let after = later (omega arith) in
      record {
        bundles = (record { some = some; within = taken.0; are = front_bytes bytes are; is = taken.1 }, after.bundles);
        few = let few = after.few in omega arith;
        rest = after.rest;
        whole = λ none. ap (λ rest. front ++ rest) (after.whole none) ∙ ap (λ first. first ++ left) (front_first bytes) ∙ take-append-drop (length front) bytes;
      }
  divides (Err refusal) is later there = grind (arith, accepted_bytes, front_bytes, length-take, ltb-false)

divided_so : (count limit : ℕ) (bytes : List ℕ) → AreBytes bytes → length bytes ≤ count
    → IsDivided limit bytes (divided_in count limit bytes)
unfolding divided_in
divided_so count limit [] are few = record { bundles = tt; few = omega arith; rest = tt; whole = λ none. refl }
divided_so zero limit (byte ∷ bytes) are few = absurd (omega arith)
divided_so (suc count) limit (byte ∷ bytes) are few =
    let all = byte ∷ bytes in
    divides limit (divided_in count limit) all are (judged_front limit (bundle_prefix all)) refl
    (λ fewer. divided_so count limit (drop (length (bundle_prefix all)) all) (All-drop IsByte (length (bundle_prefix all)) all are) (omega arith))
    (omega arith)

-- the parts of any input
pub is_divided : (limit : ℕ) (bytes : List ℕ) → AreBytes bytes
    → IsDivided limit bytes (divided limit bytes)
unfolding divided
is_divided limit bytes are = divided_so (length bytes) limit bytes are (omega arith)

-- ---- messages, one after another, are a stream

-- messages, and then the rest of the stream
pub stream_then : (entries more : List Entry) (end : End) (offset : ℕ) (front back : List ℕ)
    → IsStream entries Clean offset front → IsStream more end (offset + length front) back
    → IsStream (entries ++ more) end offset (front ++ back)
stream_then [] more end offset front back none is = grind arith
stream_then (first ∷ entries) more end offset front back stands is =
    let Q : ℕ → Type 0 = λ at. IsStream more end at back in
    let place : offset + length front ≡ offset + length stands.before + length stands.after = omega (arith, ap length stands.parts, length-append stands.before stands.after) in
    record {
      offset_is = stands.offset_is;
      before = stands.before;
      after = stands.after ++ back;
      is_entry = stands.is_entry;
      is_rest = stream_then entries more end (offset + length stands.before) stands.after back stands.is_rest (subst Q place is);
      parts = ap (λ bytes. bytes ++ back) stands.parts ∙ append_assoc stands.before stands.after back;
    }

-- one message with its data
pub stream_one : (offset : ℕ) (message : Message) (head content : List ℕ) → HeadSpelled message head
    → length content ≡ data_length message → AreBytes content
    → IsStream (entry offset message content ∷ []) Clean offset (head ++ content)
stream_one offset message head content spells size are = record {
  offset_is = refl;
  before = head ++ content;
  after = [];
  is_entry = (size, record { before = head; after = content; is_first = spells; is_second = (are, refl); parts = refl });
  is_rest = refl;
  parts = sym (append-nil (head ++ content));
}

-- one message without data
pub stream_plain : (offset : ℕ) (message : Message) (head : List ℕ) → HeadSpelled message head
    → data_length message ≡ 0 → IsStream (entry offset message [] ∷ []) Clean offset head
stream_plain offset message head spells none =
    subst (IsStream (entry offset message [] ∷ []) Clean offset) (append-nil head) (stream_one offset message head [] spells (sym none) (All-nil IsByte))

-- ---- the segments of a transfer

-- chunk number `k`, and the message whose data it is
abbrev pub chunk_of : BundleToCut → (k : ℕ) → List ℕ
chunk_of sending k = chunk_at sending.segment k sending.bundle

abbrev pub message_of : (id : ℕ) → BundleToCut → (k : ℕ) → Message
message_of id sending k = segment_with (flags_of (cut_at sending k).first (cut_at sending k).last) id (length (chunk_of sending k)) (cut_at sending k).announce

-- the messages of `count` segments from chunk number `k` on
unfoldable pub segment_entries : (id : ℕ) → BundleToCut → (k count offset : ℕ) → List Entry
segment_entries id sending k zero offset = []
segment_entries id sending k (suc count) offset =
    entry offset (message_of id sending k) (chunk_of sending k)
    ∷ segment_entries id sending (suc k) count (offset + length (segment_bytes id (cut_at sending k) (chunk_of sending k)))

-- the conditions under which segments are made
pub record SendingFits (sending : BundleToCut) : Type 0 where
  pub small : sending.segment ≤ 65536
  pub hold : sending.hold ≤ 1048576
  pub are : AreBytes sending.bundle

module _ (id : ℕ) (sending : BundleToCut) (fits : SendingFits sending) (id_fits : id < 2 ^ 64) where
  small_chunk : (k : ℕ) → length (chunk_of sending k) < 2 ^ 64
  small_chunk k = grind (arith, length-take)

  -- the segments are these messages
  pub segments_stream : (k count offset : ℕ)
      → IsStream (segment_entries id sending k count offset) Clean offset
      (segments_from id sending k count)
  unfolding segments_from segment_entries
  segments_stream k zero offset = refl
  segments_stream k (suc count) offset =
      let cut = cut_at sending k in
      let chunk = chunk_of sending k in
      let front = segment_bytes id cut chunk in
      stream_then (entry offset (message_of id sending k) chunk ∷ []) (segment_entries id sending (suc k) count (offset + length front)) Clean offset front (segments_from id sending (suc k) count)
      (stream_one offset (message_of id sending k) (segment_head_bytes (flags_of cut.first cut.last) id (length chunk) cut.announce) chunk
      (head_spelled cut.first cut.last id (length chunk) (announcement (cutting_of sending)) id_fits (small_chunk k) (announcement_fits (cutting_of sending) fits.hold))
      refl
      (All-take IsByte sending.segment (drop (k * sending.segment) sending.bundle) (All-drop IsByte (k * sending.segment) sending.bundle fits.are)))
      (segments_stream (suc k) count (offset + length front))

-- ---- the messages

abbrev pub due_entries : (id : ℕ) → BundleToCut → (offset : ℕ) → List Entry
due_entries id sending offset = segment_entries id sending 0 (due (cutting_of sending)) offset

module _ (options : PackOptions) where
  abbrev pub init_bytes : List ℕ
  init_bytes = sess_init_bytes options.keepalive options.segment_mru options.transfer_mru options.node.items

  abbrev pub init_entry : Entry
  init_entry = entry 6 (sess_init_with options.keepalive options.segment_mru options.transfer_mru options.node.items) []

  -- the messages of these bundles
  unfoldable pub bundle_entries : (number : ℕ) → List BundleWithInfo → (offset : ℕ) → List Entry
  bundle_entries number [] offset = []
  bundle_entries number (bundle ∷ more) offset =
      let whole = sending options true bundle.bytes in
      due_entries number whole offset ++ bundle_entries (suc number) more (offset + length (segments_of number whole))

  abbrev pub term_entries : Bool → (offset : ℕ) → List Entry
  term_entries true offset = entry offset (SessTerm 0 0) [] ∷ []
  term_entries false offset = []

  -- those after the bundles: SESS_TERM, or what is due of the bundle that is refused
  abbrev pub end_entries : (number : ℕ) → Option TailAfterBundles → (offset : ℕ) → List Entry
  end_entries number None offset = term_entries options.send_term offset
  end_entries number (Some rest) offset =
      due_entries number (sending options false rest.before_fault) offset

  module _ (input : Divided) where
    -- the bytes of SESS_INIT and of the bundles
    abbrev pub bundles_bytes : List ℕ
    bundles_bytes = init_bytes ++ transfer_bytes options 0 input.bundles

    abbrev pub packed_entries : List Entry
    packed_entries =
        (init_entry ∷ bundle_entries 0 input.bundles (6 + length init_bytes))
        ++ end_entries (length input.bundles) input.rest (6 + length bundles_bytes)

    abbrev pub packed_reading : Reading
    packed_reading = record { contact = Some (record { flags = 0 }); entries = packed_entries; end = Clean }

-- ---- their bytes

append-assoc_five : (a b c d : List ℕ) → a ++ b ++ c ++ d ≡ a ++ (b ++ c ++ d)
append-assoc_five a b c d = simp append_assoc

pub some_size : (options : PackOptions) → 0 < min options.peer_segment 65536
some_size options = let some = options.some in omega arith

module _ (options : PackOptions) where
  pub sending_fits : (whole : Bool) (bundle : List ℕ) → AreBytes bundle
      → SendingFits (sending options whole bundle)
  sending_fits whole bundle are = record { small = omega arith; hold = options.hold; are = are }

  bundle_stream : (number : ℕ) (bundles : List BundleWithInfo) (offset : ℕ)
      → AreBundles options.peer_transfer bundles → number + length bundles ≤ 2 ^ 64
      → IsStream (bundle_entries options number bundles offset) Clean offset
      (transfer_bytes options number bundles)
  unfolding bundle_entries transfer_bytes
  bundle_stream number [] offset are few = refl
  bundle_stream number (bundle ∷ more) offset are few =
      let whole = sending options true bundle.bytes in
      let after = offset + length (segments_of number whole) in
      stream_then (due_entries number whole offset) (bundle_entries options (suc number) more after) Clean offset (segments_of number whole) (transfer_bytes options (suc number) more)
      (segments_stream number whole (sending_fits true bundle.bytes are.0.are) (omega arith) 0 (due (cutting_of whole)) offset)
      (bundle_stream (suc number) more after are.1 (omega arith))

  term_stream : (asked : Bool) (offset : ℕ)
      → IsStream (term_entries options asked offset) Clean offset (if asked
      then sess_term_bytes 0 0 else [])
  term_stream true offset = stream_plain offset (SessTerm 0 0) (sess_term_bytes 0 0) (sess_term_spelled 0 0 (omega arith) (omega arith)) refl
  term_stream false offset = refl

  -- the bytes after the bundles
  abbrev last_bytes : (number : ℕ) → Option TailAfterBundles → List ℕ
  last_bytes number None = end_bytes options
  last_bytes number (Some rest) = segments_of number (sending options false rest.before_fault)

  end_stream : (number : ℕ) (rest : Option TailAfterBundles) (offset : ℕ)
      → IfSome rest (IsRest options.peer_transfer) → number < 2 ^ 64
      → IsStream (end_entries options number rest offset) Clean offset (last_bytes number rest)
  end_stream number rest offset is few = grind (arith, segments_stream, sending_fits, term_stream)

  module _ (fit : OptionsFit options) where
    init_stream : IsStream (init_entry options ∷ []) Clean 6 (init_bytes options)
    init_stream = search (sess_init_spelled, stream_plain)

    module _ (input : Divided) (bundles : AreBundles options.peer_transfer input.bundles)
        (rest : IfSome input.rest (IsRest options.peer_transfer))
        (few : length input.bundles < 2 ^ 64) where
      packed_stream : IsStream (packed_entries options input) Clean 6
          (bundles_bytes options input ++ last_bytes (length input.bundles) input.rest)
      packed_stream =
          let number = length input.bundles in
          let start = 6 + length (init_bytes options) in
          let after = 6 + length (bundles_bytes options input) in
          let first = init_entry options ∷ bundle_entries options 0 input.bundles start in
          stream_then first (end_entries options number input.rest after) Clean 6
          (bundles_bytes options input) (last_bytes number input.rest)
          (stream_then (init_entry options ∷ []) (bundle_entries options 0 input.bundles start)
          Clean 6 (init_bytes options) (transfer_bytes options 0 input.bundles) init_stream
          (bundle_stream 0 input.bundles start bundles (omega arith)))
          (end_stream number input.rest after rest few)

      -- a packed stream is read as these messages
      pub packed_is : IsReadingOf (whole_of (packing_by options input)).texts.output
          (packed_reading options input)
      unfolding prelude_bytes
      packed_is = grind (arith, append-nil, contact_spelled, append-assoc_five, packed_stream)

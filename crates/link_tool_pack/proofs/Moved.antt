-- With another first ID, the segments of `pack_more` are read as the same except for their IDs.
use Rattle.std.specs.Prelude.{IfSome}
use Rattle.std.proofs.Common.{◌≡◌, ℕ, zero, suc, ◌+◌, ◌*◌, ◌<◌, ◌≤◌, ◌^◌, Bool, true, false, List, [], ◌∷◌, ◌++◌, length, drop, map, Option, Some, None, if◌then◌else◌, refl, append_assoc, append-nil, zero-add, add-zero, arith}
use Rattle.std.proofs.lemmas.Bool.Decides.{nat_tests}
use Rattle.std.proofs.lemmas.List.{length-take}
use Rattle.link_wire.specs.Spelled.{HeadSpelled}
use Rattle.link_wire.specs.Spelling.{segment_head_bytes, segment_with}
use Rattle.link_wire.specs.Stream.{Entry, Clean, with_entry, stream_at}
use Rattle.link_wire.specs.declared.message.Message.{Message}
use Rattle.link_wire.proofs.{Sound.only_message, Spellings.segment_spelled}
use Rattle.link_wire.proofs.{Streams.stream_at-nil, Wholes.one_message}
use Rattle.link_transfer.specs.{Chunks.chunk_at, Cutting.{Cutting, announcement, due}}
use Rattle.link_transfer.specs.declared.cut.Cut.{Cut}
use Rattle.link_run_over_bundle_files.specs.Bundles.{BundleWithInfo, TailAfterBundles, divided}
use Rattle.link_tool_option_types.specs.declared.pack.PackOptions.{PackOptions}
use Rattle.link_tool_pack.specs.Segments.{flags_of, segment_bytes, BundleToCut, cutting_of, cut_at, segments_from, segments_of}
use Rattle.link_tool_pack.specs.Packing.{sending, transfer_bytes, rest_segments}
use Rattle.link_tool_pack.specs.More.{more_of}
use Rattle.link_tool_pack.specs.MoreLaws.{moved_entry, SegmentsDifferOnlyInIds}

-- ---- the head of a segment

-- it announces a length only with the first chunk
pub head_spelled : (first last : Bool) (id size : ℕ) (announce : Option ℕ)
    → id < 2 ^ 64 → size < 2 ^ 64 → IfSome announce (λ total. total < 2 ^ 64)
    → (let told = if first then announce else None in
    HeadSpelled (segment_with (flags_of first last) id size told)
    (segment_head_bytes (flags_of first last) id size told))
head_spelled first last id size announce id_fits size_fits fits = grind (arith, segment_spelled)

-- ---- a segment

-- the conditions under which the fields of segments fit
record SendingFits (sending : BundleToCut) : Type 0 where
  pub small : sending.segment ≤ 65536
  pub hold : sending.hold ≤ 1048576

-- a length that is announced fits in its field
pub announcement_fits : (so_far : Cutting) → so_far.hold ≤ 1048576
    → IfSome (announcement so_far) (λ total. total < 2 ^ 64)
unfolding announcement
announcement_fits so_far small = grind (arith, nat_tests)

module _ (sending : BundleToCut) (fits : SendingFits sending) (k : ℕ) where
  abbrev cut : Cut
  cut = cut_at sending k

  abbrev chunk : List ℕ
  chunk = chunk_at sending.segment k sending.bundle

  abbrev message_of : (id : ℕ) → Message
  message_of id = segment_with (flags_of cut.first cut.last) id (length chunk) cut.announce

  abbrev entry_at : (id offset : ℕ) → Entry
  entry_at id offset = record { offset = offset; message = message_of id; content = chunk }

  -- the length of the segment, which is the same under any ID
  abbrev size : ℕ
  size = length (segment_bytes 0 cut chunk)

  small_chunk : length chunk < 2 ^ 64
  small_chunk = omega (arith, fits.small, length-take sending.segment (drop (k * sending.segment) sending.bundle))

  -- a segment is read with its data
  segment_there : (id offset : ℕ) (more : List ℕ) → id < 2 ^ 64
      → stream_at offset (segment_bytes id cut chunk ++ more)
      ≡ with_entry (entry_at id offset) (stream_at (offset + size) more)
  unfolding segment_head_bytes
  segment_there id offset more id_fits =
      let head = segment_head_bytes (flags_of cut.first cut.last) id (length chunk) cut.announce in
      let spelled = head_spelled cut.first cut.last id (length chunk) (announcement (cutting_of sending))
      id_fits small_chunk (announcement_fits (cutting_of sending) fits.hold) in
      let reads = (only_message (message_of id)).by head spelled in
      (one_message offset head chunk (message_of id) reads refl).all more

-- ---- with another first ID

module _ (first : ℕ) where
  -- both are read without a fault, and the first as the second with IDs moved
  abbrev Moves : (offset : ℕ) (there here : List ℕ) → Type 0
  Moves offset there here =
      stream_at offset there
      ≡ record {
        entries = map (moved_entry first) (stream_at offset here).entries;
        end = Clean;
      }

  none_moves : (offset : ℕ) → Moves offset [] []
  none_moves offset = rw (stream_at-nil offset) refl

  -- segments, and what follows them
  segments_move : (id : ℕ) (sending : BundleToCut) → SendingFits sending → first + id < 2 ^ 64
      → (there here : List ℕ) → ((offset : ℕ) → Moves offset there here) → (k count offset : ℕ)
      → Moves offset (segments_from (first + id) sending k count ++ there)
      (segments_from id sending k count ++ here)
  unfolding segments_from
  segments_move id sending fits id_fits there here later k zero offset = later offset
  segments_move id sending fits id_fits there here later k (suc count) offset =
      let one = segment_bytes id (cut_at sending k) (chunk_at sending.segment k sending.bundle) in
      let other = segment_bytes (first + id) (cut_at sending k) (chunk_at sending.segment k sending.bundle) in
      let after = segments_from id sending (suc k) count in
      let after_other = segments_from (first + id) sending (suc k) count in
      let next = offset + size sending fits k in
      rw (
        append_assoc one after here,
        append_assoc other after_other there,
        segment_there sending fits k id offset (after ++ here) (omega arith),
        segment_there sending fits k (first + id) offset (after_other ++ there) id_fits,
        segments_move id sending fits id_fits there here later (suc k) count next,
      ) refl

  module _ (options : PackOptions) where
    sending_fits : (whole : Bool) (bundle : List ℕ) → SendingFits (sending options whole bundle)
    sending_fits whole bundle = record { small = omega arith; hold = options.hold }

    -- the segments of these bundles, and what follows them
    bundles_move : (number : ℕ) (bundles : List BundleWithInfo) (there here : List ℕ)
        → first + (number + length bundles) ≤ 2 ^ 64
        → ((offset : ℕ) → Moves offset there here) → (offset : ℕ)
        → Moves offset (transfer_bytes options (first + number) bundles ++ there)
        (transfer_bytes options number bundles ++ here)
    unfolding transfer_bytes
    bundles_move number [] there here few later offset = later offset
    bundles_move number (bundle ∷ more) there here few later offset =
        let whole = sending options true bundle.bytes in
        let next : suc (first + number) ≡ first + suc number = omega arith in
        rw (
          append_assoc (segments_of number whole) (transfer_bytes options (suc number) more) here,
          append_assoc (segments_of (first + number) whole)
              (transfer_bytes options (suc (first + number)) more) there,
          next,
        )
        (segments_move number whole (sending_fits true bundle.bytes) (omega arith)
        _ _ (bundles_move (suc number) more there here (omega arith) later) 0
        (due (cutting_of whole)) offset)

    -- those of the bundle that is refused
    rest_moves : (number : ℕ) (rest : Option TailAfterBundles) → first + number < 2 ^ 64 → (offset : ℕ)
        → Moves offset (rest_segments options (first + number) rest)
        (rest_segments options number rest)
    rest_moves number None fits offset = none_moves offset
    rest_moves number (Some rest) fits offset =
        let part = sending options false rest.before_fault in
        let moves = segments_move number part (sending_fits false rest.before_fault) fits [] []
        none_moves 0 (due (cutting_of part)) offset in
        rw (append-nil, append-nil) at moves

pub is_moved : SegmentsDifferOnlyInIds
unfolding more_of
is_moved first options bytes few =
    let input = divided options.peer_transfer bytes in
    let number = length input.bundles in
    let moves = bundles_move first options 0 input.bundles _ _ (omega arith)
    (rest_moves first options number input.rest (omega arith)) 0 in
    rw (zero-add number) (rw (add-zero first) at moves)

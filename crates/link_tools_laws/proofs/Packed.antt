-- A packed stream: its reading, the limits that it keeps, what unpacking it returns, and its lines.
use Rattle.std.specs.{Prelude.IfSome, List.All}
use Rattle.std.proofs.Common.{◌≡◌, ℕ, List, None, refl, ap, sym, ◌∙◌, arith, ◌⊎◌, Bool, true, [], length, Option, Some, length-take, suc, ◌∷◌, ◌++◌, Ok, append-nil, append_assoc, length-append, zero, ◌+◌, ap₂}
use Rattle.std.proofs.lemmas.{List.Elements.All-nil, Bool.eq-eqb}
use Rattle.link_tool_option_types.specs.declared.pack.PackOptions.{PackOptions}
use Rattle.link_wire.specs.{SpelledStream.IsReadingOf, Stream.{Reading, reading_of, heads_of}}
use Rattle.link_wire.specs.Spelling.{announced, announce_bytes, total_bytes, segment_head_bytes, sess_init_bytes}
use Rattle.link_bundle_blocks.specs.Bundle.{verdict}
use Rattle.link_transfer.specs.{Announced.announced_of, Cutting.{Cutting, announcement, due}}
use Rattle.link_transfer.specs.declared.announcement.Announced.TheVariants.{Absent, Total}
use Rattle.link_report.specs.{declared.judgement.Judgement.TheVariants.Good, Message.message_text}
use Rattle.link_run.specs.Run.{Outcome}
use Rattle.link_run_over_transfers.proofs.Heads.{heads_clean}
use Rattle.link_run_judge.specs.{Transfers.Transfer, Unpacking.{parts_of, judgement_of}}
use Rattle.link_run_judge.proofs.Texts.{parts_more}
use Rattle.link_tool_list.specs.Listing.{listing_of, message_lines}
use Rattle.link_run_over_bundle_files.specs.Bundles.{BundleWithInfo, Divided, divided, TailAfterBundles}
use Rattle.link_tool_pack.specs.Packing.{packing_of, pack_tool, sending, transfer_bytes}
use Rattle.link_tool_pack.specs.Segments.{cutting_of, BundleToCut, cut_at, segment_bytes, segments_from}
use Rattle.link_tools_laws.specs.{Ranges.{OptionsFit, InputFits}, RoundTrip.{all, good_lines, UnpacksToBundles}}
use Rattle.link_tools_laws.specs.PackedStream.{TransferFits, IsStreamForPeer}
use Rattle.link_tools_laws.specs.Transfers.{lines_of, are_good, by_transfers}
use Rattle.link_tools_laws.specs.Listed.{size_of_segment, segment_lines, size_of_segments, chunks_of, term_line, bundle_lines, ListsAsPacked}
use Rattle.link_tools_laws.proofs.Carried.{AreCarried, packed_carried, packed_transfers, onto, onto_all, rest_onto, transfer_of}
use Rattle.link_tools_laws.proofs.Entries.{IsDivided, is_divided, IsBundle, IsRest, AreBundles, contents, packed_reading, packed_is, init_bytes, init_entry, bundle_entries, term_entries, packed_entries, chunk_of, segment_entries}
use Rattle.link_tools_laws.proofs.{Same.whole_is, Texts.message_lines-append}

-- ---- its reading

module _ (options : PackOptions) (bytes : List ℕ) where
  abbrev pub input : Divided
  input = divided options.peer_transfer bytes

  abbrev pub bundles : List BundleWithInfo
  bundles = input.bundles

  -- what comes of packing it
  abbrev pub packed : Outcome
  packed = (pack_tool options).whole bytes

  -- if no bundle is refused, nothing follows the bundles
  pub nothing_left : packed.status ≡ 0 → input.rest ≡ None
  unfolding packing_of
  nothing_left is = grind arith

  pub record IsPacked : Type 0 where
    pub divides : IsDivided options.peer_transfer bytes input
    pub reads : reading_of packed.texts.output ≡ packed_reading options input
    pub carries : AreCarried options (heads_of (reading_of packed.texts.output))
        (packed_transfers options input)

  pub is_packed : OptionsFit options → InputFits bytes
      → ((stream : List ℕ) (reading : Reading)
      → IsReadingOf stream reading → reading ≡ reading_of stream)
      → IsPacked
  unfolding packing_of
  is_packed fit fits only =
      let divides = is_divided options.peer_transfer bytes fits.are in
      let few = fits.few in
      let fewer = divides.few in
      let is = packed_is options fit input divides.bundles divides.rest (omega arith) in
      let reads = sym (only _ _ is) in
      let heads = ap heads_of reads ∙ heads_clean (packed_reading options input) refl in
      record {
        divides = divides;
        reads = reads;
        carries =
            rw heads (packed_carried options input divides.bundles divides.rest);
      }

-- ---- its limits

-- a length that is announced is that of a whole bundle
abbrev pub Announces : (whole : Bool) (size : ℕ) → Option ℕ → Type 0
Announces whole size announce =
    (announced_of (announced announce) ≡ Absent)
    ⊎ ((whole ≡ true) × (announced_of (announced announce) ≡ Total size))

pub none_announced : announced_of [] ≡ Absent
unfolding announced_of
none_announced = refl

pub total_announced : (total : ℕ) → announced_of (announced (Some total)) ≡ Total total
unfolding announced_of
total_announced total = refl

pub announces : (so_far : Cutting)
    → Announces so_far.whole (length so_far.bundle) (announcement so_far)
unfolding announcement
announces so_far = grind (arith, none_announced, total_announced)

module _ (options : PackOptions) where
  bundle_kept : (number : ℕ) (bundle : BundleWithInfo) → IsBundle options.peer_transfer bundle
      → TransferFits options (transfer_of options number bundle)
  bundle_kept number bundle is =
      (is.within, announces (cutting_of (sending options true bundle.bytes)))

  rest_kept : (number : ℕ) (rest : Option TailAfterBundles) (earlier : List Transfer)
      → IfSome rest (IsRest options.peer_transfer) → All (TransferFits options) earlier
      → All (TransferFits options) (rest_onto options number rest earlier)
  rest_kept number rest earlier is kept = grind (arith, announces, length-take)

-- ---- the whole

pub keeps : (options : PackOptions) (bytes : List ℕ) → IsPacked options bytes
    → IsStreamForPeer options (packed options bytes).texts.output
unfolding listing_of
keeps options bytes is =
    let bundles = onto_all options (TransferFits options) (bundle_kept options) 0 _ []
    is.divides.bundles (All-nil (TransferFits options)) in
    let same = heads_clean (reading_of (packed options bytes).texts.output)
    (ap (λ (r : Reading). r.end) is.reads) in
    let fits = rw same at is.carries.fits in
    grind (arith, rest_kept)

-- ---- a bundle

module _ (options : PackOptions) where
  judged_good : (number : ℕ) (bundle : BundleWithInfo) → verdict bundle.bytes ≡ Ok bundle.info
      → judgement_of (transfer_of options number bundle) ≡ Good bundle.info
  judged_good number bundle is = grind (arith, announces, eq-eqb)

  -- ---- all bundles

  -- what these bundles add to the output and to the report
  record AddsAll (number : ℕ) (bundles : List BundleWithInfo) (earlier : List Transfer) : Type 0 where
    pub parts : parts_of all (onto options number bundles earlier)
        ≡ parts_of all earlier ++ contents bundles
    pub lines : lines_of all (onto options number bundles earlier)
        ≡ lines_of all earlier ++ good_lines number (length (parts_of all earlier)) bundles
    pub good : are_good earlier ≡ true → are_good (onto options number bundles earlier) ≡ true

  adds_all : (number : ℕ) (bundles : List BundleWithInfo) (earlier : List Transfer)
      → AreBundles options.peer_transfer bundles → AddsAll number bundles earlier
  unfolding onto good_lines lines_of are_good
  adds_all number [] earlier are = record {
    parts = sym (append-nil (parts_of all earlier));
    lines = sym (append-nil (lines_of all earlier));
    good = λ good. good;
  }
  adds_all number (bundle ∷ more) earlier are =
      let latest = transfer_of options number bundle in
      let judged = judged_good number bundle are.0.is in
      let later = adds_all (suc number) more (latest ∷ earlier) are.1 in
      let parts = parts_more all latest earlier in
      record {
        parts = rw (later.parts, parts, append_assoc);
        lines = rw (later.lines, parts, length-append, judged, append_assoc);
        good = λ good. later.good (rw judged good);
      }

module _ (options : PackOptions) (bytes : List ℕ) (is_packed : IsPacked options bytes)
    (clean : (packed options bytes).status ≡ 0) where
  abbrev stream : List ℕ
  stream = (packed options bytes).texts.output

  pub gives_back : UnpacksToBundles options bytes stream
  unfolding by_transfers parts_of lines_of are_good
  gives_back = grind (arith, adds_all, nothing_left, whole_is)

-- ---- sizes

length-init : (interval segment_mru transfer_mru : ℕ) (node : List ℕ)
    → length (sess_init_bytes interval segment_mru transfer_mru node) ≡ 25 + length node
unfolding sess_init_bytes
length-init interval segment_mru transfer_mru node = grind (arith, length-append)

module _ (id : ℕ) (sending : BundleToCut) where
  length-segment : (k : ℕ)
      → length (segment_bytes id (cut_at sending k) (chunk_of sending k)) ≡ size_of_segment sending k
  unfolding segment_head_bytes announce_bytes total_bytes
  length-segment k = grind (arith, length-append)

  length-segments : (k count : ℕ)
      → length (segments_from id sending k count) ≡ size_of_segments sending k count
  unfolding segments_from size_of_segments
  length-segments k zero = refl
  length-segments k (suc count) =
      grind (arith, length-append, length-segment, length-segments (suc k) count)

  -- ---- lines

  segments_listed : (k count offset : ℕ)
      → message_lines (segment_entries id sending k count offset)
      ≡ segment_lines id sending k count offset
  unfolding message_lines segment_entries segment_lines
  segments_listed k zero offset = refl
  segments_listed k (suc count) offset =
      grind (arith, length-segment, segments_listed (suc k) count)

module _ (options : PackOptions) where
  term_listed : (asked : Bool) (offset : ℕ)
      → message_lines (term_entries options asked offset) ≡ term_line asked offset
  unfolding message_lines
  term_listed asked offset = grind (arith, append-nil)

  bundles_listed : (number : ℕ) (bundles : List BundleWithInfo) (offset after : ℕ)
      → after ≡ offset + length (transfer_bytes options number bundles)
      → message_lines (bundle_entries options number bundles offset
      ++ term_entries options options.send_term after)
      ≡ bundle_lines options number offset bundles
  unfolding bundle_entries bundle_lines transfer_bytes due
  bundles_listed number [] offset after at = term_listed options.send_term after ∙ ap (term_line options.send_term) (omega (arith, at))
  bundles_listed number (bundle ∷ more) offset after at =
      let whole = sending options true bundle.bytes in
      let count = chunks_of options bundle in
      let front = segment_entries number whole 0 count offset in
      let next = offset + length (segments_from number whole 0 count) in
      let rest = bundle_entries options (suc number) more next in
      let term = term_entries options options.send_term after in
      let follows : after ≡ next + length (transfer_bytes options (suc number) more) =
      omega (arith, at, length-append (segments_from number whole 0 count) (transfer_bytes options (suc number) more)) in
      ap message_lines (append_assoc front rest term) ∙ message_lines-append front (rest ++ term)
      ∙ ap₂ (λ (a b : List ℕ). a ++ b) (segments_listed number whole 0 count offset)
      (bundles_listed (suc number) more next after follows ∙ ap (λ n. bundle_lines options (suc number) (offset + n) more) (length-segments number whole 0 count))

  messages_listed : (bundles : List BundleWithInfo)
      → message_lines (packed_entries options (record { bundles = bundles; rest = None }))
      ≡ message_text 6 (init_entry options).message
      ++ bundle_lines options 0 (31 + length options.node.items) bundles
  unfolding message_lines
  messages_listed bundles =
      let init = init_bytes options in
      let segments = transfer_bytes options 0 bundles in
      let size = length-init options.keepalive options.segment_mru options.transfer_mru
      options.node.items in
      let sizes = length-append init segments in
      ap (λ (lines : List ℕ). message_text 6 (init_entry options).message ++ lines)
      (bundles_listed 0 bundles (6 + length init) _ (omega arith)
      ∙ ap (λ n. bundle_lines options 0 n bundles) (omega (arith, size)))

module _ (options : PackOptions) (bytes : List ℕ) (is_packed : IsPacked options bytes)
    (clean : (packed options bytes).status ≡ 0) where
  pub listed : ListsAsPacked options bytes (packed options bytes).texts.output
  unfolding listing_of
  listed = grind (arith, append_assoc, messages_listed, nothing_left)

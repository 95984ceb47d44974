-- The listing of a packed stream.
use Rattle.std.specs.Prelude.{◌≡◌, ℕ, zero, suc, ◌+◌, Bool, true, false, List, [], ◌∷◌, ◌++◌, length}
use Rattle.link_tool_option_types.specs.declared.pack.PackOptions.{PackOptions}
use Rattle.link_wire.specs.Spelling.{segment_head_size, segment_with, sess_init_with}
use Rattle.link_wire.specs.declared.message.Message.TheVariants.{SessTerm}
use Rattle.link_transfer.specs.Chunks.{chunk_at, chunk_count}
use Rattle.link_report.specs.Message.{contact_text, message_text}
use Rattle.link_tool_list.specs.Listing.{list_tool}
use Rattle.link_run_over_bundle_files.specs.Bundles.{BundleWithInfo, divided}
use Rattle.link_tool_pack.specs.Packing.{segment_size, sending}
use Rattle.link_tool_pack.specs.Segments.{BundleToCut, cut_at, flags_of}

-- ---- a segment

-- the flags of the segment of chunk number `k`
abbrev pub flags_at : BundleToCut → (k : ℕ) → ℕ
flags_at sending k = flags_of (cut_at sending k).first (cut_at sending k).last

-- the number of bytes of data in the segment of chunk number `k`
abbrev pub length_at : BundleToCut → (k : ℕ) → ℕ
length_at sending k = length (chunk_at sending.segment k sending.bundle)

-- the line of the segment of chunk number `k`, if the segment is at this offset
abbrev pub segment_line : (id : ℕ) → BundleToCut → (k offset : ℕ) → List ℕ
segment_line id sending k offset =
    message_text offset (segment_with (flags_at sending k) id (length_at sending k)
    (cut_at sending k).announce)

-- the number of bytes of the segment of chunk number `k`: its head and its data
abbrev pub size_of_segment : BundleToCut → (k : ℕ) → ℕ
size_of_segment sending k =
    segment_head_size (flags_at sending k) (cut_at sending k).announce + length_at sending k

-- ---- segments

-- the lines of `count` segments from chunk number `k` on, if the first is at this offset
unfoldable pub segment_lines : (id : ℕ) → BundleToCut → (k count offset : ℕ) → List ℕ
segment_lines id sending k zero offset = []
segment_lines id sending k (suc count) offset =
    segment_line id sending k offset
    ++ segment_lines id sending (suc k) count (offset + size_of_segment sending k)

-- the number of bytes of `count` segments from chunk number `k` on
unfoldable pub size_of_segments : BundleToCut → (k count : ℕ) → ℕ
size_of_segments sending k zero = 0
size_of_segments sending k (suc count) =
    size_of_segment sending k + size_of_segments sending (suc k) count

-- ---- bundles

-- the number of chunks of a bundle, each of which is the data of one segment
abbrev pub chunks_of : PackOptions → BundleWithInfo → ℕ
chunks_of options bundle = chunk_count (segment_size options) (length bundle.bytes)

-- the line of SESS_TERM, if it is asked for
abbrev pub term_line : (asked : Bool) (offset : ℕ) → List ℕ
term_line true offset = message_text offset (SessTerm 0 0)
term_line false offset = []

-- A line for each segment of each bundle, and then the line of SESS_TERM. The first bundle has this
-- number, and its first segment is at this offset.
unfoldable pub bundle_lines : PackOptions → (number offset : ℕ) → List BundleWithInfo → List ℕ
bundle_lines options number offset [] = term_line options.send_term offset
bundle_lines options number offset (bundle ∷ more) =
    let whole = sending options true bundle.bytes in
    let count = chunks_of options bundle in
    segment_lines number whole 0 count offset
    ++ bundle_lines options (suc number) (offset + size_of_segments whole 0 count) more

-- The lines of a packed stream. The contact header has 6 bytes, and SESS_INIT has 25 bytes and the
-- node ID.
abbrev pub packed_lines : PackOptions → List BundleWithInfo → List ℕ
packed_lines options bundles =
    contact_text (record { flags = 0 })
    ++ message_text 6 (sess_init_with options.keepalive options.segment_mru
    options.transfer_mru options.node.items)
    ++ bundle_lines options 0 (31 + length options.node.items) bundles

-- listing the stream writes these lines, and finds no fault
pub record ListsAsPacked (options : PackOptions) (bytes stream : List ℕ) : Type 0 where
  pub output : (list_tool.whole stream).texts.output
      ≡ packed_lines options (divided options.peer_transfer bytes).bundles
  pub report : (list_tool.whole stream).texts.report ≡ []
  pub status : (list_tool.whole stream).status ≡ 0

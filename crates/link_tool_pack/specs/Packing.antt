-- What `pack` writes for an input: the stream of a sender (RFC 9174) that carries its bundles.
use Rattle.std.specs.Prelude.{ℕ, suc, min, Bool, true, false, List, [], ◌∷◌, ◌++◌, length, Option, Some, None, if◌then◌else◌}
use Rattle.link_wire.specs.Spelling.{contact_bytes, sess_init_bytes, sess_term_bytes}
use Rattle.link_transfer.specs.Chunks.{chunk_count}
use Rattle.link_report.specs.Packed.{packed_text}
use Rattle.link_run.specs.Made.{Made, tool_of}
use Rattle.link_run.specs.Run.{Tool}
use Rattle.link_run_over_bundle_files.specs.Bundles.{BundleWithInfo, TailAfterBundles, Divided, divided}
use Rattle.link_run_over_bundle_files.specs.Telling.{stop_by}
use Rattle.link_tool_pack.specs.Segments.{BundleToCut, segments_of}
use Rattle.link_tool_option_types.specs.declared.pack.PackOptions.{PackOptions}

-- ---- the output

-- the contact header (section 4.2), without flags, and SESS_INIT (section 4.6)
unfoldable pub prelude_bytes : PackOptions → List ℕ
prelude_bytes options =
    contact_bytes 0 ++ sess_init_bytes options.keepalive options.segment_mru
    options.transfer_mru options.node.items

-- the most bytes of data in a segment: what the peer takes, but no more than 65,536
abbrev pub segment_size : PackOptions → ℕ
segment_size options = min options.peer_segment 65536

-- What the segments of a transfer carry. If `whole` is true, `bundle` is a whole bundle. Otherwise
-- it is those bytes of an incomplete bundle that were accepted so far.
abbrev pub sending : PackOptions → (whole : Bool) → List ℕ → BundleToCut
sending options whole bundle =
    record {
      segment = segment_size options;
      hold = options.announce;
      bundle = bundle;
      whole = whole;
    }

-- the transfers of these bundles (section 5.2.2), whose IDs are their numbers, from `number` on
unfoldable pub transfer_bytes : PackOptions → (number : ℕ) → List BundleWithInfo → List ℕ
transfer_bytes options number [] = []
transfer_bytes options number (bundle ∷ more) =
    segments_of number (sending options true bundle.bytes)
    ++ transfer_bytes options (suc number) more

-- The segments that are due when an input does not end after a whole bundle: those of the accepted
-- bytes after the last bundle. None of them is the last of its transfer.
abbrev pub rest_segments : PackOptions → (number : ℕ) → Option TailAfterBundles → List ℕ
rest_segments options number None = []
rest_segments options number (Some rest) =
    segments_of number (sending options false rest.before_fault)

-- SESS_TERM (section 6.1), if the options ask for it, after an input that does not stop at a fault.
-- It has no flags, and the reason 0.
abbrev pub end_bytes : PackOptions → List ℕ
end_bytes options = if options.send_term then sess_term_bytes 0 0 else []

-- ---- the report

-- the line of a bundle; `number` is its number in the input
abbrev pub report_line : PackOptions → (number : ℕ) → BundleWithInfo → List ℕ
report_line options number bundle = packed_text (record {
  number = number;
  segments = chunk_count (segment_size options) (length bundle.bytes);
  length = length bundle.bytes;
  info = bundle.info;
})

-- a line for each bundle; `number` is the number of the first of them
unfoldable pub report_lines : PackOptions → (number : ℕ) → List BundleWithInfo → List ℕ
report_lines options number [] = []
report_lines options number (bundle ∷ more) =
    report_line options number bundle ++ report_lines options (suc number) more

-- ---- the whole input

-- the output without SESS_TERM: what begins the stream, the transfer of each bundle, and the
-- segments that are due of the bytes after the last bundle
abbrev pub bundles_output : PackOptions → Divided → List ℕ
bundles_output options input =
    prelude_bytes options ++ transfer_bytes options 0 input.bundles
    ++ rest_segments options (length input.bundles) input.rest

-- What `pack` makes of an input, by its bundles and what follows them. `ended` and `good` are about
-- an input that no fault stops. Its `rest` is `None`, so its output has whole transfers only.
abbrev pub packing_by : PackOptions → Divided → Made
packing_by options input = record {
  texts = record {
    output = bundles_output options input;
    report = report_lines options 0 input.bundles;
  };
  stop = stop_by (length input.bundles) input.rest;
  ended = record {
    output = bundles_output options input ++ end_bytes options;
    report = report_lines options 0 input.bundles;
  };
  good = true;
}

-- what `pack` makes of an input
unfoldable pub packing_of : PackOptions → List ℕ → Made
packing_of options bytes = packing_by options (divided options.peer_transfer bytes)

-- `pack` as a tool
abbrev pub pack_tool : PackOptions → Tool
pack_tool options = tool_of (packing_of options)

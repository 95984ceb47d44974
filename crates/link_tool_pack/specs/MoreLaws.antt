-- What `pack_more` writes, compared with the stream of `pack`.
use Rattle.std.specs.Prelude.{◌≡◌, ℕ, ◌+◌, ◌-◌, ◌^◌, ◌≤◌, List, ◌++◌, map, length}
use Rattle.link_wire.specs.Stream.{Entry, Clean, stream_at}
use Rattle.link_wire.specs.declared.message.Message.{Message}
use Rattle.link_wire.specs.declared.message.Message.TheVariants.{Segment}
use Rattle.link_run_over_bundle_files.specs.Bundles.{divided}
use Rattle.link_tool_option_types.specs.declared.pack.PackOptions.{PackOptions}
use Rattle.link_tool_pack.specs.Packing.{prelude_bytes, end_bytes, report_lines, packing_of}
use Rattle.link_tool_pack.specs.More.{more_of}
use Rattle.link_tool_pack.specs.declared.more.MoreOptions.{MoreOptions}

-- the options of `pack_more` with these options of `pack`, and with transfer IDs from `first` on
abbrev pub from : (first : ℕ) → PackOptions → MoreOptions
from first options = record { first = first; pack = options }

-- The output of `pack` is the prelude, and then the output of `pack_more` with the first ID 0. If
-- no fault stops the input and the options ask for it, SESS_TERM follows (`ended`). Both write the
-- same report, and stop at the same fault.
pub record IsPreludeThenPackMore (options : PackOptions) (bytes : List ℕ) : Type 0 where
  pub output : (packing_of options bytes).texts.output
      ≡ prelude_bytes options ++ (more_of (from 0 options) bytes).texts.output
  pub ended : (packing_of options bytes).ended.output
      ≡ prelude_bytes options ++ (more_of (from 0 options) bytes).ended.output ++ end_bytes options
  -- if all IDs fit
  pub report : length (divided options.peer_transfer bytes).bundles ≤ 2 ^ 64
      → (packing_of options bytes).texts.report ≡ (more_of (from 0 options) bytes).texts.report
  pub stop : (packing_of options bytes).stop ≡ (more_of (from 0 options) bytes).stop

-- An input has no more bundles than bytes. So if the first ID and the number of bytes together are
-- at most 2^64 - 1, all IDs fit in 64 bits.
abbrev pub HasNoMoreBundlesThanBytes : (limit : ℕ) → (bytes : List ℕ) → Type 0
HasNoMoreBundlesThanBytes limit bytes = length (divided limit bytes).bundles ≤ length bytes

-- If all IDs fit, the lines of the report begin with the IDs from `first` on.
abbrev pub HasLinesFromFirst : MoreOptions → (bytes : List ℕ) → Type 0
HasLinesFromFirst options bytes =
    let bundles = (divided options.pack.peer_transfer bytes).bundles in
    options.first + length bundles ≤ 2 ^ 64
    → (more_of options bytes).texts.report ≡ report_lines options.pack options.first bundles

-- the message, with `first` added to its transfer ID if it is a segment
abbrev pub moved : (first : ℕ) → Message → Message
moved first (Segment head) = Segment (record head { id = first + head.id })
moved first message = message

-- the entry, with its message moved in this way
abbrev pub moved_entry : (first : ℕ) → Entry → Entry
moved_entry first entry = record entry { message = moved first entry.message }

-- With another first ID, the segments are the same except for their IDs. All IDs have to fit. This
-- includes the ID after the last whole bundle, which the segments of an incomplete bundle have.
-- `stream_at` reads the output as messages. The output ends between two messages (`Clean`).
abbrev pub SegmentsDifferOnlyInIds : Type 0
SegmentsDifferOnlyInIds =
    (first : ℕ) (options : PackOptions) (bytes : List ℕ) →
    first + length (divided options.peer_transfer bytes).bundles ≤ 2 ^ 64 - 1 →
    stream_at 0 (more_of (from first options) bytes).texts.output
    ≡ record {
      entries = map (moved_entry first)
          (stream_at 0 (more_of (from 0 options) bytes).texts.output).entries;
      end = Clean;
    }

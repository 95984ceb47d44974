-- What `blocks` writes for a recorded stream: the lines of the blocks in its transfers.
use Rattle.std.specs.Prelude.{ℕ, Bool, false, List, [], ◌∷◌, ◌++◌, length, Option, if◌then◌else◌}
use Rattle.std.specs.List.{flat_map}
use Rattle.link_report_blocks.specs.Blocks.{end_text}
use Rattle.link_run.specs.Made.{Made, tool_of}
use Rattle.link_run.specs.Run.{Tool}
use Rattle.link_run_over_transfers.specs.Walk.{WalkEvent, MessageHead, has_open, Telling, told_of}
use Rattle.link_run_judge.specs.Transfers.{Transfer}
use Rattle.link_run_judge.specs.Unpacking.{is_selected, judgement_of, order_line, told_after, unpack_telling}
use Rattle.link_tool_option_types.specs.declared.wanted.Wanted.{Wanted}
use Rattle.link_tool_blocks.specs.BlockLines.{block_lines}
use Rattle.link_tool_option_types.specs.declared.blocks.BlockOptions.{BlockOptions}

-- ---- the output

-- the line of the end of a transfer, with the judgement that `unpack` reports
abbrev pub end_line : Transfer → List ℕ
end_line transfer = end_text transfer.first.id (length transfer.content) (judgement_of transfer)

-- The lines of a transfer, if it is selected: the lines of its blocks, and the line of its end
-- unless it is open.
abbrev pub transfer_lines : (only : Option ℕ) → (is_open : Bool) → Transfer → List ℕ
transfer_lines only is_open transfer =
    if is_selected only transfer.first.id
    then block_lines transfer.first.id transfer.content
    ++ (if is_open then [] else end_line transfer)
    else []

-- the lines of all transfers; the latest transfer is first in the list, and may be open
unfoldable pub lines_of : (only : Option ℕ) → (is_open : Bool) → List Transfer → List ℕ
lines_of only is_open [] = []
lines_of only is_open (latest ∷ earlier) =
    lines_of only false earlier ++ transfer_lines only is_open latest

-- ---- the report

-- the line of a head that is not in order; no other event has one
abbrev pub order_line_of : WalkEvent → List ℕ
order_line_of (MessageHead head) = order_line head.offset head.fault
order_line_of _ = []

-- ---- a stream

-- The options of `unpack` with the same selection and the same `keep_going`. `blocks` uses only the
-- transfers and the status of this `unpack`. Neither depends on `payload`.
abbrev pub unpacking_by : BlockOptions → Wanted
unpacking_by options =
    record { only = options.only; payload = false; keep_going = options.keep_going }

-- What `blocks` says of a stream. The output is the lines of the transfers. The report is the lines
-- of the heads that are not in order. `manner` and `good` are as in `unpack`, so the status is too.
abbrev pub blocks_telling : BlockOptions → Telling
blocks_telling options =
    let wanted = unpacking_by options in
    record {
      manner = (unpack_telling wanted).manner;
      texts = λ events. record {
        output = lines_of options.only (has_open events) (told_after wanted events).transfers;
        report = flat_map order_line_of events;
      };
      good = (unpack_telling wanted).good;
    }

-- what `blocks` makes of a stream
abbrev pub blocks_of : BlockOptions → List ℕ → Made
blocks_of options bytes = told_of (blocks_telling options) bytes

abbrev pub blocks_tool : BlockOptions → Tool
blocks_tool options = tool_of (blocks_of options)

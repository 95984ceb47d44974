-- What `pack_more` writes for an input whose bundles are sent in a session that is open: their
-- segments alone.
use Rattle.std.specs.Prelude.{ℕ, suc, ◌+◌, ◌%◌, ◌^◌, true, List, [], ◌∷◌, ◌++◌, length}
use Rattle.link_run.specs.Made.{Made, tool_of}
use Rattle.link_run.specs.Run.{Texts, Tool}
use Rattle.link_run_over_bundle_files.specs.Bundles.{BundleWithInfo, Divided, divided}
use Rattle.link_run_over_bundle_files.specs.Telling.{stop_by}
use Rattle.link_tool_pack.specs.Packing.{transfer_bytes, rest_segments, report_line}
use Rattle.link_tool_pack.specs.declared.more.MoreOptions.{MoreOptions}

-- The segments of each bundle, and those that are due of the bytes after the last bundle. The
-- transfers have the ID `first` and those after it. If an ID is above 2^64 - 1, its segments have
-- its lowest 64 bits.
abbrev pub more_output : MoreOptions → Divided → List ℕ
more_output options input =
    transfer_bytes options.pack options.first input.bundles
    ++ rest_segments options.pack (options.first + length input.bundles) input.rest

-- The ID in the segments of a bundle, which comes after `number` bundles. After 2^64 - 1, the IDs
-- go on with 0.
abbrev pub id_at : MoreOptions → (number : ℕ) → ℕ
id_at options number = (options.first + number) % 2 ^ 64

-- a line for each bundle, which begins with the ID of its transfer; `number` bundles come before
-- these
unfoldable pub more_lines : MoreOptions → (number : ℕ) → List BundleWithInfo → List ℕ
more_lines options number [] = []
more_lines options number (bundle ∷ more) =
    report_line options.pack (id_at options number) bundle ++ more_lines options (suc number) more

-- what `pack_more` writes for an input, without the line of a fault
abbrev pub more_texts : MoreOptions → Divided → Texts
more_texts options input = record {
  output = more_output options input;
  report = more_lines options 0 input.bundles;
}

-- What is made of an input, by its bundles and what follows them. The line of a fault has the
-- number of bundles before it, as in `pack`. Nothing is written before the first bundle or after
-- the last.
abbrev pub more_by : MoreOptions → Divided → Made
more_by options input = record {
  texts = more_texts options input;
  stop = stop_by (length input.bundles) input.rest;
  ended = more_texts options input;
  good = true;
}

-- what is made of an input
unfoldable pub more_of : MoreOptions → List ℕ → Made
more_of options bytes = more_by options (divided options.pack.peer_transfer bytes)

-- `pack_more` as a tool
abbrev pub more_tool : MoreOptions → Tool
more_tool options = tool_of (more_of options)

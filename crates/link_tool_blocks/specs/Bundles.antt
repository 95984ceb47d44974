-- What `blocks --bundles` writes for an input: the lines of the blocks in its bundles.
use Rattle.std.specs.Prelude.{ℕ, suc, true, List, [], ◌∷◌, ◌++◌, length}
use Rattle.link_report.specs.declared.judgement.Judgement.TheVariants.{Good}
use Rattle.link_report_blocks.specs.Blocks.{end_text}
use Rattle.link_run.specs.Made.{Made, tool_of}
use Rattle.link_run.specs.Run.{Tool}
use Rattle.link_run.specs.Writers.{on_output}
use Rattle.link_run_over_bundle_files.specs.Bundles.{BundleWithInfo, bundle_limit}
use Rattle.link_run_over_bundle_files.specs.Telling.{BundleTelling, told_of}
use Rattle.link_tool_blocks.specs.BlockLines.{block_lines}

-- the lines of a whole bundle: the lines of its blocks, and the line of its end
abbrev pub whole_lines : (number : ℕ) → BundleWithInfo → List ℕ
whole_lines number bundle =
    block_lines number bundle.bytes ++ end_text number (length bundle.bytes) (Good bundle.info)

-- the lines of whole bundles; `number` is the number of the first bundle
unfoldable pub bundle_lines : (number : ℕ) → List BundleWithInfo → List ℕ
bundle_lines number [] = []
bundle_lines number (bundle ∷ more) = whole_lines number bundle ++ bundle_lines (suc number) more

-- What `blocks --bundles` says of bundles, and of the bytes `begun` of the next one. For the bytes
-- `begun`, the output has the lines of the blocks that are whole in them, even if a fault follows
-- these blocks. The only line of the report is the line of the fault that stops the run. `good` is
-- always true, since a bundle that is not good stops the run.
abbrev pub bundle_blocks_telling : BundleTelling
bundle_blocks_telling = record {
  limit = bundle_limit;
  texts = λ now.
      on_output (bundle_lines 0 now.bundles ++ block_lines (length now.bundles) now.begun);
  ended = λ bundles. on_output (bundle_lines 0 bundles);
  good = λ bundles. true;
}

-- what `blocks --bundles` makes of an input
abbrev pub bundle_blocks_of : List ℕ → Made
bundle_blocks_of bytes = told_of bundle_blocks_telling bytes

abbrev pub bundle_blocks_tool : Tool
bundle_blocks_tool = tool_of bundle_blocks_of

-- The lines that `blocks` writes for a recording, and those that `blocks --bundles` writes for what
-- `unpack` writes of the same recording.
use Rattle.std.specs.{Prelude.{◌≡◌, ℕ, suc, false, List, [], ◌∷◌, None, Ok}, List.{All, flat_map}}
use Rattle.link_tool_option_types.specs.declared.blocks.BlockOptions.{BlockOptions}
use Rattle.link_bundle_blocks.specs.Bundle.{verdict}
use Rattle.link_run.specs.Writers.{on_output}
use Rattle.link_run_judge.specs.Unpacking.{unpack_tool}
use Rattle.link_run_over_bundle_files.specs.Bundles.{BundleWithInfo}
use Rattle.link_tool_blocks.specs.Bundles.{whole_lines, bundle_blocks_tool}
use Rattle.link_tool_blocks.specs.Showing.{blocks_tool}
use Rattle.link_tools_laws.specs.RoundTrip.{all}

-- `blocks` without options: the lines of all transfers
abbrev pub shown : BlockOptions
shown = record { only = None; keep_going = false }

-- the output of `unpack` without options
abbrev pub unpacked : List ℕ → List ℕ
unpacked bytes = ((unpack_tool all).whole bytes).texts.output

-- the lines of bundles, each under its number
abbrev pub lines_under : List (ℕ × BundleWithInfo) → List ℕ
lines_under bundles =
    flat_map (λ (numbered : ℕ × BundleWithInfo). whole_lines numbered.0 numbered.1) bundles

-- the same bundles, numbered one after another
unfoldable pub renumbered : (from : ℕ) → List (ℕ × BundleWithInfo) → List (ℕ × BundleWithInfo)
renumbered from [] = []
renumbered from ((id, bundle) ∷ more) = (from, bundle) ∷ renumbered (suc from) more

-- The recording has a good bundle in each transfer. `blocks` writes the lines of these bundles,
-- each under the ID of its transfer. `blocks --bundles` writes the same lines for what `unpack`
-- writes, but under the numbers from 0. Neither finds a fault.
pub record HasSameBlockLinesUnpacked (bytes : List ℕ) : Type 0 where
  -- the IDs of the transfers and their bundles
  pub bundles : List (ℕ × BundleWithInfo)
  pub good : All (λ (numbered : ℕ × BundleWithInfo).
      verdict numbered.1.bytes ≡ Ok numbered.1.info) bundles
  pub unpacks : unpacked bytes
      ≡ flat_map (λ (numbered : ℕ × BundleWithInfo). numbered.1.bytes) bundles
  pub recorded : (blocks_tool shown).whole bytes
      ≡ record { texts = on_output (lines_under bundles); status = 0 }
  pub joined : bundle_blocks_tool.whole (unpacked bytes)
      ≡ record { texts = on_output (lines_under (renumbered 0 bundles)); status = 0 }

-- Relations: what is kept of the bundles of an input.
use Rattle.std.specs.Prelude.{◌≡◌, [], ◌∷◌, ◌++◌}
use Rattle.link_bundle_types.specs.declared.info.BundleInfo.{BundleInfo}
use Rattle.link_run_over_bundle_files.specs.Bundles.{size_of}
use Rattle.link_run_over_bundle_files.specs.Telling.{SoFar, between}
use Rattle.link_tool_check.specs.BundleReader.{IsBundleReaderAt}
use Rattle.link_tool_check.specs.Bundles.{broken_bundles}
use Rattle.link_tool_check.specs.Lines.{none_counts}
use Rattle.link_tool_option_types.specs.declared.check.BundleCheckOptions.{BundleCheckOptions}
use Rattle.link_tool_check.specs.declared.bundles.BundleChecker.{BundleChecker}

-- the checker has had exactly these bundles, and then these bytes of the next one
pub record IsBundleCheckerAt (options : BundleCheckOptions) (now : BundleChecker) (so_far : SoFar)
    : Type 0 where
  pub offset : now.offset ≡ size_of so_far.bundles
  pub reading : IsBundleReaderAt options.own.items now.bundle so_far.begun
  -- the first bundle has the number 0 and the offset 0
  pub good : now.good
      ≡ none_counts options.must (broken_bundles options.own.items 0 0 so_far.bundles)

-- The bundle that has begun is whole now, and has these fields. No byte of the next one has come.
abbrev pub with_end : SoFar → BundleInfo → SoFar
with_end before info =
    between (before.bundles ++ record { bytes = before.begun; info = info } ∷ [])

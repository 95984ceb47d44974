-- Relations: what `pack_more` says of the bundles so far.
use Rattle.std.specs.Prelude.{ℕ, ◌+◌, true, false, List, [], ◌++◌, length}
use Rattle.link_run.specs.Run.{Texts}
use Rattle.link_run_over_bundle_files.specs.Bundles.{BundleWithInfo}
use Rattle.link_run_over_bundle_files.specs.Telling.{BundleTelling}
use Rattle.link_tool_pack.specs.Segments.{segments_of}
use Rattle.link_tool_pack.specs.Packing.{sending, transfer_bytes}
use Rattle.link_tool_pack.specs.More.{more_lines}
use Rattle.link_tool_pack.specs.declared.more.MoreOptions.{MoreOptions}

-- the texts for these bundles, and for the bytes `begun` of the next one
abbrev pub more_texts_of : MoreOptions → List BundleWithInfo → (begun : List ℕ) → Texts
more_texts_of options bundles begun = record {
  output =
      transfer_bytes options.pack options.first bundles
      ++ segments_of (options.first + length bundles) (sending options.pack false begun);
  report = more_lines options 0 bundles;
}

-- What `pack_more` says of the bundles of an input. All of them are good, since the run stops at a
-- bundle with a fault.
abbrev pub more_telling : MoreOptions → BundleTelling
more_telling options = record {
  limit = options.pack.peer_transfer;
  texts = λ now. more_texts_of options now.bundles now.begun;
  ended = λ bundles. more_texts_of options bundles [];
  good = λ bundles. true;
}

use Rattle.std.proofs.Common.{ap, sym, refl, ◌++◌, length}
use Rattle.link_run.specs.Writers.{on_output}
use Rattle.link_run_over_bundle_files.proofs.Told.{told_none}
use Rattle.link_tool_blocks.specs.Bundles.{bundle_lines}
use Rattle.link_tool_blocks.specs.LineLaws.{lines_same}
use Rattle.link_tool_blocks.proofs.bundles.BundleListerBundleConsumer.stop.Goals as goal

pub returns : goal.returns
returns g c = λ before reading stops.
    told_none (rw (lines_same (length before.bundles) before.begun c.args._bytes.now (stops.blocks refl)) refl) tt

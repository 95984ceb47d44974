use Rattle.std.proofs.Common.{refl}
use Rattle.link_run.specs.Writers.{on_output}
use Rattle.link_tool_pack.specs.Packing.{end_bytes}
use Rattle.link_tool_pack.proofs.Sending.{holds_if}
use Rattle.link_tool_pack.proofs.packer.PackerBundleConsumer.end.Goals as goal

pub returns : goal.returns
returns g c = λ bundles keeps. record {
  texts = on_output (end_bytes c.args.options.now);
  said = refl;
  wrote = c.write_end.ensures;
  known = holds_if c.write_end.result tt;
}

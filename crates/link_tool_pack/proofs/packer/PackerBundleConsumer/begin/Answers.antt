use Rattle.std.proofs.Common.{sym, rules}
use Rattle.link_run.specs.Writers.{on_output}
use Rattle.link_tool_pack.specs.Packing.{prelude_bytes}
use Rattle.link_tool_pack.proofs.{Outcomes.prelude_texts, Sending.holds_if}
use Rattle.link_tool_pack.proofs.packer.PackerBundleConsumer.begin.Goals as goal

pub returns-clause-gives : goal.returns-clause-gives
returns-clause-gives g c = λ keeps. record {
  texts = on_output (prelude_bytes c.args.options.now);
  said = sym (prelude_texts c.args.options.now);
  wrote = search rules;
  known = holds_if c.write_output.result keeps;
}

use Rattle.std.proofs.Common.{◌++◌, ap, sym, arith}
use Rattle.link_bundle_blocks.specs.Bundle.{blocks_in}
use Rattle.link_bundle_data_in_pieces.proofs.Reading.{lies_within}
use Rattle.link_run.specs.Writers.{on_output}
use Rattle.link_run_judge.proofs.Counts.{on_ok}
use Rattle.link_tool_blocks.specs.LineLaws.{line_more}
use Rattle.link_tool_blocks.proofs.block_lines.BlockLinesBlockConsumer.block.Goals as goal

pub returns-in-Primary : goal.returns-in-Primary
returns-in-Primary g c = rw c.in-Primary.is (λ before run knows goes grown few read. record {
  texts = _;
  said = ap on_output (sym (line_more c.args.number c.args.reader.now.flags before run _
      read.reading.flags grown));
  wrote = c.write_primary.ensures;
  known = on_ok c.write_primary.result tt;
})

pub returns-in-Canonical : goal.returns-in-Canonical
returns-in-Canonical g c = rw c.in-Canonical.is (λ before run knows goes grown few read.
    let within = lies_within (before ++ run) (blocks_in before) c.in-Canonical.block grown in
    record {
      texts = _;
      said = ap on_output (sym (line_more c.args.number c.args.reader.now.flags before run _
          read.reading.flags grown));
      wrote = c.write_canonical.ensures (before ++ run) (omega (arith, within, few)) read.whole;
      known = on_ok c.write_canonical.result tt;
    })

use Rattle.std.proofs.Common.{◌++◌, refl, arith}
use Rattle.link_bundle_blocks.specs.{Blocks.viewed_primary, Bundle.blocks_in}
use Rattle.link_bundle_data_in_pieces.proofs.Reading.{lies_within}
use Rattle.link_run_over_bundle_files.proofs.Told.{told_none}
use Rattle.link_tool_check.proofs.Blocks.{history_begins, history_adds}
use Rattle.link_tool_check.proofs.bundle.KeptBlocksBlockConsumer.block.Goals as goal

pub returns-in-Primary : goal.returns-in-Primary
returns-in-Primary g c = rw c.in-Primary.is (λ before run knows goes grown few read.
    let block = c.in-Primary.block in
    told_none refl (history_begins c.args.own.now.items before run c.begin.new.self (viewed_primary block) block.check
    block.end grown c.begin.ensures))

pub returns-in-Canonical : goal.returns-in-Canonical
returns-in-Canonical g c = rw c.in-Canonical.is (λ before run knows goes grown few read.
    let block = c.in-Canonical.block in
    let now = before ++ run in
    let within = lies_within now (blocks_in before) block grown in
    told_none refl (history_adds c.args.own.now.items before run block grown c.args.self.now.begun
    c.args.self.now.history c.add.new.history knows (λ room. rw (c.as_slice.ensures.value, read.reading.flags)
    at (c.add.ensures now room (omega (arith, within, few)) read.whole))))

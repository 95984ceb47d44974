use Rattle.std.proofs.Common.{◌+◌, ◌^◌, ◌<◌, sym, arith}
use Rattle.link_bundle_data_in_pieces.specs.DataReader.{read_size}
use Rattle.link_tool_check.proofs.Offsets.{long_fits}
use Rattle.link_tool_check.proofs.bundle.add.Goals as goal

pub returns-in-None : goal.returns-in-None
returns-in-None c = λ seen few less reading.
    let block = c.args.block.now in
    let said = rw c.in-None.is at (c.found.ensures.found seen block reading) in
    let long = c.long_head-long_head.ensures.found seen block reading in
    let room : block.data_start + read_size c.args.reader.now < 2 ^ 64 =
    omega (arith, c.requires, less) in
    rw (sym said, sym long) (c.take.ensures few tt
    (long_fits block _ _ c.long_head-long_head.ensures.within room))

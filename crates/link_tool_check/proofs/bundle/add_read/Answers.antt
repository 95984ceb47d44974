use Rattle.std.proofs.Common.{◌+◌, ◌^◌, ◌<◌, arith}
use Rattle.link_bundle_data_in_pieces.specs.DataReader.{read_size}
use Rattle.link_tool_check.proofs.Offsets.{malformed_fits, long_fits}
use Rattle.link_tool_check.proofs.bundle.add_read.Goals as goal

pub returns : goal.returns
returns c = λ seen few less reading.
    let block = c.args.block.now in
    let said = c.found-found.ensures.found seen block reading in
    let long = c.long_head-long_head.ensures.found seen block reading in
    let room : block.data_start + read_size c.args.reader.now < 2 ^ 64 =
    omega (arith, c.requires, less) in
    let fits = c.found-found.ensures.fits block.data_start room in
    rw (said, long) at (c.take.ensures few (malformed_fits block _ fits)
    (long_fits block _ _ c.long_head-long_head.ensures.within room))

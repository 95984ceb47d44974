use Rattle.std.proofs.Common.{arith}
use Rattle.link_cbor.proofs.Stages.{count_fits}
use Rattle.link_cbor.proofs.head_scan.HeadScanPiecewise.count.Goals as goal

pub returns-clause-small : goal.returns-clause-small
returns-clause-small c = omega (arith, c.from.ensures, count_fits)

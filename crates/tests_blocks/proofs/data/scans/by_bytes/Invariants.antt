use Rattle.std.proofs.Common.{◌≤◌}
use Rattle.link_bundle_data.specs.Scan.{scan_size}
use Rattle.tests_blocks.proofs.data.scans.by_bytes.Given as goal

abbrev pub invariant-loop-byte : goal.invariant-loop-byte
invariant-loop-byte l = scan_size l.scan ≤ l.byte-index

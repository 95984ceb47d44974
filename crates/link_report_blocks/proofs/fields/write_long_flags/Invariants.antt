use Rattle.std.proofs.Common.{◌≡◌, ◌+◌, ◌*◌, ◌≤◌, ◌++◌, length, take}
use Rattle.std.specs.List.{flat_map}
use Rattle.link_report.specs.Text.{hex2}
use Rattle.link_report_blocks.proofs.fields.write_long_flags.Given as goal

abbrev pub invariant-loop-byte : goal.invariant-loop-byte
invariant-loop-byte l = record {
  text : take l.end l.page ≡ take l.initial.end l.initial.page ++ flat_map hex2 (take l.byte-index l.kept);
  room : l.end ≤ l.initial.end + 2 * l.byte-index;
  size : length l.page ≡ length l.initial.page;
}

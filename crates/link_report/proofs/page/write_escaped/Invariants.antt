use Rattle.std.proofs.Common.{◌*◌, take}
use Rattle.std.specs.List.{flat_map}
use Rattle.link_report.specs.{Text.escaped_byte, Written.PutsText}
use Rattle.link_report.proofs.page.write_escaped.Given as goal

abbrev pub invariant-loop-byte : goal.invariant-loop-byte
invariant-loop-byte l = PutsText l.initial.page l.page l.initial.end l.end (4 * l.byte-index)
    (flat_map escaped_byte (take l.byte-index l.bytes))

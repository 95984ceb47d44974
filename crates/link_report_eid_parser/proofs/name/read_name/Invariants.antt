use Rattle.std.proofs.Common.{◌≡◌, ◌++◌, length}
use Rattle.link_io.specs.Bytes.{AreBytes}
use Rattle.link_report.specs.Text.{escaped}
use Rattle.link_report_eid_parser.proofs.name.read_name.Given as goal

-- the text is that of the name so far, and the rest
abbrev pub invariant-loop-rest : goal.invariant-loop-rest
invariant-loop-rest l = record {
  are : AreBytes l.name.items;
  text : l.text ≡ escaped l.name.items ++ l.rest;
}

abbrev pub decreases-loop-rest : goal.decreases-loop-rest
decreases-loop-rest l = length l.rest

use Rattle.std.proofs.Common.{map, take, Ok}
use Rattle.link_tool_check.specs.{Lines.at_offset, Writing.WritesRules}
use Rattle.link_tool_check.proofs.lines.write_rules.Given as goal

-- the lines of the first rules were written
abbrev pub invariant-loop-rule : goal.invariant-loop-rule
invariant-loop-rule g l =
    WritesRules g.W.OutDevice.state g.E.OutDevice.state l.must l.fn.writers l.writers l.fn.good
    l.good (Ok (tt {0})) (at_offset l.offset l.doubt (map (g.T.Rule.broken l.owner) (take l.rule-index l.rules)))

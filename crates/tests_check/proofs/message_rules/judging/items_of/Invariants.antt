use Rattle.link_wire.specs.Message.{HaveTotalsIfLengthItems}
use Rattle.tests_check.proofs.message_rules.judging.items_of.Given as goal

abbrev pub invariant-loop-of : goal.invariant-loop-of
invariant-loop-of l = HaveTotalsIfLengthItems l.items.items

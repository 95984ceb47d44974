use Rattle.link_wire.specs.Message.{HaveTotalsIfLengthItems}
use Rattle.tests_wire.proofs.lengths.items_of.Given as goal

abbrev pub invariant-loop-kind : goal.invariant-loop-kind
invariant-loop-kind l = HaveTotalsIfLengthItems l.items.items

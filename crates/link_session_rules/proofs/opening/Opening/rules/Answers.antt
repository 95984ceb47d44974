use Rattle.std.proofs.Common.{sym}
use Rattle.link_session_rules.specs.TransferRules.{broken_transfer_rules}
use Rattle.link_session_rules.proofs.opening.Opening.rules.Goals as goal

pub returns : goal.returns
unfolding broken_transfer_rules
returns c first is =
    rw (
      sym (c.length_item.ensures first is),
      sym (c.length_differs.ensures first is),
      sym (c.length_of_one_segment.ensures first is),
    )
    c.broken_of.ensures

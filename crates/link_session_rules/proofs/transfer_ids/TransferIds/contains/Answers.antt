use Rattle.std.proofs.Common.{arith}
use Rattle.link_session_rules.proofs.Runs.{contains_by}
use Rattle.link_session_rules.proofs.transfer_ids.TransferIds.contains.Goals as goal

pub returns-then-contains : goal.returns-then-contains
returns-then-contains c older at =
    let among = contains_by c.args.self.now older c.args.id at in
    let same = rw c.in-Some.is at among in
    grind (arith, same, c.contains.ensures, c.if-contains.true)

pub returns-else-contains : goal.returns-else-contains
returns-else-contains c older at =
    let among = contains_by c.args.self.now older c.args.id at in
    let same = rw c.in-Some.is at among in
    grind (arith, same, c.contains.ensures, c.if-contains.false, c.any_contains.ensures)

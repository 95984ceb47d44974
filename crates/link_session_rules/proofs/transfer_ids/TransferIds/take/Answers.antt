use Rattle.std.proofs.Common.{◌≡◌, ◌∷◌, Some, refl, sym, ◌∙◌}
use Rattle.link_wire.specs.MessageBuffer.{message_of}
use Rattle.link_session_rules.specs.{Heads.start_id, Remembered.kept_runs, TransferIds.{ids_of, runs_of}}
use Rattle.link_session_rules.proofs.Runs.{kept_then}
use Rattle.link_session_rules.proofs.transfer_ids.TransferIds.take.Goals as goal

pub returns : goal.returns
returns c older initiated at =
    let is : start_id (message_of c.args.message.now) ≡ Some c.in-Some.id =
    sym c.start_id.ensures ∙ c.in-Some.is in
    record {
      runs = rw (is, c.put.ensures.runs at.none)
          (kept_then c.in-Some.id 63 (kept_runs c.args.self.now) (runs_of (ids_of older)) at.runs);
      none = λ none. let some = rw none at c.put.ensures.some in cc;
      jumped = rw is (c.has_jumped-jumped.ensures older initiated at);
    }

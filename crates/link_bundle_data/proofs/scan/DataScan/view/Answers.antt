use Rattle.std.proofs.Common.{Ok, Err, sym, ap, ◌∙◌, ⊎_elim}
use Rattle.link_bundle_types.specs.KeptEid.{name_fits}
use Rattle.link_bundle_data.proofs.Names.{some_left}
use Rattle.link_bundle_data.proofs.Steps.{at_stage, fits_at}
use Rattle.link_bundle_data.proofs.Results.{result_failed, result_head, result_name, result_read, lasts_failed}
use Rattle.link_bundle_data.proofs.scan.DataScan.view.Goals as goal

pub returns-in-Read-clause-seen : goal.returns-in-Read-clause-seen
returns-in-Read-clause-seen c = λ kind seen come.
    ap Ok c.view.ensures.view ∙ sym (result_read (at_stage c.args.self.now c.in-Read.is come))

pub returns-in-Failed-clause-seen : goal.returns-in-Failed-clause-seen
returns-in-Failed-clause-seen c = λ kind seen come.
    sym (result_failed (at_stage c.args.self.now c.in-Failed.is come))

pub returns-in-Failed-clause-lasts : goal.returns-in-Failed-clause-lasts
returns-in-Failed-clause-lasts c = λ below kind seen come more.
    lasts_failed more (at_stage c.args.self.now c.in-Failed.is come)

pub returns-in-Head-clause-seen : goal.returns-in-Head-clause-seen
returns-in-Head-clause-seen c = λ kind seen come.
    let now = c.args.self.now in
    ap Err c.no_limit.ensures
    ∙ ⊎_elim
    (λ head. sym (result_head (at_stage now head.1 come)))
    (λ name. sym (result_name (at_stage now name.2 come)
    (some_left name.1 (name_fits now.draft.eid name.1) (fits_at now _ name.2))))
    c.in-Head.is

use Rattle.std.proofs.Common.{◌∙◌, ⊎_elim}
use Rattle.link_bundle_types.specs.KeptEid.{name_fits}
use Rattle.link_bundle_data.proofs.Names.{some_left}
use Rattle.link_bundle_data.proofs.Steps.{at_stage, fits_at}
use Rattle.link_bundle_data.proofs.Results.{result_failed, result_head, result_name, result_read}
use Rattle.link_bundle_data.proofs.LongHeads.{long_at, result_long, result_none}
use Rattle.link_bundle_data.proofs.scan.DataScan.long_head.Goals as goal

pub returns-in-Read-clause-seen : goal.returns-in-Read-clause-seen
returns-in-Read-clause-seen c = λ kind seen come.
    let now = c.args.self.now in
    let at = at_stage now c.in-Read.is come in
    c.if_judged.ensures
    ∙ result_long kind c.in-Read.found now.draft now.long now.offset seen (result_read at) at.stands
    (long_at now c.in-Read.is come)

pub returns-in-Failed-clause-seen : goal.returns-in-Failed-clause-seen
returns-in-Failed-clause-seen c = λ kind seen come.
    let now = c.args.self.now in
    ⊎_elim
    (λ failed. result_none kind _ seen (result_failed (at_stage now failed.1 come)))
    (⊎_elim
    (λ head. result_none kind _ seen (result_head (at_stage now head.1 come)))
    (λ name. result_none kind _ seen (result_name (at_stage now name.2 come)
    (some_left name.1 (name_fits now.draft.eid name.1) (fits_at now _ name.2)))))
    c.in-Failed.is

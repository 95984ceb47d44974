use Rattle.link_report.specs.Fault.{fault_text}
use Rattle.link_run.specs.Writers.{on_report}
use Rattle.link_run.proofs.Sessions.{then_fault}
use Rattle.link_run_over_bundle_files.proofs.Founds.{between_is, ended}
use Rattle.link_run_over_bundle_files.proofs.walk.finish.Goals as goal

pub returns-in-Some : goal.returns-in-Some
returns-in-Some g c = λ now holds.
    let telling = g.C.BundleConsumer.telling c.args.options.now in
    let open_now = holds.reading.opened in
    rw (c.in-Some.ensures telling.limit now.begun holds.reading.scanned open_now) (record {
      texts = on_report (fault_text c.in-Some.fault);
      said = then_fault c.in-Some.fault (telling.texts now);
      gives = c.report_fault.ensures.gives;
    })

pub returns : goal.returns
returns g c = λ now holds.
    let options = c.args.options.now in
    let walker = c.args.walker.now in
    let telling = g.C.BundleConsumer.telling options in
    let reading = holds.reading in
    let none = c.in_default.ensures telling.limit now.begun reading.scanned reading.opened in
    let known = rw (between_is now none) at holds.known in
    rw c.and.ensures (ended g.W.OutDevice.state g.E.OutDevice.state telling now none
    walker.current.number c.args.writers.now c.end.new.writers c.status-status.result
    (rw (c.is_good.ensures now.bundles known) at c.status-status.ensures)
    c.end.result (c.end.ensures now.bundles known))

use Rattle.std.proofs.Common.{◌+◌, ◌∷◌, [], ◌++◌, Err, refl, ap, sym, ◌∙◌, length-append, arith}
use Rattle.link_bundle_types.specs.BundleView.{viewed_info}
use Rattle.link_run_over_bundle_files.proofs.{Dividing.none_open, Founds.{accepted, refused, lost, stopped}}
use Rattle.link_run_over_bundle_files.proofs.walk.go_on.Goals as goal

pub returns-in-Part-clause-gives : goal.returns-in-Part-clause-gives
returns-in-Part-clause-gives g c = λ so_far known here. rw c.in-Part.is (λ took.
    record {
      written = c.run.result;
      is = c.after.ensures;
      tells = c.run.ensures.gives so_far known
          (accepted here took.0.scanned took.1 _ refl refl refl refl took.0.opened);
      number = here.numbered;
      reading = took.0;
    })

pub returns-in-Some-clause-gives : goal.returns-in-Some-clause-gives
returns-in-Some-clause-gives g c = λ so_far known here. rw c.in-Whole.is (λ took.
    let bundle = so_far.begun ++ c.args.bytes.now in
    let whole = c.in-Some.whole in
    let info = viewed_info whole.info in
    let shown = c.in-Some.ensures.shows bundle took.0.info took.0.scanned took.0.is in
    let few = here.few in (
      info,
      shown.0,
      record {
        written = c.run-told.result;
        is = c.after-in-Whole.ensures;
        tells = c.run-told.ensures.gives so_far known
            (accepted here took.0.scanned took.1 _ refl refl refl refl shown);
        number = c.next.ensures.number (omega (arith, here.numbered))
            ∙ ap (λ n. n + 1) here.numbered
            ∙ sym (length-append so_far.bundles (record { bytes = bundle; info = info } ∷ []));
        reading = record { scanned = c.next.ensures.scanned; opened = none_open _ };
      },
    ))

pub returns-in-Err-clause-gives : goal.returns-in-Err-clause-gives
returns-in-Err-clause-gives g c = λ so_far known here. rw c.in-Refused.is (λ took.
    let bytes = c.before_last.result.now in
    let is = c.before_last.ensures in
    let said = c.in-Err.ensures so_far known (refused bytes is here took) in (
      Err c.in-Err.fault,
      refl,
      lost g.W.OutDevice.state g.E.OutDevice.state
          (g.C.BundleConsumer.telling c.args.options.now) so_far c.args.bytes.now c.in-Refused.fault
          bytes
          is c.args.writers.now c.stop.new.writers c.in-Err.fault said,
    ))

pub returns-in-Ok-clause-gives : goal.returns-in-Ok-clause-gives
returns-in-Ok-clause-gives g c = λ so_far known here. rw c.in-Refused.is (λ took.
    let bytes = c.before_last.result.now in
    let is = c.before_last.ensures in
    let said = c.in-Ok.ensures so_far known (refused bytes is here took) in (
      c.report_fault.result,
      c.ended.ensures,
      stopped g.W.OutDevice.state g.E.OutDevice.state
          (g.C.BundleConsumer.telling c.args.options.now) so_far c.args.bytes.now c.in-Refused.fault
          bytes
          is c.args.writers.now c.stop.new.writers _ said
          c.report_fault.new.self c.report_fault.result c.report_fault.ensures.gives,
    ))

use Rattle.std.proofs.Common.{refl, sym, ap, ◌∙◌, arith}
use Rattle.link_bundle_types.specs.BundleView.{viewed_verdict}
use Rattle.link_run_over_bundle_files.proofs.Dividing.{divided_open}
use Rattle.link_run_over_bundle_files.proofs.current.Current.cut_short.Goals as goal

pub returns-in-Err : goal.returns-in-Err
returns-in-Err c = λ limit begun scanned opened.
    let said = sym (c.view.ensures.seen begun scanned) ∙ ap viewed_verdict c.in-Err.is in
    let some = c.if-count-eq0.false in
    let parts = divided_open limit begun c.in-Err.fault c.in-Err.offset opened
    (omega (arith, c.count.ensures.seen begun scanned, some)) said in
    rw parts.1 refl

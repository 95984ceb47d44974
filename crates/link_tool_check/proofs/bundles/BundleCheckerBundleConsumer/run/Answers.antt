use Rattle.link_run_over_bundle_files.specs.Telling.{with_bytes}
use Rattle.link_run_over_bundle_files.proofs.Told.{told_known, told_then}
use Rattle.link_tool_check.proofs.BundleTexts.{tells_lost, tells_on}
use Rattle.link_tool_check.proofs.bundles.BundleCheckerBundleConsumer.run.Goals as goal

pub returns-in_default-clause-gives : goal.returns-in_default-clause-gives
returns-in_default-clause-gives g c = λ before knows comes. rw c.in_default.is
    (told_known (tells_on _ (c.take_run-written.ensures.gives _ before knows.reading comes))
    (λ reading. record { offset = knows.offset; reading = reading; good = knows.good }))

pub returns-in-Err-clause-gives : goal.returns-in-Err-clause-gives
returns-in-Err-clause-gives g c = λ before knows comes. rw c.in-Some.is
    (tells_lost c.args.options.now before.bundles _
    (c.in-Err.ensures.gives _ before knows.reading comes))

pub returns-in-Ok-clause-gives : goal.returns-in-Ok-clause-gives
returns-in-Ok-clause-gives g c = λ before knows comes. rw c.in-Some.is
    (let told = c.in-Ok.ensures.gives _ before knows.reading comes in
    let accepted = rw c.in-Some.is at comes.accepted in
    told_then (tells_on _ told) (c.end_bundle.ensures.gives (with_bytes before c.args.run.now.bytes.now)
    (record { offset = knows.offset; reading = told.known; good = knows.good }) comes.sized
    accepted.1 comes.numbered))

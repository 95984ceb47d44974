use Rattle.std.proofs.Common.{◌≡◌, ◌+◌, ◌<◌, ◌≤◌, [], length, take, length-take, length-append, ⊎_elim, append-nil, ap, sym, ◌∙◌, refl, arith}
use Rattle.std.proofs.lemmas.{Bool.Decides.nat_tests, List.take-take}
use Rattle.link_wire.specs.Source.{front_of}
use Rattle.link_io.proofs.Sources.{Readies-takes, Readies-over, front_room}
use Rattle.link_run.specs.Reading.{feed_of}
use Rattle.link_run.proofs.{Stands.{settled, not_handed_on, read_fails}, Waiting.waits_then}
use Rattle.link_run_over_bundle_files.specs.BundleRun.{IsCurrentAt}
use Rattle.link_run_over_bundle_files.proofs.Founds.{came, finished}
use Rattle.link_run_over_bundle_files.proofs.walk.take_bytes.Goals as goal

pub returns-in-Ok-eq0-clause-gives : goal.returns-in-Ok-eq0-clause-gives
returns-in-Ok-eq0-clause-gives g c = λ start history stood at.
    let old = feed_of c.args.input.now in
    let new = feed_of c.ready_bytes.new.self in
    let before = c.args.writers.now in
    let writers = c.ready_bytes.new.writers in
    let walker = c.args.walker.now in
    let telling = g.C.BundleConsumer.telling c.args.options.now in
    let knows = g.C.BundleConsumer.knows c.args.options.now in
    let read = c.in-Ok-eq0.ensures.gives at.live in
    let over = read.1.over (grind (arith, nat_tests)) in
    rw c.ended.ensures
    (finished telling (knows walker.consumer) (knows c.finish.new.walker.consumer) c.args.most old
    new writers c.finish.new.writers walker.current c.finish.new.walker.current
    (settled old before writers stood read.0) at
    (Readies-over g.R.InDevice.state old new read.1.readies over) over c.finish.result
    (c.finish.ensures at.so_far at.holds))

pub returns-in-Err-clause-gives : goal.returns-in-Err-clause-gives
returns-in-Err-clause-gives g c = λ start history stood at.
    let old = feed_of c.args.input.now in
    let new = feed_of c.ready_bytes.new.self in
    let before = c.args.writers.now in
    let writers = c.ready_bytes.new.writers in
    ⊎_elim
    (λ stopped. read_fails c.args.most old new writers (settled old before writers stood stopped.0) [] writers c.in-Err.fault _ stopped.1 (omega arith)
    (rw append-nil refl) (rw append-nil stood.unshown) refl refl)
    (λ lost. rw lost.0 (not_handed_on old before writers stood c.args.most c.in-Err.fault lost.1 lost.2))
    (c.in-Err.ensures.gives at.live)

pub returns-clause-gives : goal.returns-clause-gives
returns-clause-gives g c = λ start history stood at.
    let look = g.R.InDevice.state in
    let telling = g.C.BundleConsumer.telling c.args.options.now in
    let old = feed_of c.args.input.now in
    let mid = feed_of c.ready_bytes.new.self in
    let new = feed_of c.give.new.self in
    let writers = c.ready_bytes.new.writers in
    let current = c.args.walker.now.current in
    let read = c.in-Ok.ensures.gives at.live in
    let count = c.judge-count.result.0 in
    let shown = c.front.result.now in
    let ready = c.min-ready.result in
    let run = take count (take ready shown) in
    let sizes = length-take ready shown in
    let run_size = length-take count (take ready shown) in
    let bound : length at.so_far.bundles + (length at.so_far.begun + length (take ready shown))
    < 9223372036854775808 = omega (
      arith,
      ap length c.front.ensures.front,
      sizes,
      at.few,
      front_room look mid,
      read.1.readies.count,
      at.source_at.given,
    ) in
    let short : length at.so_far.begun + length (take ready shown) < 9223372036854775808 = omega (arith, bound) in
    let reading : IsCurrentAt c.limit.result current at.so_far.begun = rw c.limit.ensures at.holds.reading in
    let counted = c.judge-count.ensures.some at.so_far.begun reading short in
    let some : 0 < length run = omega (arith, counted, sizes, run_size) in
    let size : length run ≤ c.args.most = omega (arith, c.min-ready.ensures, sizes, run_size) in
    let same : take count (front_of look mid) ≡ run =
    sym (take-take count ready shown (omega (arith, sizes))
    ∙ ap (take count) c.front.ensures.front) in
    let took = rw (c.limit.ensures, c.by_blocks.ensures) at
    (c.judge-count.ensures.took at.so_far.begun reading short) in
    came telling (g.C.BundleConsumer.knows c.args.options.now c.args.walker.now.consumer)
    (g.C.BundleConsumer.knows c.args.options.now c.go_on-progress.new.consumer)
    c.args.most old new writers c.go_on-progress.new.writers current c.go_on-progress.new.current
    (settled old c.args.writers.now writers stood read.0) at run
    (Readies-takes look old mid new run read.1.readies
    (rw (sym same) c.give.ensures.takes) some)
    (c.give.ensures.live read.1.live) some size c.go_on-progress.result
    g.C.BundleConsumer.tells_blocks c.judge-count.new.self c.judge-count.ensures.number c.judge-count.result.1 took
    (c.go_on-progress.ensures.gives at.so_far at.holds.known (record {
      numbered = c.judge-count.ensures.number ∙ at.holds.number;
      placed = c.size-before.ensures ∙ at.holds.reading.scanned.come.count;
      opened = at.holds.reading.opened;
      some = some;
      few = omega (arith, bound, length-append at.so_far.begun run, run_size);
      sized = omega (
        arith,
        ap length c.front.ensures.front,
        sizes,
        at.sized,
        front_room look mid,
        read.1.readies.count,
        at.source_at.given,
        length-append at.so_far.begun run,
        run_size,
      );
    }) took)

pub returns-clause-waits : goal.returns-clause-waits
returns-clause-waits g c = waits_then c.args.writers.now c.in-Ok.ensures.waits c.give.ensures.unread

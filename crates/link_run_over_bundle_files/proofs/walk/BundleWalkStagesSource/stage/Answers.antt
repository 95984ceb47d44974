use Rattle.std.proofs.Common.{◌≡◌, ℕ, List, [], ◌++◌, length, refl, ap, sym, ◌∙◌, subst, append-nil, arith}
use Rattle.std.proofs.lemmas.Bool.{false≢true}
use Rattle.link_io.proofs.Sources.{Takes-none}
use Rattle.link_run.specs.Reading.{feed_of}
use Rattle.link_run_over_bundle_files.specs.{BundleRun.IsBundleWalkAt, Telling.none_yet}
use Rattle.link_run_over_bundle_files.proofs.{Founds.{stepped, no_size}, Outcomes.told_none}
use Rattle.link_run_over_bundle_files.proofs.walk.BundleWalkStagesSource.stage.Goals as goal

pub returns-in-Begin-clause-gives : goal.returns-in-Begin-clause-gives
returns-in-Begin-clause-gives g c = λ start history. rw c.in-Begin.is (λ stood at.
    let telling = g.C.BundleConsumer.telling c.args.self.now.options in
    let source = feed_of c.args.input.now in
    let none : history ++ [] ≡ [] = append-nil history ∙ at.nothing in
    let unread = ap length at.unread in
    let Stays : List ℕ → Type 0 = IsBundleWalkAt g.R.InDevice.state telling
    (g.C.BundleConsumer.knows c.args.self.now.options c.begin.new.self)
    c.args.self.now.walker.current source in
    rw c.after.ensures (stepped 0 source source c.args.writers.now c.begin.new.writers stood
    (Takes-none g.R.InDevice.state source) (omega arith) (omega (arith, unread)) Stays
    c.begin.result
    (c.begin.ensures.gives at.holds.known) refl (rw (none, told_none telling) refl)
    (rw (none, told_none telling) refl)
    (λ known. subst Stays (sym none) (record {
      source_at = at.source_at;
      live = at.live;
      so_far = none_yet;
      holds = record { number = at.holds.number; reading = at.holds.reading; known = known };
      divides = λ more. refl;
      few = omega arith;
      sized = omega (arith, no_size);
    })) (λ is. absurd (false≢true is)) (λ some. absurd (omega (arith, some)))))

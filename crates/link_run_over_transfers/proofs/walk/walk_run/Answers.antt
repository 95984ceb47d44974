use Rattle.std.proofs.Common.{[], ◌∙◌, ap}
use Rattle.link_run_over_transfers.specs.Walk.{Walked}
use Rattle.link_run_over_transfers.proofs.Texts.{texts_are, nothing_told, nothing_shown, told_lasts}
use Rattle.link_run_over_transfers.proofs.walk.walk_run.Goals as goal

pub new-requires-5-clause-begins : goal.new-requires-5-clause-begins
new-requires-5-clause-begins g c =
    let telling = g.C.Consumer.telling c.args.options in
    record {
      texts = texts_are telling []
          ∙ ap (λ (w : Walked). telling.texts w.events) (nothing_told telling.manner)
          ∙ c.requires.silent;
      unshown = nothing_shown telling;
      lasting = told_lasts telling;
    }

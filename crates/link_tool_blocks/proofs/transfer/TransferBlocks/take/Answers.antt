use Rattle.std.proofs.Common.{◌≡◌, true, sym, refl, ap, ◌∙◌, append-nil, length-append, arith}
use Rattle.std.proofs.lemmas.Bool.{false≢true}
use Rattle.link_run_judge.specs.Unpacking.{is_selected}
use Rattle.link_run_over_bundle_files.proofs.Told.{told_none, told_known}
use Rattle.link_tool_blocks.proofs.transfer.TransferBlocks.take.Goals as goal

pub returns-then-not-is_selected-clause-gives : goal.returns-then-not-is_selected-clause-gives
returns-then-not-is_selected-clause-gives g c = λ transfer closed room shows.
    let none = rw shows.judging.id at c.if-not-is_selected.ensures in
    rw (sym none) (told_none refl (record {
      judging = c.take.ensures.follows transfer closed shows.judging;
      reading = λ selected. absurd (false≢true (none ∙ selected));
    }))

pub returns-clause-gives : goal.returns-clause-gives
returns-clause-gives g c = λ transfer closed room shows.
    let judging = shows.judging in
    let some : is_selected c.args.options.now.only transfer.first.id ≡ true =
    sym (rw judging.id at c.if-not-is_selected.ensures) in
    let told = c.tell_piece.ensures.gives transfer.content (sym judging.size) judging.judged
    (shows.reading some) tt in
    rw (some, append-nil, append-nil) (told_known (rw judging.id at told) (λ known. record {
      judging = record {
        id = judging.id;
        announced = judging.announced;
        size = omega (arith, judging.size, length-append transfer.content c.args.piece.now);
        judged = known.0;
      };
      reading = λ selected. known.1;
    }))

use Rattle.std.proofs.{Common.{sym, refl, ◌∙◌, arith}, lemmas.Bool.false≢true}
use Rattle.link_bundle.proofs.Pieces.{judged_fed, judged_stepped}
use Rattle.link_bundle.proofs.scan.BundleScan.judge_piece.Goals as goal
use Rattle.link_bundle.proofs.scan.BundleScan.judge_piece.Goals.{else-taken-piece-via-then-taken-piece+else-matches, in-Ended, in_default, else-taken-piece-via-else-taken-piece}

pub returns-then-matches-clause-judged : goal.returns-then-matches-clause-judged
returns-then-matches-clause-judged c = λ content before.
    judged_stepped c.args.self.now c.feed-taken.new.self content c.args.piece.now
    c.feed-taken.result before c.feed-taken.ensures.seen c.feed-taken.ensures.count
    c.step.new.self _ c.if-taken-piece.true refl
    (λ seen come. sym (c.state.ensures.seen seen come) ∙ elim c.match-matches.branch [
      | in-Ended w ↦ w.in-Ended.is
      | in_default w ↦ absurd (false≢true (sym w.matches-is ∙ c.if-matches.true))
    ])
    c.step.ensures.seen

pub returns-else-taken-piece-clause-judged : goal.returns-else-taken-piece-clause-judged
returns-else-taken-piece-clause-judged c = λ content before.
    judged_fed c.args.self.now c.feed-taken.new.self content c.args.piece.now
    c.feed-taken.result before c.feed-taken.ensures.seen c.feed-taken.ensures.count
    (λ seen come short ended. elim c.else-taken-piece.branch [
      | else-taken-piece-via-then-taken-piece+else-matches w ↦ elim w.match-matches.branch [
        | in-Ended m ↦ absurd (false≢true (sym w.if-matches.false ∙ m.matches-is))
        | in_default m ↦ m.in_default.not-Ended (w.state.ensures.seen seen come ∙ ended)
      ]
      | else-taken-piece-via-else-taken-piece w ↦ absurd (omega arith)
    ])

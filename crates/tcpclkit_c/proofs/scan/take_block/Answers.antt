use Rattle.std.proofs.{Common.{length, inl, inr, sym, ◌∙◌}, lemmas.Bool.eqb-true}
use Rattle.std.proofs.lemmas.List.{nil_from_length}
use Rattle.tcpclkit_c.proofs.Blocks.{takes_none, takes_some}
use Rattle.tcpclkit_c.proofs.scan.take_block.Goals.{then-is_empty-via-then-is_empty, then-is_empty-via-else-is_empty+then-not-going}
use Rattle.tcpclkit_c.proofs.scan.take_block.Goals as goal

pub returns-then-is_empty : goal.returns-then-is_empty
returns-then-is_empty c = takes_none c.args.scan.now c.args.piece.now
    (λ seen come. elim c.then-is_empty.branch [
      | then-is_empty-via-then-is_empty w ↦
          inl (nil_from_length c.args.piece.now
          (eqb-true (length c.args.piece.now) 0 (sym c.is_empty.ensures ∙ w.if-is_empty.true)))
      | then-is_empty-via-else-is_empty+then-not-going w ↦
          inr (sym (w.going.ensures.seen seen come) ∙ w.if-not-going.true)
    ])

pub returns : goal.returns
returns c =
    let fed = c.feed_block in
    takes_some _ _ _ _ fed.ensures.taken fed.ensures.blocks fed.ensures.stops

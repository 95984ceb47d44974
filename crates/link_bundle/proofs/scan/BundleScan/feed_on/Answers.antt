use Rattle.std.proofs.{Common.{inl, inr, sym, ◌∙◌, arith}, lemmas.List.take_rest}
use Rattle.link_bundle.proofs.{Feeding.fed_all, Taking.fed_on}
use Rattle.link_bundle.proofs.scan.BundleScan.feed_on.Goals as goal

pub loop-taken-preserved : goal.loop-taken-preserved
loop-taken-preserved c =
    let bytes = c.args.bytes.now in
    let taken = c.loop-taken.taken in
    fed_on c.args.self.now c.loop-taken.self c.advance-taken.new.self bytes taken _
    c.loop-taken.invariant (rw (take_rest bytes taken) at c.advance-taken.ensures)

pub returns-else-going : goal.returns-else-going
returns-else-going c =
    let fed = c.loop-taken.invariant in
    assumption (fed_all fed (λ seen come.
    inl (sym (c.going.ensures.seen _ (fed.seen seen come)) ∙ c.if-going.false)))

pub returns-after-loop-taken : goal.returns-after-loop-taken
returns-after-loop-taken c =
    assumption (fed_all c.loop-taken.invariant (λ seen come. inr (omega arith)))
